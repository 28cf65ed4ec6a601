use Rattle.node_threads.specs.Balance.{Balanced}
use Rattle.node_threads.proofs.session.leases.acquire.Given as goal

-- a client that waits has nothing
abbrev pub invariant-loop : goal.invariant-loop
invariant-loop g l = Balanced l.fn.caller l.caller
