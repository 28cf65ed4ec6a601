use Rattle.node_threads.specs.Balance.{Moves, a_pass}
use Rattle.node_threads.proofs.session.client.leave.Given as goal

-- the pass is still in hand
abbrev pub invariant-loop : goal.invariant-loop
invariant-loop g l = Moves a_pass l.fn.caller a_pass l.caller
