use Rattle.std.proofs.Common.{◌≡◌}
use Rattle.node_tests.proofs.lock.turns.use_link.Given as goal

-- the caller is of the same lock
abbrev pub invariant-loop : goal.invariant-loop
invariant-loop g l = (l.caller.lock ≡ l.fn.caller.lock) × (l.caller.start ≡ l.fn.caller.start)
