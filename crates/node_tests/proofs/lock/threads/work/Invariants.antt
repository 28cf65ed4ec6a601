use Rattle.std.proofs.Common.{◌≡◌}
use Rattle.node_tests.proofs.lock.threads.work.Given as goal

-- it is the caller of that lock still
abbrev pub invariant-loop-i : goal.invariant-loop-i
invariant-loop-i g l = (l.caller.lock ≡ l.fn.caller.lock) × (l.caller.start ≡ l.fn.caller.start)
