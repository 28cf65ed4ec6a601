use Rattle.std.proofs.Common.{◌≡◌}
use Rattle.thread_tests.proofs.scene.await_held.Given as goal

-- the caller is of the same lock
abbrev pub invariant-loop-look : goal.invariant-loop-look
invariant-loop-look g l = (l.caller.lock ≡ l.fn.caller.lock) × (l.caller.start ≡ l.fn.caller.start)
