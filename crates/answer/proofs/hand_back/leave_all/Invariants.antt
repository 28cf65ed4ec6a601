use Rattle.std.proofs.Common.{◌≡◌, ◌+◌, ◌*◌, ◌≤◌, vec_len}
use Rattle.answer.specs.Decision.{Leaves}
use Rattle.answer.proofs.hand_back.leave_all.Given as goal

-- the clients so far left, each by two calls at most
abbrev pub invariant-loop-pass : goal.invariant-loop-pass
invariant-loop-pass g l =
    record {
      lock : l.caller.lock ≡ l.shared;
      leaves : Leaves l.fn.caller l.fn.passes.items l.passes.items l.caller;
      allowance : l.fn.caller.allowance + 2 * vec_len l.passes
          ≤ l.caller.allowance + 2 * vec_len l.fn.passes;
    }

abbrev pub decreases-loop-pass : goal.decreases-loop-pass
decreases-loop-pass g l = vec_len l.passes
