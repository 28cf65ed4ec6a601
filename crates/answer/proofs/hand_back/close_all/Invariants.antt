use Rattle.std.proofs.Common.{◌≡◌, ◌+◌, ◌≤◌, vec_len}
use Rattle.answer.specs.Decision.{Closes, leases_of}
use Rattle.answer.proofs.hand_back.close_all.Given as goal

-- the links so far were closed, each by a call
abbrev pub invariant-loop-lease : goal.invariant-loop-lease
invariant-loop-lease g l =
    record {
      lock : l.caller.lock ≡ l.shared;
      closes : Closes l.fn.caller (leases_of l.fn.leases.items) (leases_of l.leases.items) l.caller;
      allowance : l.fn.caller.allowance + vec_len l.leases
          ≤ l.caller.allowance + vec_len l.fn.leases;
    }

abbrev pub decreases-loop-lease : goal.decreases-loop-lease
decreases-loop-lease g l = vec_len l.leases
