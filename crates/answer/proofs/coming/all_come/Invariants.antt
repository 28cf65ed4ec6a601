use Rattle.std.proofs.Common.{◌≡◌, ◌+◌, ◌*◌, ◌≤◌, take, vec_len, vec_capacity}
use Rattle.answer.specs.Decision.{Comes, has}
use Rattle.answer.proofs.coming.all_come.Given as goal

-- the clients so far came, each by three calls at most
abbrev pub invariant-loop-client : goal.invariant-loop-client
invariant-loop-client g l =
    record {
      lock : l.caller.lock ≡ l.shared;
      comes : Comes l.fn.caller (take l.client-index l.clients) (has l.fn.held) (has l.held) l.caller;
      allowance : l.fn.caller.allowance ≤ l.caller.allowance + 3 * l.client-index;
      passes : (vec_capacity l.held.passes ≡ vec_capacity l.fn.held.passes)
          × (vec_len l.held.passes ≤ vec_len l.fn.held.passes + l.client-index);
      leases : (vec_capacity l.held.leases ≡ vec_capacity l.fn.held.leases)
          × (vec_len l.held.leases ≤ vec_len l.fn.held.leases + l.client-index);
    }
