use Rattle.std.proofs.Common.{◌≡◌, vec_len}
use Rattle.node_threads.proofs.cancel.seats.halve_each.Given as goal

-- each seat so far has a new half
abbrev pub invariant-loop-seat : goal.invariant-loop-seat
invariant-loop-seat l = (vec_len l.halves ≡ l.seat-index) × (vec_len l.initial.halves ≡ 0)
