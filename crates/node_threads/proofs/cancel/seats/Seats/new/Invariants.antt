use Rattle.std.proofs.Common.{◌≡◌, ◌^◌, vec_len}
use Rattle.node_threads.proofs.cancel.seats.Seats.new.Given as goal

-- the seats were doubled so often
abbrev pub invariant-loop-i : goal.invariant-loop-i
invariant-loop-i l = vec_len l.seats ≡ 2 ^ l._i
