use Rattle.std.proofs.Common.{◌≤◌}
use Rattle.node_threads.proofs.cancel.seats.Free.alike.Given as goal

-- no more than were looked at
abbrev pub invariant-loop-taken : goal.invariant-loop-taken
invariant-loop-taken l = l.alike ≤ l.taken-index
