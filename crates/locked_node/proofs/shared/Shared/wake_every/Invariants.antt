use Rattle.std.proofs.Common.{◌≡◌}
use Rattle.locked_node.proofs.shared.Shared.wake_every.Given as goal

-- nothing has changed but the slots' words
abbrev pub invariant-loop-slot : goal.invariant-loop-slot
invariant-loop-slot g l = (l.seat.table_id ≡ l.fn.seat.table_id) × (l.seat.me ≡ l.fn.seat.me)
