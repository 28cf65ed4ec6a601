use Rattle.std.proofs.Common.{◌≡◌}
use Rattle.locked_node.proofs.shared.Shared.wake_slot.Given as goal

-- nothing has changed but the slot's word
abbrev pub invariant-loop : goal.invariant-loop
invariant-loop g l = (l.seat.table_id ≡ l.fn.seat.table_id) × (l.seat.me ≡ l.fn.seat.me)
