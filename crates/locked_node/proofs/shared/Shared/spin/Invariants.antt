use Rattle.std.proofs.Common.{◌≡◌}
use Rattle.locked_node.proofs.shared.Shared.spin.Given as goal

-- nothing has changed while the lock was taken by others
abbrev pub invariant-loop : goal.invariant-loop
invariant-loop g l = (l.seat.table_id ≡ l.fn.seat.table_id) × (l.seat.me ≡ l.fn.seat.me)
