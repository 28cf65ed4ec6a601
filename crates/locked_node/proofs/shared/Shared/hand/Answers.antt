use Rattle.std.proofs.Common.{sym, ◌∙◌}
use Rattle.locked_node.proofs.Locking.{lock_splits}
use Rattle.locked_node.proofs.shared.Shared.hand.Goals as goal

pub split_seat-requires : goal.split_seat-requires
split_seat-requires g c = (
  c.requires.own ∙ sym c.self.view_is,
  c.self.invariant.0,
  lock_splits _ _ c.args.seat.now.me.0 c.requires.more c.requires.idle,
)
