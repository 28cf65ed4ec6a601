use Rattle.std.proofs.Common.{sym, ◌∙◌}
use mathlib.Core.Option.{none}
use Rattle.atomic_table.specs.Table.{step}
use Rattle.locked_node.proofs.Giving.{lock_gives}
use Rattle.locked_node.proofs.shared.Shared.give.Goals as goal

pub swap-requires : goal.swap-requires
swap-requires g c = let called = c.requires.called in (
  c.requires.own ∙ sym c.self.view_is,
  c.self.invariant.0,
  lock_gives _ _ _ c.args.seat.now.me called.old called.call called.new (step c.self.inside.table.shared.table_id.slots 0 0 0 none) called.may called.found called.slot called.step,
)
