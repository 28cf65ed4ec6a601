use Rattle.std.proofs.Common.{sym, ◌∙◌}
use mathlib.Core.Option.{none}
use Rattle.atomic_table.specs.Table.{step}
use Rattle.locked_node.proofs.Locking.{lock_returns}
use Rattle.locked_node.proofs.shared.Shared.put_back.Goals as goal

pub swap-requires : goal.swap-requires
swap-requires g c = let found = c.requires.found in (
  c.requires.own ∙ sym c.self.view_is,
  c.self.invariant.0,
  lock_returns _ _ _ c.args.seat.now.me found.journal (step c.self.inside.table.shared.table_id.slots 0 0 0 none) found.found found.slot,
)
