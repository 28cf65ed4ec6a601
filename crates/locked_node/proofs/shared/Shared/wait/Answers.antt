use Rattle.std.proofs.Common.{◌<◌, ℕ, sym, ◌∙◌, subst, arith}
use mathlib.Core.Option.{none}
use Rattle.atomic_table.specs.Table.{Me, step}
use Rattle.locked_node.specs.declared.rule.Share.{Share}
use Rattle.locked_node.specs.Journal.{JournalView}
use Rattle.locked_node.specs.Lock.{stake}
use Rattle.locked_node.proofs.Locking.{lock_takes}
use Rattle.locked_node.proofs.shared.Shared.wait.Goals as goal

pub swap-requires : goal.swap-requires
swap-requires g c = (
  c.loop.invariant.0 ∙ (c.requires.own ∙ sym c.self.view_is),
  c.self.invariant.0,
  lock_takes _ _ _ c.loop.seat.me (λ (n : ℕ). 2) (step c.self.inside.table.shared.table_id.slots 0 2 0 none) (λ n e. omega arith)
      (subst (λ (m : Me JournalView Share). 0 < stake m.0) (sym c.loop.invariant.1) c.requires.some),
)
