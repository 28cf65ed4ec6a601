use Rattle.std.proofs.Common.{◌<◌, ◌+◌, length, sym, ◌∙◌, subst, arith}
use mathlib.Core.Option.{none}
use Rattle.std.proofs.lemmas.List.{length-append}
use Rattle.atomic_table.specs.Table.{Me, step}
use Rattle.locked_node.specs.declared.rule.Share.{Share}
use Rattle.locked_node.specs.Journal.{JournalView}
use Rattle.locked_node.proofs.Locking.{lock_joins, lock_looks}
use Rattle.locked_node.proofs.shared.Shared.unite.Goals as goal

pub join_seat-requires : goal.join_seat-requires
join_seat-requires g c = (
  c.requires.own.0 ∙ sym c.self.view_is,
  c.requires.own.1 ∙ sym c.self.view_is,
  c.requires.empty.1,
  c.self.invariant.0,
  lock_joins _ _ c.args.seat.now.me.0 _ c.args.other.me.0 c.requires.idle.0 c.requires.idle.1 c.requires.some,
)

pub load-requires : goal.load-requires
load-requires g c = (
  c.join_seat.ensures.0 ∙ (c.requires.own.0 ∙ sym c.self.view_is),
  c.self.invariant.0,
  lock_looks _ _ _ c.join_seat.new.seat.me (step c.self.inside.table.shared.table_id.slots 0 0 0 none)
      (subst (λ (m : Me JournalView Share). 0 < m.0.allowance + (length m.0.begun + length m.0.made)) (sym c.join_seat.ensures.2)
      (let b = length-append c.args.seat.now.me.0.begun c.args.other.me.0.begun in let m = length-append c.args.seat.now.me.0.made c.args.other.me.0.made in let s = c.requires.some in omega (arith, b, m, s))),
)
