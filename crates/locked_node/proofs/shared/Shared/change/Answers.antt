use Rattle.std.proofs.Common.{ℕ, sym, ◌∙◌, eqb, subst, ◌<◌}
use mathlib.Core.Option.{none}
use prog.Atomic.{either}
use Rattle.atomic_table.specs.Seated.{TableId}
use Rattle.atomic_table.specs.Table.{step}
use Rattle.locked_node.proofs.Locking.{lock_rests}
use Rattle.locked_node.proofs.shared.Shared.change.Goals as goal

pub compare_exchange-requires : goal.compare_exchange-requires
compare_exchange-requires g c = (
  c.requires.own ∙ sym c.self.view_is,
  subst (λ (t : TableId). c.args.word < t.words) (sym c.self.view_is) c.requires.word.1,
  lock_rests _ _ _ c.args.seat.now.me c.args.word (λ (n : ℕ). either (eqb n c.args.found) c.args.new n) (step c.self.inside.table.shared.table_id.slots c.args.word c.args.found c.args.new none) c.requires.word.0,
)
