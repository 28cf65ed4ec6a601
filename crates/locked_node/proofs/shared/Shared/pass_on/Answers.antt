use Rattle.std.proofs.Common.{sym, subst}
use Rattle.atomic_table.specs.Table.{Me}
use Rattle.locked_node.specs.Journal.{JournalView}
use Rattle.locked_node.specs.Lock.{Given}
use Rattle.locked_node.specs.declared.rule.Share.{Share}
use Rattle.locked_node.proofs.shared.Shared.pass_on.Goals as goal

pub returns-in-One-clause-given : goal.returns-in-One-clause-given
returns-in-One-clause-given g c = subst (λ (me : Me JournalView Share). Given c.args.seat.now.me me) (sym c.wake_slot.ensures.same) c.give.ensures.given

pub returns-in-All-clause-given : goal.returns-in-All-clause-given
returns-in-All-clause-given g c = subst (λ (me : Me JournalView Share). Given c.args.seat.now.me me) (sym c.wake_every.ensures.same) c.give.ensures.given
