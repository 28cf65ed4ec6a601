use Rattle.std.proofs.Common.{subst}
use Rattle.locked_node.specs.Journal.{JournalValue, CountsWithin}
use Rattle.locked_node.specs.Totals.{calls_at}
use Rattle.locked_node.proofs.Histories.{history_numbers}
use Rattle.locked_node.proofs.journal.Journal.view.Goals as goal

pub returns-clause-numbers : goal.returns-clause-numbers
returns-clause-numbers g c = subst (λ (j : JournalValue g.row.S.Denot). CountsWithin (calls_at j.log.totals) j.view) c.self.view_is (history_numbers _ c.self.invariant)
