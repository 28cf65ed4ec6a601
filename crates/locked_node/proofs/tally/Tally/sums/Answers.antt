use Rattle.std.proofs.Common.{ap, sym, ◌∙◌, ℕ}
use Rattle.locked_node.specs.Totals.{Row, row_at}
use Rattle.locked_node.proofs.Cells.{row_there}
use Rattle.locked_node.proofs.tally.Tally.sums.Goals as goal

pub returns : goal.returns
returns c =
    sym (ap (λ (r : Row). r.sums) (row_there c.args.self.now c.index-kind.result c.index-kind.ensures.within))
    ∙ ap (λ (n : ℕ). (row_at c.args.self.now n).sums) c.index-kind.ensures.value
