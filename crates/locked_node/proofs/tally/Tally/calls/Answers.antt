use Rattle.std.proofs.Common.{ap, sym, ◌∙◌, get_or, ℕ}
use Rattle.locked_node.specs.Totals.{calls_at}
use Rattle.locked_node.proofs.Cells.{calls_there}
use Rattle.locked_node.proofs.tally.Tally.calls.Goals as goal

pub returns : goal.returns
returns c =
    ap (λ (n : ℕ). get_or c.args.self.now.cells n 0) c.start_of.ensures.place
    ∙ (sym (calls_there c.args.self.now c.index.result c.index.ensures.within)
    ∙ ap (λ (n : ℕ). calls_at c.args.self.now n) c.index.ensures.value)
