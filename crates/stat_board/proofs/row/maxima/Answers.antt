use Rattle.std.proofs.Common.{sym, ◌∙◌}
use Rattle.std.specs.Prelude.{max}
use Rattle.stat_board.proofs.Rows.{joined_more, joined_all, at_greatest, length_greatest}
use Rattle.stat_board.proofs.row.maxima.Goals as goal

pub loop-i-preserved : goal.loop-i-preserved
loop-i-preserved c = joined_more (λ x y. max x y) _ _ c.loop-i.row c.loop-i.i _ c.loop-i-test.true c.max.ensures c.loop-i.invariant

pub returns : goal.returns
returns c = let same = c.told-one ∙ sym c.told-other in
    joined_all (λ x y. max x y) c.args.one.now c.args.other.now c.loop-i.row _ c.loop-i.i c.loop-i-test.false
    (length_greatest c.args.one.now c.args.other.now same ∙ c.told-one) (λ k. at_greatest c.args.one.now c.args.other.now k same) c.loop-i.invariant
