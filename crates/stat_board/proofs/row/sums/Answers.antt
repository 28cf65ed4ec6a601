use Rattle.std.proofs.Common.{◌+◌, refl, sym, ◌∙◌}
use Rattle.stat_board.proofs.Rows.{joined_more, joined_all, at_added, length_added}
use Rattle.stat_board.proofs.row.sums.Goals as goal

pub loop-i-preserved : goal.loop-i-preserved
loop-i-preserved c = joined_more (λ x y. x + y) _ _ c.loop-i.row c.loop-i.i _ c.loop-i-test.true refl c.loop-i.invariant

pub returns : goal.returns
returns c =
    joined_all (λ x y. x + y) c.args.one.now c.args.other.now c.loop-i.row _ c.loop-i.i c.loop-i-test.false
    (length_added c.args.one.now c.args.other.now (c.told-one ∙ sym c.told-other) ∙ c.told-one) (at_added c.args.one.now c.args.other.now) c.loop-i.invariant
