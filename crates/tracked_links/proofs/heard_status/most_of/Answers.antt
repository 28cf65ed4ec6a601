use Rattle.std.proofs.Common.{arith}
use Rattle.tracked_links.proofs.StatusLemmas.{enough_next}
use Rattle.tracked_links.proofs.heard_status.most_of.Goals as goal

pub loop-place-preserved : goal.loop-place-preserved
loop-place-preserved c = record {
  enough = enough_next c.args.names.now c.loop-place.place c.loop-place.most c.most_at.result c.max-most.result c.loop-place.invariant.enough c.most_at.ensures.enough
      (omega (arith, c.max-most.ensures)) (omega (arith, c.max-most.ensures));
  small = omega (arith, c.max-most.ensures, c.loop-place.invariant.small, c.most_at.ensures.small);
}
