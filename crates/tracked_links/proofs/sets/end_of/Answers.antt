use Rattle.std.proofs.Common.{refl}
use Rattle.tracked_links.proofs.SetLemmas.{answered_refused, answered_set}
use Rattle.tracked_links.proofs.sets.end_of.Goals as goal

pub returns-in-Some : goal.returns-in-Some
returns-in-Some c =
    answered_refused c.refused.result c.args.sink.now c.kept.result.now c.in-Some.error.now c.args.stayed.now c.kept.ensures (c.if-not-is_release.ensures refl) c.in-Some.ensures.found c.refused.ensures

pub returns-in-None : goal.returns-in-None
returns-in-None c =
    answered_set c.whole.result c.args.sink.now c.kept.result.now c.is_over.result c.args.stayed.now c.kept.ensures c.is_over.ensures (c.if-not-is_release.ensures refl) c.in-None.ensures.none c.whole.ensures
