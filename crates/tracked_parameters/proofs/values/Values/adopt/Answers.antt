use Rattle.std.proofs.Common.{◌∙◌, arith}
use Rattle.tracked_parameters.proofs.ValueLemmas.{adopt_step, adopt_all, length-set_at}
use Rattle.tracked_parameters.proofs.values.Values.adopt.Goals as goal

pub loop-place-preserved : goal.loop-place-preserved
loop-place-preserved c = record {
  first = adopt_step c.args.self.now c.args.present.now c.loop-place.self c.adopt_at.new.self c.loop-place.place (omega arith) c.requires c.loop-place.invariant.first c.in_ok-adopt_at.ensures.ok;
  same = length-set_at _ _ _ _ c.in_ok-adopt_at.ensures.ok ∙ c.loop-place.invariant.same;
}

pub returns-clause-ok : goal.returns-clause-ok
returns-clause-ok c =
    c.loop-place.invariant.first ∙ adopt_all c.args.self.now c.args.present.now c.loop-place.place (omega arith)
