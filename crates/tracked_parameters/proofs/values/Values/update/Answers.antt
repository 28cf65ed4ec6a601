use Rattle.std.proofs.Common.{◌∙◌, arith}
use Rattle.tracked_parameters.proofs.ValueLemmas.{length-set_at}
use Rattle.tracked_parameters.proofs.UpdateLemmas.{update_step, update_all, update_none}
use Rattle.tracked_parameters.proofs.values.Values.update.Goals as goal

pub returns-then-agrees-clause-ok : goal.returns-then-agrees-clause-ok
returns-then-agrees-clause-ok c = update_none c.args.self.now c.args.others.now c.requires (c.agrees.ensures.0 c.if-agrees.true)

pub loop-place-preserved : goal.loop-place-preserved
loop-place-preserved c = record {
  first = update_step c.args.self.now c.args.others.now c.loop-place.self c.update_at.new.self c.loop-place.place (omega arith) c.requires c.loop-place.invariant.first c.in_ok-update_at.ensures.ok;
  same = length-set_at _ _ _ _ c.in_ok-update_at.ensures.ok ∙ c.loop-place.invariant.same;
}

pub returns-clause-ok : goal.returns-clause-ok
returns-clause-ok c =
    c.loop-place.invariant.first ∙ update_all c.args.self.now c.args.others.now c.loop-place.place (omega arith)
