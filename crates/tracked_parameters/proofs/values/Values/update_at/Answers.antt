use Rattle.tracked_parameters.proofs.UpdateLemmas.{update_unreported, update_taken}
use Rattle.tracked_parameters.proofs.values.Values.update_at.Goals as goal

pub returns-in_default-clause-ok : goal.returns-in_default-clause-ok
returns-in_default-clause-ok c =
    update_unreported c.args.self.now c.args.others.now c.args.place c.at.result c.at.ensures.value c.in_default.is

pub returns-clause-ok : goal.returns-clause-ok
returns-clause-ok c =
    update_taken c.set.result c.args.self.now c.args.others.now c.set.new.self c.args.place c.at.result c.in-Some.value c.at.ensures.value c.in-Some.is c.set.ensures.ok
