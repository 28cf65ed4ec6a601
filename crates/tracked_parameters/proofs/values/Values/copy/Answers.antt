use Rattle.tracked_parameters.specs.Stored.{all_kept}
use Rattle.tracked_parameters.proofs.UpdateLemmas.{copied}
use Rattle.tracked_parameters.proofs.values.Values.copy.Goals as goal

pub returns : goal.returns
returns c =
    copied c.args.self.now (all_kept c.in_ok-unknown.field-0.items) c.update.new.self c.len.result c.len.ensures.count c.in_ok-unknown.ensures c.in_ok-update.ensures.ok
