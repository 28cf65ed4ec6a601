use Rattle.scram.specs.Prepare.{is_nothing}
use Rattle.scram.proofs.preparation.is_nothing_at.Goals as goal

pub returns : goal.returns
unfolding is_nothing
returns c = c.is_within.ensures
