use Rattle.scram.specs.Prepare.{is_prohibited}
use Rattle.scram.proofs.preparation.is_prohibited_at.Goals as goal

pub returns : goal.returns
unfolding is_prohibited
returns c = c.is_within.ensures
