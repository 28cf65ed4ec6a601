use Rattle.scram.specs.Prepare.{is_space}
use Rattle.scram.proofs.preparation.is_space_at.Goals as goal

pub returns : goal.returns
unfolding is_space
returns c = c.is_within.ensures
