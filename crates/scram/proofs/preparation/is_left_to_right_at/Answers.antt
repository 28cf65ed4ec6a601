use Rattle.scram.specs.Prepare.{is_left_to_right}
use Rattle.scram.proofs.preparation.is_left_to_right_at.Goals as goal

pub returns : goal.returns
unfolding is_left_to_right
returns c = c.is_within.ensures
