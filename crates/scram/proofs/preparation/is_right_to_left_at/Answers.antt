use Rattle.scram.specs.Prepare.{is_right_to_left}
use Rattle.scram.proofs.preparation.is_right_to_left_at.Goals as goal

pub returns : goal.returns
unfolding is_right_to_left
returns c = c.is_within.ensures
