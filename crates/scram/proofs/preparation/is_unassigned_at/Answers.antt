use Rattle.scram.specs.Prepare.{is_unassigned}
use Rattle.scram.proofs.preparation.is_unassigned_at.Goals as goal

pub returns : goal.returns
unfolding is_unassigned
returns c = c.is_within.ensures
