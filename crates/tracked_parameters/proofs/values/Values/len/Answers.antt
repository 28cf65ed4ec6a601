use Rattle.std.proofs.Common.{subst}
use Rattle.tracked_parameters.specs.Values.{AreTexts}
use Rattle.tracked_parameters.proofs.values.Values.len.Goals as goal

pub returns-clause-texts : goal.returns-clause-texts
returns-clause-texts c = subst AreTexts c.self.view_is c.self.invariant
