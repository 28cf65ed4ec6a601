use Rattle.std.proofs.Common.{subst}
use Rattle.tracked_parameters.specs.Names.{AreNames}
use Rattle.tracked_parameters.proofs.names.TrackedNames.len.Goals as goal

pub returns-clause-formed : goal.returns-clause-formed
returns-clause-formed c = subst AreNames c.self.view_is c.self.invariant
