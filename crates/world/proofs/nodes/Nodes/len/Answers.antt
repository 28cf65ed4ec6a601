use Rattle.std.proofs.Common.{subst}
use Rattle.world.specs.Facts.{AreWhole}
use Rattle.world.proofs.nodes.Nodes.len.Goals as goal

pub returns-clause-whole : goal.returns-clause-whole
returns-clause-whole c = subst AreWhole c.self.view_is c.self.invariant.whole
