use Rattle.std.proofs.Common.{subst}
use Rattle.world.specs.World.{World}
use Rattle.world.specs.Facts.{AreWhole}
use Rattle.world.proofs.state.State.known.Goals as goal

pub returns : goal.returns
returns c = subst (λ (w : World). AreWhole w.nodes) c.self.view_is c.len.ensures.whole
