use Rattle.std.proofs.Common.{subst}
use Rattle.world.specs.World.{World}
use Rattle.world.specs.Facts.{AreWhole}
use Rattle.world.proofs.state.State.may_log_in.Goals as goal

pub returns-then-get-pool_sizes-clause-whole : goal.returns-then-get-pool_sizes-clause-whole
returns-then-get-pool_sizes-clause-whole c = λ yes. subst (λ (w : World). AreWhole w.nodes) c.self.view_is c.in-Some.ensures.whole
