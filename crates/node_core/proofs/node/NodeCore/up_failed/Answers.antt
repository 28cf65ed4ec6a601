use Rattle.node_core.proofs.Links.{up_failed_kept}
use Rattle.node_core.proofs.node.NodeCore.up_failed.Goals as goal

pub invariant_of-self : goal.invariant_of-self
invariant_of-self g c = up_failed_kept _ _ _ c.self.invariant c.up_failed.ensures.step
