use Rattle.node_core.proofs.Links.{failed_kept}
use Rattle.node_core.proofs.node.NodeCore.failed.Goals as goal

pub invariant_of-self : goal.invariant_of-self
invariant_of-self g c = failed_kept _ _ _ c.self.invariant c.failed.ensures.step
