use Rattle.node_core.proofs.Links.{close_kept}
use Rattle.node_core.proofs.node.NodeCore.close.Goals as goal

pub invariant_of-self : goal.invariant_of-self
invariant_of-self g c = close_kept _ _ _ c.self.invariant c.close.ensures.step
