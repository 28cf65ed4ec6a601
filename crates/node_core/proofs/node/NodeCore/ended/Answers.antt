use Rattle.node_core.proofs.Links.{ended_kept}
use Rattle.node_core.proofs.node.NodeCore.ended.Goals as goal

pub invariant_of-self : goal.invariant_of-self
invariant_of-self g c = ended_kept _ _ _ c.self.invariant c.ended.ensures.step
