use Rattle.node_core.proofs.Links.{unwaited_kept}
use Rattle.node_core.proofs.node.NodeCore.cancel.Goals as goal

pub invariant_of-self : goal.invariant_of-self
invariant_of-self g c = rw c.unwait.ensures.step (unwaited_kept c.self.invariant _)
