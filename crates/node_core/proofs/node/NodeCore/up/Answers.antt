use Rattle.node_core.proofs.Links.{up_kept}
use Rattle.node_core.proofs.node.NodeCore.up.Goals as goal

pub invariant_of-self : goal.invariant_of-self
invariant_of-self g c =
    up_kept _ _ _ _ (rw (← c.self.view_is) at c.known.ensures.places) c.self.invariant c.up.ensures.step
