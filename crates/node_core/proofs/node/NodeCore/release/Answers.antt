use Rattle.node_core.proofs.Links.{release_kept}
use Rattle.node_core.proofs.node.NodeCore.release.Goals as goal

pub invariant_of-self : goal.invariant_of-self
invariant_of-self g c =
    release_kept _ _ _ (rw (← c.self.view_is) at c.known.ensures.places) c.self.invariant c.release.ensures.step
