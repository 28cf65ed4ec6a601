use Rattle.node_core.specs.ViewOf.{node_of}
use Rattle.node_core.proofs.Links.{acquire_kept}
use Rattle.node_core.proofs.Clients.{may_ask}
use Rattle.node_core.proofs.node.NodeCore.acquire.Goals as goal

pub acquire-requires : goal.acquire-requires
acquire-requires g c =
    let there = rw (← c.self.view_is) at c.in-Some.ensures.found.there in
    let may = may_ask (node_of c.self.inside).view _ c.in-Some.client c.self.invariant there in
    rw c.slot.ensures record { slot = may.within; database = may.database }

pub invariant_of-self : goal.invariant_of-self
invariant_of-self g c =
    let there = rw (← c.self.view_is) at c.in-Some.ensures.found.there in
    acquire_kept _ _ c.in-Some.client _ c.self.invariant there (rw c.slot.ensures at c.acquire.ensures.step)
