use Rattle.std.proofs.Common.{◌≡◌, ℕ, Option, Some, refl}
use Rattle.lease.specs.declared.link_place.LinkPlace.{LinkPlace}
use Rattle.link_pool.specs.declared.place.Claim.{Claim}
use Rattle.link_pool.specs.Pool.{PoolView}
use Rattle.cancel_router.specs.declared.table_view.Standing.{Standing}
use Rattle.node_core.specs.ViewOf.{node_of}
use Rattle.node_core.specs.NodeStep.{standing_by}
use Rattle.node_core.proofs.Links.{serve_kept}
use Rattle.node_core.proofs.node.NodeCore.serve.Goals as goal

pub invariant_of-self : goal.invariant_of-self
invariant_of-self g c = serve_kept _ _ _ c.self.invariant c.serve.ensures.step

-- a client that stands with a link has one
has_one : (links : PoolView) (o : Option Claim) (number : ℕ)
    → standing_by links o ≡ Standing.Holds number → (at : LinkPlace) × (o ≡ Some (Claim.Link at))
has_one links (Some (Claim.Link at)) number h = (at, refl)
has_one links other number h = absurd (cc)

pub unreachable-requires : goal.unreachable-requires
unreachable-requires g c =
    let links = (node_of c.self.inside).view.links in
    let has = has_one links _ _ (rw (← c.self.view_is) at c.requires) in
    c.in-NoLink.ensures.step.0 has.0 has.1
