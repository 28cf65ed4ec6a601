use Rattle.std.proofs.Common.{arith, sym, ◌∙◌, refl, length}
use Rattle.std.proofs.lemmas.List.{length-replicate}
use Rattle.link_pool.specs.declared.place.Claim.TheVariants as claim
use Rattle.link_pool.specs.Pool.{PoolView}
use Rattle.link_pool.specs.PoolOf.{pool_of}
use Rattle.link_pool.proofs.NewLinks.{freed_seen, freed_stored, whole_emptied}
use Rattle.link_pool.proofs.pool.Pool.restart.Goals as goal

pub invariant_of-self : goal.invariant_of-self
invariant_of-self g c =
    let e = c.in-Some.ensures in
    let v : PoolView = (pool_of c.self.inside).view in
    (rw (c.empty_all.ensures, c.clear.ensures, c.nothing_for_all.ensures, freed_seen c.self.inside.pools.items) (whole_emptied v c.in-Some.next c.self.invariant.0 (omega (arith, e))), rw (c.clear.ensures, c.nothing_for_all.ensures) (c.self.invariant.1 ∙ sym (length-replicate (length c.self.inside.claims.items) claim.Nothing)))

pub returns-clause-step : goal.returns-clause-step
returns-clause-step g c =
    let e = c.in-Some.ensures in
    let below = e.0 in
    rw (← c.self.view_is, c.empty_all.ensures, c.clear.ensures, c.nothing_for_all.ensures, freed_seen c.self.inside.pools.items, e.1) (refl, omega (arith, below))

pub returns-clause-streams : goal.returns-clause-streams
returns-clause-streams g c = rw c.empty_all.ensures (freed_stored c.self.inside.pools.items)

pub returns-clause-whole : goal.returns-clause-whole
returns-clause-whole g c = (invariant_of-self g c).0
