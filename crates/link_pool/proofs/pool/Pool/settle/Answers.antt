use Rattle.std.proofs.Common.{◌≡◌, Some, length, sym, ap, ◌∙◌, subst, refl}
use Rattle.link_pool.specs.declared.place.Place.TheVariants as place
use Rattle.link_pool.specs.Pool.{place_at}
use Rattle.link_pool.specs.PoolOf.{pool_of}
use Rattle.link_pool.specs.Entries.{settled}
use Rattle.link_pool.proofs.Entries.{entry_seen, read_at, read_entry, wrote_place, wrote_stream}
use Rattle.link_pool.proofs.Settling.{settled_at, settled_whole, settled_slot, claims_without-long, leaves, returned}
use Rattle.link_pool.proofs.pool.Pool.settle.Goals as goal

pub clear_claim-requires : goal.clear_claim-requires
clear_claim-requires g c =
    let at = c.args.link.now.details.at in
    let was : place_at (pool_of c.self.inside).view at ≡ Some (place.Link c.args.link.now) = subst (λ w. place_at w.view at ≡ Some (place.Link c.args.link.now)) (sym c.self.view_is) c.requires.was in
    rw c.freed_giver.ensures (settled_slot (pool_of c.self.inside).view at c.args.link.now c.args.hold c.self.invariant.0 was)

pub invariant_of-self : goal.invariant_of-self
invariant_of-self g c =
    let pools = c.self.inside.pools.items in
    let at = c.args.link.now.details.at in
    let was : place_at (pool_of c.self.inside).view at ≡ Some (place.Link c.args.link.now) = subst (λ w. place_at w.view at ≡ Some (place.Link c.args.link.now)) (sym c.self.view_is) c.requires.was in
    let e = entry_seen pools at (place.Link c.args.link.now) was in
    let there = read_at pools at c.get.result c.index_mut-pool.result.now e.was c.get.ensures e.is c.index_mut-pool.ensures.value in
    let done = c.settle.ensures e.was (read_entry pools at c.index_mut-pool.result.now e.was there e.is) in
    let seen = wrote_place pools at c.get.result c.index_mut-pool.result.now c.settle.new.self (settled c.args.hold e.was) c.get.ensures there done.1 in (
      rw (seen, settled_at c.args.hold e.was, e.same, c.clear_claim.ensures, c.freed_giver.ensures) (settled_whole (pool_of c.self.inside).view at c.args.link.now c.args.hold c.requires.not_idle c.self.invariant.0 was c.requires.few),
      c.self.invariant.1 ∙ sym (ap length c.clear_claim.ensures ∙ claims_without-long c.freed_giver.result c.self.inside.claims.items),
    )

pub returns : goal.returns
returns g c =
    let pools = c.self.inside.pools.items in
    let at = c.args.link.now.details.at in
    let was : place_at (pool_of c.self.inside).view at ≡ Some (place.Link c.args.link.now) = subst (λ w. place_at w.view at ≡ Some (place.Link c.args.link.now)) (sym c.self.view_is) c.requires.was in
    let e = entry_seen pools at (place.Link c.args.link.now) was in
    let there = read_at pools at c.get.result c.index_mut-pool.result.now e.was c.get.ensures e.is c.index_mut-pool.ensures.value in
    let done = c.settle.ensures e.was (read_entry pools at c.index_mut-pool.result.now e.was there e.is) in
    let seen = wrote_place pools at c.get.result c.index_mut-pool.result.now c.settle.new.self (settled c.args.hold e.was) c.get.ensures there done.1 in
    let kept = wrote_stream pools at c.get.result c.index_mut-pool.result.now c.settle.new.self (settled c.args.hold e.was) c.get.ensures there done.1 in
    record {
      view = rw (← c.self.view_is, seen, settled_at c.args.hold e.was, e.same, c.clear_claim.ensures, c.freed_giver.ensures) refl;
      streams = rw (← c.self.view_is, kept, done.0) (leaves pools at e.was c.args.hold e.is);
      leaves = rw (done.0, returned c.args.hold e.was, e.same) refl;
      whole = (invariant_of-self g c).0;
    }
