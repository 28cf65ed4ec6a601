use Rattle.std.proofs.Common.{rules, ◌≡◌, None, Some, length, slice_get, vec_len, sym, subst, ◌∙◌, arith, refl, length-set}
use Rattle.lease.specs.declared.link_place.LinkPlace.{LinkPlace}
use Rattle.link_pool.specs.declared.entry.Entry.TheVariants as entry
use Rattle.link_pool.specs.declared.place.Claim.TheVariants as claim
use Rattle.link_pool.specs.PoolOf.{pool_of}
use Rattle.link_pool.proofs.Entries.{read_at, read_entry, wrote_place, wrote_stream, stays}
use Rattle.link_pool.proofs.GivenBack.{given_back}
use Rattle.link_pool.proofs.Handing.{left_there}
use Rattle.link_pool.proofs.pool.Pool.leave_link.Goals as goal

pub index_mut-pool-requires : goal.index_mut-pool-requires
index_mut-pool-requires g c =
    let e = given_back c.self.inside _ c.args.slot c.args.at.now c.self.view_is c.self.invariant.0 c.requires.gave in
    let within = e.within in
    let len : vec_len c.self.inside.pools ≡ length c.self.inside.pools.items = search rules in
    let index = c.get.ensures in
    omega (arith, within, len, index)

pub forget_giver-requires : goal.forget_giver-requires
forget_giver-requires g c =
    let e = given_back c.self.inside _ c.args.slot c.args.at.now c.self.view_is c.self.invariant.0 c.requires.gave in
    let pools = c.self.inside.pools.items in
    let at : LinkPlace = c.args.at.now in
    let was = entry.Quarantined e.lease e.key e.hold (Some c.args.slot) in
    let there = read_at pools at c.get.result c.index_mut-pool.result.now was c.get.ensures e.is c.index_mut-pool.ensures.value in
    record { quarantined = record { link = e.lease; key = e.key; hold = e.hold; giver = Some c.args.slot; is = read_entry pools at c.index_mut-pool.result.now was there e.is } }

pub index_mut-requires : goal.index_mut-requires
index_mut-requires g c =
    let e = given_back c.self.inside _ c.args.slot c.args.at.now c.self.view_is c.self.invariant.0 c.requires.gave in
    let few = e.few in
    let len : vec_len c.self.inside.claims ≡ length c.self.inside.claims.items = search rules in
    let index = c.get-2.ensures in
    omega (arith, few, len, index)

pub invariant_of-self : goal.invariant_of-self
invariant_of-self g c =
    let e = given_back c.self.inside _ c.args.slot c.args.at.now c.self.view_is c.self.invariant.0 c.requires.gave in
    let pools = c.self.inside.pools.items in
    let at : LinkPlace = c.args.at.now in
    let was = entry.Quarantined e.lease e.key e.hold (Some c.args.slot) in
    let there = read_at pools at c.get.result c.index_mut-pool.result.now was c.get.ensures e.is c.index_mut-pool.ensures.value in
    let now = entry.Quarantined e.lease e.key e.hold None in
    let done = c.forget_giver.ensures was (read_entry pools at c.index_mut-pool.result.now was there e.is) in
    let after = wrote_place pools at c.get.result c.index_mut-pool.result.now c.forget_giver.new.self now c.get.ensures there done in (
      rw (after, c.get-2.ensures) (left_there (pool_of c.self.inside).view at _ c.args.slot c.self.invariant.0 e.seen refl),
      c.self.invariant.1 ∙ sym (length-set c.self.inside.claims.items c.get-2.result claim.Nothing),
    )

pub returns : goal.returns
returns g c =
    let e = given_back c.self.inside _ c.args.slot c.args.at.now c.self.view_is c.self.invariant.0 c.requires.gave in
    let pools = c.self.inside.pools.items in
    let at : LinkPlace = c.args.at.now in
    let was = entry.Quarantined e.lease e.key e.hold (Some c.args.slot) in
    let there = read_at pools at c.get.result c.index_mut-pool.result.now was c.get.ensures e.is c.index_mut-pool.ensures.value in
    let now = entry.Quarantined e.lease e.key e.hold None in
    let done = c.forget_giver.ensures was (read_entry pools at c.index_mut-pool.result.now was there e.is) in
    let after = wrote_place pools at c.get.result c.index_mut-pool.result.now c.forget_giver.new.self now c.get.ensures there done in
    let lies = wrote_stream pools at c.get.result c.index_mut-pool.result.now c.forget_giver.new.self now c.get.ensures there done in
    let h : slice_get (pool_of c.self.inside).view.claims c.args.slot ≡ Some (claim.Gave at) = subst (λ w. slice_get w.view.claims c.args.slot ≡ Some (claim.Gave at)) (sym c.self.view_is) c.requires.gave in
    record {
      view = rw (← c.self.view_is, after, c.get-2.ensures, h, e.seen) refl;
      streams = rw (← c.self.view_is, lies) (stays pools at was (Some e.lease.stream) e.is refl);
      whole = (invariant_of-self g c).0;
    }
