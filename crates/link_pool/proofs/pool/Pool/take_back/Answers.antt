use Rattle.std.proofs.Common.{rules, ◌≡◌, None, Some, length, slice_get, vec_len, sym, ap, subst, ◌∙◌, arith, refl, length-set}
use Rattle.lease.specs.declared.link_place.LinkPlace.{LinkPlace}
use Rattle.link_pool.specs.declared.entry.Entry.TheVariants as entry
use Rattle.link_pool.specs.declared.place.Link.{Link}
use Rattle.link_pool.specs.declared.place.LinkState.TheVariants as state
use Rattle.link_pool.specs.declared.place.Claim.TheVariants as claim
use Rattle.link_pool.specs.Pool.{PoolView, place_at, lend}
use Rattle.link_pool.specs.PoolOf.{pool_of}
use Rattle.link_pool.proofs.Entries.{read_at, read_entry, wrote_place, wrote_stream, moves}
use Rattle.link_pool.proofs.GivenBack.{given_back}
use Rattle.link_pool.proofs.Handing.{its_place, got_back}
use Rattle.link_pool.proofs.pool.Pool.take_back.Goals as goal

pub index_mut-pool-requires : goal.index_mut-pool-requires
index_mut-pool-requires g c =
    let e = given_back c.self.inside _ c.args.slot c.in-Some.at c.self.view_is c.self.invariant.0 c.in-Some.ensures.gave in
    let within = e.within in
    let len : vec_len c.self.inside.pools ≡ length c.self.inside.pools.items = search rules in
    let index = c.get.ensures in
    omega (arith, within, len, index)

pub take_back-lease-requires : goal.take_back-lease-requires
take_back-lease-requires g c =
    let e = given_back c.self.inside _ c.args.slot c.in-Some.at c.self.view_is c.self.invariant.0 c.in-Some.ensures.gave in
    let pools = c.self.inside.pools.items in
    let at : LinkPlace = c.in-Some.at in
    let was = entry.Quarantined e.lease e.key e.hold (Some c.args.slot) in
    let there = read_at pools at c.get.result c.index_mut-pool.result.now was c.get.ensures e.is c.index_mut-pool.ensures.value in
    record { quarantined = record { link = e.lease; key = e.key; hold = e.hold; giver = Some c.args.slot; is = read_entry pools at c.index_mut-pool.result.now was there e.is } }

pub index_mut-requires : goal.index_mut-requires
index_mut-requires g c =
    let e = given_back c.self.inside _ c.args.slot c.in-Some.at c.self.view_is c.self.invariant.0 c.in-Some.ensures.gave in
    let few = e.few in
    let len : vec_len c.self.inside.claims ≡ length c.self.inside.claims.items = search rules in
    let index = c.get-2.ensures in
    omega (arith, few, len, index)

pub invariant_of-self : goal.invariant_of-self
invariant_of-self g c =
    let e = given_back c.self.inside _ c.args.slot c.in-Some.at c.self.view_is c.self.invariant.0 c.in-Some.ensures.gave in
    let pools = c.self.inside.pools.items in
    let at : LinkPlace = c.in-Some.at in
    let was = entry.Quarantined e.lease e.key e.hold (Some c.args.slot) in
    let there = read_at pools at c.get.result c.index_mut-pool.result.now was c.get.ensures e.is c.index_mut-pool.ensures.value in
    let now = entry.Held e.lease.details e.key e.hold c.args.slot in
    let done = c.take_back-lease.ensures was (read_entry pools at c.index_mut-pool.result.now was there e.is) in
    let after = wrote_place pools at c.get.result c.index_mut-pool.result.now c.take_back-lease.new.self now c.get.ensures there done.1 in (
      rw (after, c.get-2.ensures) (got_back (pool_of c.self.inside).view at _ c.args.slot c.self.invariant.0 e.seen refl),
      c.self.invariant.1 ∙ sym (length-set c.self.inside.claims.items c.get-2.result (claim.Link at)),
    )

pub returns : goal.returns
returns g c =
    let e = given_back c.self.inside _ c.args.slot c.in-Some.at c.self.view_is c.self.invariant.0 c.in-Some.ensures.gave in
    let pools = c.self.inside.pools.items in
    let at : LinkPlace = c.in-Some.at in
    let was = entry.Quarantined e.lease e.key e.hold (Some c.args.slot) in
    let there = read_at pools at c.get.result c.index_mut-pool.result.now was c.get.ensures e.is c.index_mut-pool.ensures.value in
    let now = entry.Held e.lease.details e.key e.hold c.args.slot in
    let done = c.take_back-lease.ensures was (read_entry pools at c.index_mut-pool.result.now was there e.is) in
    let after = wrote_place pools at c.get.result c.index_mut-pool.result.now c.take_back-lease.new.self now c.get.ensures there done.1 in
    let lies = wrote_stream pools at c.get.result c.index_mut-pool.result.now c.take_back-lease.new.self now c.get.ensures there done.1 in
    let v : PoolView = (pool_of c.self.inside).view in
    let h : slice_get v.claims c.args.slot ≡ Some (claim.Gave at) = subst (λ w. slice_get w.view.claims c.args.slot ≡ Some (claim.Gave at)) (sym c.self.view_is) c.in-Some.ensures.gave in
    let link : Link = record { details = e.lease.details; key = e.key; state = state.Quarantined (Some c.args.slot); hold = e.hold } in
    let place_is = its_place v at link c.self.invariant.0 e.seen in
    record {
      got = rw (← c.self.view_is, done.0, after, c.get-2.ensures) (record {
        link = link;
        gave = h ∙ ap (λ (k : LinkPlace). Some (claim.Gave k)) (sym place_is);
        was = ap (place_at v) place_is ∙ e.seen;
        quarantined = refl;
        says = refl;
        after = ap (λ (k : LinkPlace). lend v k c.args.slot link) (sym place_is);
      });
      stream = rw (← c.self.view_is, done.0, lies, place_is) (moves pools at was None e.is);
      none = rw done.0 tt;
      same = rw done.0 tt;
      whole = (invariant_of-self g c).0;
    }
