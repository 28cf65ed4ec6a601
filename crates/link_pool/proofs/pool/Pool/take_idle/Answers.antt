use Rattle.std.proofs.Common.{◌≡◌, ◌<◌, true, None, length, slice_get, sym, ap, subst, ◌∙◌, arith, refl, length-set}
use Rattle.lease.specs.declared.link_place.LinkPlace.{LinkPlace}
use Rattle.lease.specs.declared.link_record.LinkRecord.{LinkRecord}
use Rattle.link_pool.specs.declared.entry.Entry.TheVariants as entry
use Rattle.link_pool.specs.declared.place.Place.TheVariants as place
use Rattle.link_pool.specs.declared.place.Link.{Link}
use Rattle.link_pool.specs.declared.place.LinkState.TheVariants as state
use Rattle.link_pool.specs.declared.place.Claim.TheVariants as claim
use Rattle.slot_queues.specs.Queues.{Queues}
use Rattle.link_pool.specs.Pool.{PoolView, place_at, unqueued, in_state, lend}
use Rattle.link_pool.specs.PoolOf.{pool_of}
use Rattle.link_pool.specs.PoolStep.{new_hold, nth_of, may_ask, NoIdle}
use Rattle.link_pool.specs.OnePlace.{IsPool}
use Rattle.link_pool.proofs.Asking.{place_unqueued, nothing_unqueued, whole_unqueued, served}
use Rattle.link_pool.proofs.Entries.{read_pool, seen, not_idle_at, entry_in, wrote_place, wrote_stream, moves}
use Rattle.link_pool.proofs.Handing.{its_place, got}
use Rattle.link_pool.proofs.pool.Pool.take_idle.Goals as goal

pub returns-in_default-clause-none : goal.returns-in_default-clause-none
returns-in_default-clause-none g c =
    let pools = c.self.inside.pools.items in
    let d = c.args.database in
    let there = read_pool pools d c.get.result c.index_mut-pool.result.now c.get.ensures (subst (λ w. d < length w.view.pools) (sym c.self.view_is) c.requires.database) c.index_mut-pool.ensures.value in
    subst (λ w. NoIdle d w.view) c.self.view_is (λ i. not_idle_at pools (nth_of d i) c.index_mut-pool.result.now there (c.in_default.ensures.none i))

pub remove-requires : goal.remove-requires
remove-requires g c =
    let some = subst (λ w. c.args.slot < length w.view.claims) (sym c.self.view_is) c.requires.slot in
    let same = c.self.invariant.1 in
    omega (arith, some, same)

pub invariant_of-self-2 : goal.invariant_of-self-2
invariant_of-self-2 g c =
    let pools = c.self.inside.pools.items in
    let d = c.args.database in
    let slot = c.args.slot in
    let v : PoolView = (pool_of c.self.inside).view in
    let there = read_pool pools d c.get.result c.index_mut-pool.result.now c.get.ensures (subst (λ w. d < length w.view.pools) (sym c.self.view_is) c.requires.database) c.index_mut-pool.ensures.value in
    let taken = c.in-Some.ensures.taken in
    let lease = c.in-Some.lease in
    let at : LinkPlace = nth_of d taken.index in
    let link : Link = record { details = lease.details; key = taken.key; state = state.Idle; hold = new_hold } in
    let was = seen pools at c.index_mut-pool.result.now (entry.Idle lease taken.key) there taken.was in
    let said : c.details.result.at ≡ at = ap (λ (r : LinkRecord). r.at) c.details.ensures ∙ its_place v at link c.self.invariant.0 was in
    let free : may_ask (slice_get v.claims slot) ≡ true = subst (λ w. may_ask (slice_get w.view.claims slot) ≡ true) (sym c.self.view_is) c.requires.free in
    let some : slot < length v.claims = subst (λ w. slot < length w.view.claims) (sym c.self.view_is) c.requires.slot in
    let both = wrote_place pools at c.get.result c.index_mut-pool.result.now c.take_idle.new.self (entry.Held lease.details taken.key new_hold slot) c.get.ensures there taken.after in
    let after = served v at (place.Link (in_state (state.Held slot) link)) slot (claim.Link at) c.self.invariant.0 free some in
    (rw (both, c.remove.ensures, c.get-2.ensures, said) (subst IsPool (sym after) (got (unqueued v slot) at link slot (whole_unqueued v slot c.self.invariant.0) (place_unqueued v slot at ∙ was) refl (nothing_unqueued v slot some free))), ap (λ (q : Queues). q.slots) c.remove.ensures ∙ c.self.invariant.1 ∙ sym (length-set c.self.inside.claims.items c.get-2.result (claim.Link c.details.result.at)))

pub returns : goal.returns
returns g c =
    let pools = c.self.inside.pools.items in
    let d = c.args.database in
    let slot = c.args.slot in
    let v : PoolView = (pool_of c.self.inside).view in
    let there = read_pool pools d c.get.result c.index_mut-pool.result.now c.get.ensures (subst (λ w. d < length w.view.pools) (sym c.self.view_is) c.requires.database) c.index_mut-pool.ensures.value in
    let taken = c.in-Some.ensures.taken in
    let lease = c.in-Some.lease in
    let at : LinkPlace = nth_of d taken.index in
    let link : Link = record { details = lease.details; key = taken.key; state = state.Idle; hold = new_hold } in
    let was = seen pools at c.index_mut-pool.result.now (entry.Idle lease taken.key) there taken.was in
    let place_is = its_place v at link c.self.invariant.0 was in
    let said : c.details.result.at ≡ at = ap (λ (r : LinkRecord). r.at) c.details.ensures ∙ place_is in
    let free : may_ask (slice_get v.claims slot) ≡ true = subst (λ w. may_ask (slice_get w.view.claims slot) ≡ true) (sym c.self.view_is) c.requires.free in
    let some : slot < length v.claims = subst (λ w. slot < length w.view.claims) (sym c.self.view_is) c.requires.slot in
    let both = wrote_place pools at c.get.result c.index_mut-pool.result.now c.take_idle.new.self (entry.Held lease.details taken.key new_hold slot) c.get.ensures there taken.after in
    let after = served v at (place.Link (in_state (state.Held slot) link)) slot (claim.Link at) c.self.invariant.0 free some in
    let lies = wrote_stream pools at c.get.result c.index_mut-pool.result.now c.take_idle.new.self (entry.Held lease.details taken.key new_hold slot) c.get.ensures there taken.after in
    record {
      got = rw (← c.self.view_is, both, c.remove.ensures, c.get-2.ensures, said) (record {
        link = link;
        was = ap (place_at v) place_is ∙ was;
        idle = refl;
        says = refl;
        of = ap (λ (k : LinkPlace). k.database) place_is;
        after = after ∙ ap (λ k. lend (unqueued v slot) k slot link) (sym place_is);
      });
      stream = rw (← c.self.view_is, lies, place_is) (moves pools at (entry.Idle lease taken.key) None (ap (λ o. entry_in o taken.index) there ∙ taken.was));
      none = tt;
      same = tt;
      whole = (invariant_of-self-2 g c).0;
    }
