-- A quarantined link and the client that gave it back, in the fields of the pools.
use Rattle.std.proofs.Common.{◌≡◌, ℕ, ◌<◌, true, List, option_map, Option, Some, length, refl, ap, sym, subst, ◌∙◌}
use Rattle.std.specs.List.{slice_get}
use Rattle.std.proofs.lemmas.Option.{slice_get_within}
use Rattle.lease.specs.LinkValue.{LinkValue}
use Rattle.lease.specs.declared.link_place.LinkPlace.{LinkPlace}
use Rattle.quarantine.specs.OpenTickets.{OpenTickets}
use Rattle.slot_queues.proofs.Times.{eq_yes}
use Rattle.link_pool.specs.declared.entry.Entry.{Entry}
use Rattle.link_pool.specs.declared.entry.Entry.TheVariants as entry
use Rattle.link_pool.specs.declared.place.Place.TheVariants as place
use Rattle.link_pool.specs.declared.place.LinkState.TheVariants as state
use Rattle.link_pool.specs.declared.place.Claim.TheVariants as claim
use Rattle.link_pool.specs.declared.pool.Pool.TheInside.{Inside}
use Rattle.link_pool.specs.Entries.{place_of}
use Rattle.link_pool.specs.OnePlace.{given_by, IsPool}
use Rattle.link_pool.specs.Pool.{place_at}
use Rattle.link_pool.specs.PoolOf.{pool_of}
use Rattle.link_pool.specs.Streams.{PoolValue}
use Rattle.link_pool.proofs.Entries.{entry_at, seen_at, pool_within}
use Rattle.link_pool.proofs.Handing.{gave_there}

pub record GivenBack {S : Type 0} (p : Inside S) (slot : ℕ) (at : LinkPlace) : Type 0 where
  pub lease : LinkValue S
  pub key : List ℕ
  pub hold : OpenTickets
  pub is : entry_at p.pools.items at ≡ Some (entry.Quarantined lease key hold (Some slot))
  pub seen : place_at (pool_of p).view at
      ≡ Some (place.Link record { details = lease.details; key = key; state = state.Quarantined (Some slot); hold = hold })
  pub within : at.database < length p.pools.items
  pub few : slot < length p.claims.items

of_entry : {S : Type 0} (p : Inside S) (slot : ℕ) (at : LinkPlace) (o : Option (Entry S)) → entry_at p.pools.items at ≡ o
    → given_by slot (option_map place_of o) ≡ true → slot < length p.claims.items → GivenBack p slot at
of_entry p slot at (Some (entry.Quarantined link key hold (Some other))) e h few =
    let is : entry_at p.pools.items at ≡ Some (entry.Quarantined link key hold (Some slot)) =
    e ∙ ap (λ (s : ℕ). Some (entry.Quarantined link key hold (Some s))) (eq_yes other slot h) in
    record {
      lease = link;
      key = key;
      hold = hold;
      is = is;
      seen = seen_at p.pools.items at ∙ ap (λ o. option_map place_of o) is;
      within = pool_within p.pools.items at (entry.Quarantined link key hold (Some slot)) is;
      few = few;
    }
of_entry p slot at o e h few = absurd (cc)

pub given_back : {S : Type 0} (p : Inside S) (w : PoolValue S) (slot : ℕ) (at : LinkPlace) → pool_of p ≡ w → IsPool (pool_of p).view
    → slice_get w.view.claims slot ≡ Some (claim.Gave at) → GivenBack p slot at
given_back p w slot at same whole gave =
    let had : slice_get p.claims.items slot ≡ Some (claim.Gave at) = subst (λ (x : PoolValue _). slice_get x.view.claims slot ≡ Some (claim.Gave at)) (sym same) gave in
    of_entry p slot at (entry_at p.pools.items at) refl (ap (given_by slot) (sym (seen_at p.pools.items at)) ∙ gave_there (pool_of p).view slot at whole had) (slice_get_within p.claims.items slot (claim.Gave at) had)
