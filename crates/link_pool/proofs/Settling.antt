-- A link that has other tickets from now on.
use Rattle.std.proofs.Common.{◌≡◌, ◌≢◌, ℕ, zero, suc, ◌<◌, ◌≤◌, Bool, true, false, List, Option, Some, None, is_some, IfSome, length, length-set, map, refl, sym, subst, arith}
use Rattle.lease.specs.LinkValue.{LinkValue}
use Rattle.lease.specs.declared.link_place.LinkPlace.{LinkPlace}
use Rattle.quarantine.specs.OpenTickets.{OpenTickets}
use Rattle.quarantine.specs.HoldStates.{state_by, state_of}
use Rattle.quarantine.specs.declared.hold.HoldState.{HoldState}
use Rattle.quarantine.specs.declared.hold.HoldState.TheVariants.{Clear, Waiting, Condemned}
use Rattle.link_pool.specs.declared.entry.Entry.{Entry}
use Rattle.link_pool.specs.declared.entry.Entry.TheVariants as entry
use Rattle.link_pool.specs.declared.place.Place.TheVariants as place
use Rattle.link_pool.specs.declared.place.Link.{Link}
use Rattle.link_pool.specs.declared.place.LinkState.{LinkState}
use Rattle.link_pool.specs.declared.place.LinkState.TheVariants as state
use Rattle.link_pool.specs.Entries.{Entries, place_of, stream_of, settled_by, settled, leaving_by, leaving, streams_in}
use Rattle.link_pool.specs.declared.place.Claim.{Claim}
use Rattle.link_pool.specs.declared.place.Claim.TheVariants as claim
use Rattle.link_pool.specs.Pool.{PoolView, place_at, with_place, claims_without, nothing_for}
use Rattle.link_pool.specs.OnePlace.{StateFits, IsPool}
use Rattle.link_pool.specs.PoolStep.{with_hold}
use Rattle.link_pool.specs.Parts.{quarantined_place, settled_link, settled_place, freed_giver, settled_giver, is_leaving, Leaves}
use Rattle.link_pool.proofs.Entries.{entry_at, with_stream, stays, moves}
use Rattle.link_pool.proofs.Handing.{of_given, held_on, cleared, dropped}

-- the entry is settled as its place is
quarantined_at : {S : Type 0} (tickets : ℕ) (condemned : Bool) (link : LinkValue S) (key : List ℕ) (had : OpenTickets) (giver : Option ℕ)
    → place_of (settled_by (state_by tickets condemned) link key (record { tickets = tickets; condemned = condemned }) giver)
    ≡ quarantined_place (state_by tickets condemned) (with_hold (record { details = link.details; key = key; state = state.Quarantined giver; hold = had }) (record { tickets = tickets; condemned = condemned }))
quarantined_at tickets true link key had giver = refl
quarantined_at zero false link key had giver = refl
quarantined_at (suc n) false link key had giver = refl

pub settled_at : {S : Type 0} (hold : OpenTickets) (was : Entry S) → place_of (settled hold was) ≡ settled_place hold (place_of was)
settled_at hold entry.Free = refl
settled_at hold (entry.Open permit slot) = refl
settled_at hold (entry.Held details key had slot) = refl
settled_at hold (entry.Idle link key) = refl
settled_at hold (entry.Quarantined link key had giver) = quarantined_at hold.tickets hold.condemned link key had giver

-- a stream is returned exactly where the link leaves
returned_at : {S : Type 0} (tickets : ℕ) (condemned : Bool) (stream : S) → is_some (leaving_by (state_by tickets condemned) stream) ≡ condemned
returned_at tickets true stream = refl
returned_at zero false stream = refl
returned_at (suc n) false stream = refl

pub returned : {S : Type 0} (hold : OpenTickets) (was : Entry S) → is_some (leaving hold was) ≡ is_leaving hold (place_of was)
returned hold entry.Free = refl
returned hold (entry.Open permit slot) = refl
returned hold (entry.Held details key had slot) = refl
returned hold (entry.Idle link key) = refl
returned hold (entry.Quarantined link key had giver) = returned_at hold.tickets hold.condemned link.stream

-- the stream that is returned lay there, and nothing else changes
leaves_by : {S : Type 0} (s : HoldState) (pools : List (Entries S)) (at : LinkPlace) (link : LinkValue S) (key : List ℕ) (had hold : OpenTickets) (giver : Option ℕ) → entry_at pools at ≡ Some (entry.Quarantined link key had giver)
    → Leaves at (leaving_by s link.stream) (map streams_in pools) (with_stream (map streams_in pools) at (stream_of (settled_by s link key hold giver)))
leaves_by Clear pools at link key had hold giver h = stays pools at (entry.Quarantined link key had giver) (Some link.stream) h refl
leaves_by (Waiting n) pools at link key had hold giver h = stays pools at (entry.Quarantined link key had giver) (Some link.stream) h refl
leaves_by Condemned pools at link key had hold giver h = moves pools at (entry.Quarantined link key had giver) None h

pub leaves : {S : Type 0} (pools : List (Entries S)) (at : LinkPlace) (was : Entry S) (hold : OpenTickets) → entry_at pools at ≡ Some was
    → Leaves at (leaving hold was) (map streams_in pools) (with_stream (map streams_in pools) at (stream_of (settled hold was)))
leaves pools at entry.Free hold h = stays pools at entry.Free None h refl
leaves pools at (entry.Open permit slot) hold h = stays pools at (entry.Open permit slot) None h refl
leaves pools at (entry.Held details key had slot) hold h = stays pools at (entry.Held details key had slot) None h refl
leaves pools at (entry.Idle link key) hold h = stays pools at (entry.Idle link key) (Some link.stream) h refl
leaves pools at (entry.Quarantined link key had giver) hold h = leaves_by (state_of hold) pools at link key had hold giver h

-- how a link stands
pub clear_at : (tickets : ℕ) (condemned : Bool) → state_by tickets condemned ≡ Clear → (tickets ≡ 0) × (condemned ≡ false)
clear_at tickets true e = absurd (cc)
clear_at zero false e = (refl, refl)
clear_at (suc n) false e = absurd (cc)

pub waiting_at : (tickets n : ℕ) (condemned : Bool) → state_by tickets condemned ≡ Waiting n → (0 < tickets) × (condemned ≡ false)
waiting_at tickets n true e = absurd (cc)
waiting_at zero n false e = absurd (cc)
waiting_at (suc m) n false e = (omega arith, refl)

-- a pool stays whole
quarantined_whole : (s : HoldState) (giver : Option ℕ) (v : PoolView) (at : LinkPlace) (link : Link) (hold : OpenTickets) → state_of hold ≡ s → IsPool v → place_at v at ≡ Some (place.Link link) → link.state ≡ state.Quarantined giver → hold.tickets ≤ 65535
    → IsPool (nothing_for (freed_giver s giver) (with_place v at (quarantined_place s (with_hold link hold))))
quarantined_whole Clear giver v at link hold e whole was q few = cleared giver v at link hold whole was q (clear_at hold.tickets hold.condemned e)
quarantined_whole (Waiting n) giver v at link hold e whole was q few = held_on v at link hold whole was few (subst (λ x. StateFits x hold) (sym q) (waiting_at hold.tickets n hold.condemned e))
quarantined_whole Condemned giver v at link hold e whole was q few = dropped giver v at link whole was q

settled_whole_in : (x : LinkState) (v : PoolView) (at : LinkPlace) (link : Link) (hold : OpenTickets) → link.state ≡ x → x ≢ state.Idle → IsPool v → place_at v at ≡ Some (place.Link link) → hold.tickets ≤ 65535 → IsPool (nothing_for (settled_giver x hold) (with_place v at (settled_link x hold link)))
settled_whole_in state.Idle v at link hold e n whole was few = absurd (n refl)
settled_whole_in (state.Held slot) v at link hold e n whole was few = held_on v at link hold whole was few (subst (λ x. StateFits x hold) (sym e) tt)
settled_whole_in (state.Quarantined giver) v at link hold e n whole was few = quarantined_whole (state_of hold) giver v at link hold refl whole was e few

pub settled_whole : (v : PoolView) (at : LinkPlace) (link : Link) (hold : OpenTickets) → link.state ≢ state.Idle → IsPool v → place_at v at ≡ Some (place.Link link) → hold.tickets ≤ 65535 → IsPool (nothing_for (settled_giver link.state hold) (with_place v at (settled_place hold (place.Link link))))
settled_whole v at link hold n whole was few = settled_whole_in link.state v at link hold refl n whole was few

-- a client that may no longer take the link again has a slot
given_slot : (giver : Option ℕ) (v : PoolView) (at : LinkPlace) (link : Link) → IsPool v → place_at v at ≡ Some (place.Link link) → link.state ≡ state.Quarantined giver → IfSome giver (λ slot. slot < length v.claims)
given_slot None v at link whole was q = tt
given_slot (Some slot) v at link whole was q = let of = of_given v at link slot whole was q in of.within

freed_slot : (s : HoldState) (giver : Option ℕ) (n : ℕ) → IfSome giver (λ slot. slot < n) → IfSome (freed_giver s giver) (λ slot. slot < n)
freed_slot Clear giver n h = h
freed_slot (Waiting tickets) giver n h = tt
freed_slot Condemned giver n h = h

settled_slot_in : (x : LinkState) (v : PoolView) (at : LinkPlace) (link : Link) (hold : OpenTickets) → link.state ≡ x → IsPool v → place_at v at ≡ Some (place.Link link) → IfSome (settled_giver x hold) (λ slot. slot < length v.claims)
settled_slot_in state.Idle v at link hold e whole was = tt
settled_slot_in (state.Held slot) v at link hold e whole was = tt
settled_slot_in (state.Quarantined giver) v at link hold e whole was = freed_slot (state_of hold) giver (length v.claims) (given_slot giver v at link whole was e)

pub settled_slot : (v : PoolView) (at : LinkPlace) (link : Link) (hold : OpenTickets) → IsPool v → place_at v at ≡ Some (place.Link link) → IfSome (settled_giver link.state hold) (λ slot. slot < length v.claims)
settled_slot v at link hold whole was = settled_slot_in link.state v at link hold refl whole was

-- as many clients as before
pub claims_without-long : (giver : Option ℕ) (claims : List Claim) → length (claims_without giver claims) ≡ length claims
claims_without-long None claims = refl
claims_without-long (Some slot) claims = length-set claims slot claim.Nothing
