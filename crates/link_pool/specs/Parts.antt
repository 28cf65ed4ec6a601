-- Parts of the definitions of steps (internal).
use Rattle.std.specs.Prelude.{ℕ, ◌≡◌, Bool, true, false, List, Option, None, Some, slice_get}
use Rattle.lease.specs.declared.link_place.LinkPlace.{LinkPlace}
use Rattle.lease.specs.declared.link_record.LinkRecord.{LinkRecord}
use Rattle.quarantine.specs.OpenTickets.{OpenTickets}
use Rattle.quarantine.specs.HoldStates.{state_of}
use Rattle.quarantine.specs.declared.hold.HoldState.{HoldState}
use Rattle.quarantine.specs.declared.hold.HoldState.TheVariants.{Clear, Waiting, Condemned}
use Rattle.link_pool.specs.declared.place.Place.{Place}
use Rattle.link_pool.specs.declared.place.Place.TheVariants as place
use Rattle.link_pool.specs.declared.place.Claim.TheVariants as claim
use Rattle.link_pool.specs.declared.place.Link.{Link}
use Rattle.link_pool.specs.declared.place.LinkState.{LinkState}
use Rattle.link_pool.specs.declared.place.LinkState.TheVariants as state
use Rattle.link_pool.specs.Pool.{PoolView, place_at, with_place, with_claim, in_state}
use Rattle.link_pool.specs.OnePlace.{LinkFits}
use Rattle.link_pool.specs.PoolStep.{with_hold}
use Rattle.link_pool.specs.Streams.{Takes, Puts}
use Rattle.link_pool.specs.declared.entry.Entry.{Entry}
use Rattle.link_pool.specs.Entries.{place_of, claim_of}

-- whether a client has the link
abbrev pub is_held : LinkState → Bool
is_held state.Idle = false
is_held (state.Held slot) = true
is_held (state.Quarantined giver) = false

-- whether a client has the place
abbrev pub is_taken : Option Place → Bool
is_taken None = false
is_taken (Some place.Free) = false
is_taken (Some (place.Open permit slot)) = true
is_taken (Some (place.Link link)) = is_held link.state

-- the view with this at a place, and so for the client of a slot
abbrev pub with_client : {S : Type 0} → PoolView → LinkPlace → ℕ → Entry S → PoolView
with_client v at slot entry = with_claim (with_place v at (place_of entry)) slot (claim_of at entry)

-- what is stored with an entry is stored at its place, and nothing else
abbrev pub Stores : {S : Type 0} → LinkPlace → Option S → List (List (Option S))
    → List (List (Option S)) → Type 0
Stores at None old new = new ≡ old
Stores at (Some stream) old new = Puts at stream old new

-- a stream that leaves its place is taken from there, and nothing else
abbrev pub Leaves : {S : Type 0} → LinkPlace → Option S → List (List (Option S))
    → List (List (Option S)) → Type 0
Leaves at None old new = new ≡ old
Leaves at (Some stream) old new = Takes at stream old new

-- the place of a quarantined link, by how it stands by its tickets
abbrev pub quarantined_place : HoldState → Link → Place
quarantined_place Clear link = place.Link (in_state state.Idle link)
quarantined_place (Waiting tickets) link = place.Link link
quarantined_place Condemned link = place.Free

-- the place of a link that has these tickets from now on
abbrev pub settled_link : LinkState → OpenTickets → Link → Place
settled_link state.Idle hold link = place.Link link
settled_link (state.Held slot) hold link = place.Link (with_hold link hold)
settled_link (state.Quarantined giver) hold link =
    quarantined_place (state_of hold) (with_hold link hold)

abbrev pub settled_place : OpenTickets → Place → Place
settled_place hold place.Free = place.Free
settled_place hold (place.Open permit slot) = place.Open permit slot
settled_place hold (place.Link link) = settled_link link.state hold link

-- the client that gave a quarantined link back, if it can't get it back, by how that stands by its
-- tickets
abbrev pub freed_giver : HoldState → Option ℕ → Option ℕ
freed_giver Clear giver = giver
freed_giver (Waiting tickets) giver = None
freed_giver Condemned giver = giver

-- the client that gave a link back, if it can't get it back once the link has these tickets
abbrev pub settled_giver : LinkState → OpenTickets → Option ℕ
settled_giver state.Idle hold = None
settled_giver (state.Held slot) hold = None
settled_giver (state.Quarantined giver) hold = freed_giver (state_of hold) giver

-- whether a link with these tickets leaves its place
abbrev pub is_leaving_in : LinkState → OpenTickets → Bool
is_leaving_in state.Idle hold = false
is_leaving_in (state.Held slot) hold = false
is_leaving_in (state.Quarantined giver) hold = hold.condemned

abbrev pub is_leaving : OpenTickets → Place → Bool
is_leaving hold place.Free = false
is_leaving hold (place.Open permit slot) = false
is_leaving hold (place.Link link) = is_leaving_in link.state hold

-- the link that the client of a slot has, at its place
pub record IsLent (slot : ℕ) (at : LinkPlace) (link : Link) (v : PoolView) : Type 0 where
  pub claimed : slice_get v.claims slot ≡ Some (claim.Link at)
  pub there : place_at v at ≡ Some (place.Link link)
  pub held : link.state ≡ state.Held slot
  pub fits : LinkFits v at link

-- the link that a lease names is here, and with the client of this slot
pub record IsHeldIn (lease : LinkRecord) (link : Link) (slot : ℕ) (here : Option Place)
    : Type 0 where
  pub there : here ≡ Some (place.Link link)
  pub says : link.details ≡ lease
  pub held : link.state ≡ state.Held slot

-- no held link here is the lease's
abbrev pub IsStaleIn : LinkRecord → Option Place → Type 0
IsStaleIn lease here = (link : Link) (slot : ℕ) → IsHeldIn lease link slot here → ⊥
