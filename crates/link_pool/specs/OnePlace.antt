-- The invariant of a node's links (own). `IsPool`: places, queues and what clients have agree; the
-- numbers of links and of permits are distinct; no ticket of an idle link is open. `WithinSizes`: a
-- database has no more links and permits than its pool size.
use Rattle.std.specs.Prelude.{ℕ, ◌≡◌, ◌==◌, ◌&&◌, ◌+◌, ◌<◌, ◌≤◌, ◌^◌, Bool, false, List, [], ◌∷◌, Option, Some, None, length, map, slice_get, slice_index, if◌then◌else◌}
use Rattle.lease.specs.declared.link_place.LinkPlace.{LinkPlace}
use Rattle.slot_queues.specs.Queues.{times}
use Rattle.lease.specs.declared.permit.PermitRecord.{PermitRecord}
use Rattle.quarantine.specs.OpenTickets.{OpenTickets}
use Rattle.link_pool.specs.declared.place.Place.{Place}
use Rattle.link_pool.specs.declared.place.Place.TheVariants as place
use Rattle.link_pool.specs.declared.place.Link.{Link}
use Rattle.link_pool.specs.declared.place.LinkState.{LinkState}
use Rattle.link_pool.specs.declared.place.LinkState.TheVariants as state
use Rattle.link_pool.specs.declared.place.Claim.{Claim}
use Rattle.link_pool.specs.declared.place.Claim.TheVariants as claim
use Rattle.link_pool.specs.Pool.{DatabasePool, PoolView, place_at, is_free, queue_at}
use Rattle.link_pool.specs.Stacks.{IsStack}

-- whether both are one place
abbrev pub same_place : LinkPlace → LinkPlace → Bool
same_place a b = (a.database == b.database) && (a.index == b.index)

-- whether a client has the link of this place
abbrev pub has_link : LinkPlace → Option Claim → Bool
has_link at None = false
has_link at (Some claim.Nothing) = false
has_link at (Some claim.Cancelled) = false
has_link at (Some (claim.Waiting database)) = false
has_link at (Some (claim.Open other)) = false
has_link at (Some (claim.Link other)) = same_place other at
has_link at (Some (claim.Gave other)) = false

-- whether a client has the permit of this place
abbrev pub has_permit : LinkPlace → Option Claim → Bool
has_permit at None = false
has_permit at (Some claim.Nothing) = false
has_permit at (Some claim.Cancelled) = false
has_permit at (Some (claim.Waiting database)) = false
has_permit at (Some (claim.Open other)) = same_place other at
has_permit at (Some (claim.Link other)) = false
has_permit at (Some (claim.Gave other)) = false

-- whether a client gave back the link of this place, which is still quarantined
abbrev pub has_given : LinkPlace → Option Claim → Bool
has_given at None = false
has_given at (Some claim.Nothing) = false
has_given at (Some claim.Cancelled) = false
has_given at (Some (claim.Waiting database)) = false
has_given at (Some (claim.Open other)) = false
has_given at (Some (claim.Link other)) = false
has_given at (Some (claim.Gave other)) = same_place other at

-- how often a client's claim says that it waits for the database
abbrev pub waits : ℕ → Option Claim → ℕ
waits database None = 0
waits database (Some claim.Nothing) = 0
waits database (Some claim.Cancelled) = 0
waits database (Some (claim.Waiting other)) = if other == database then 1 else 0
waits database (Some (claim.Open at)) = 0
waits database (Some (claim.Link at)) = 0
waits database (Some (claim.Gave at)) = 0

-- whether a link is with the client of this slot
abbrev pub is_with : ℕ → LinkState → Bool
is_with slot state.Idle = false
is_with slot (state.Held other) = other == slot
is_with slot (state.Quarantined giver) = false

-- whether the link of a place is held by the client of this slot
abbrev pub held_by : ℕ → Option Place → Bool
held_by slot None = false
held_by slot (Some place.Free) = false
held_by slot (Some (place.Open permit other)) = false
held_by slot (Some (place.Link link)) = is_with slot link.state

-- whether a place is kept for the client of this slot
abbrev pub open_for : ℕ → Option Place → Bool
open_for slot None = false
open_for slot (Some place.Free) = false
open_for slot (Some (place.Open permit other)) = other == slot
open_for slot (Some (place.Link link)) = false

-- whether a link is quarantined, and the client of this slot gave it back
abbrev pub is_from : ℕ → LinkState → Bool
is_from slot state.Idle = false
is_from slot (state.Held other) = false
is_from slot (state.Quarantined None) = false
is_from slot (state.Quarantined (Some other)) = other == slot

-- whether the link of a place is quarantined, and the client of this slot gave it back
abbrev pub given_by : ℕ → Option Place → Bool
given_by slot None = false
given_by slot (Some place.Free) = false
given_by slot (Some (place.Open permit other)) = false
given_by slot (Some (place.Link link)) = is_from slot link.state

-- the tickets that a link in this state may have: none while it is idle, at least one while it is
-- quarantined, and in both states none has failed; a held link may have any
abbrev pub StateFits : LinkState → OpenTickets → Type 0
StateFits state.Idle hold = (hold.tickets ≡ 0) × (hold.condemned ≡ false)
StateFits (state.Held slot) hold = Unit {0}
StateFits (state.Quarantined giver) hold = (0 < hold.tickets) × (hold.condemned ≡ false)

-- a link says its node, its incarnation and its place, and its number was given
pub record LinkFits (v : PoolView) (at : LinkPlace) (link : Link) : Type 0 where
  pub says : link.details ≡ record {
    peer = v.peer;
    incarnation = v.incarnation;
    link = link.details.link;
    at = at;
  }
  pub given : link.details.link < v.next_link
  pub tickets : link.hold.tickets ≤ 65535
  pub state : StateFits link.state link.hold

-- a permit likewise
pub record PermitFits (v : PoolView) (at : LinkPlace) (permit : PermitRecord) : Type 0 where
  pub says : permit ≡ record {
    peer = v.peer;
    incarnation = v.incarnation;
    number = permit.number;
    at = at;
  }
  pub given : permit.number < v.next_permit

-- what stands at a place says so
abbrev pub Fits : PoolView → LinkPlace → Option Place → Type 0
Fits v at None = Unit {0}
Fits v at (Some place.Free) = Unit {0}
Fits v at (Some (place.Open permit slot)) = PermitFits v at permit
Fits v at (Some (place.Link link)) = LinkFits v at link

-- the number of the link of a place, and of its permit
abbrev pub link_number : Option Place → Option ℕ
link_number None = None
link_number (Some place.Free) = None
link_number (Some (place.Open permit slot)) = None
link_number (Some (place.Link link)) = Some link.details.link

abbrev pub permit_number : Option Place → Option ℕ
permit_number None = None
permit_number (Some place.Free) = None
permit_number (Some (place.Open permit slot)) = Some permit.number
permit_number (Some (place.Link link)) = None

-- how many places have a link or a permit
abbrev pub used : List Place → ℕ
used [] = 0
used (place.Free ∷ places) = used places
used (place.Open permit slot ∷ places) = 1 + used places
used (place.Link link ∷ places) = 1 + used places

-- a pool's stack has each free place once, and no other
abbrev pub IsStacked : Option DatabasePool → Type 0
IsStacked None = Unit {0}
IsStacked (Some pool) = IsStack is_free pool.places pool.free

-- what is true of every node's pools
pub record IsPool (v : PoolView) : Type 0 where
  -- what stands at a place says its node, incarnation and place, with a number that was given
  pub fits : (at : LinkPlace) → Fits v at (place_at v at)
  -- a client has a link exactly where that link is held by it
  pub links : (slot : ℕ) (at : LinkPlace)
      → has_link at (slice_get v.claims slot) ≡ held_by slot (place_at v at)
  -- a client has a permit exactly where its place is kept for it
  pub permits : (slot : ℕ) (at : LinkPlace)
      → has_permit at (slice_get v.claims slot) ≡ open_for slot (place_at v at)
  -- a client claims to have given a link back exactly where that link is quarantined and was given
  -- back by it
  pub given : (slot : ℕ) (at : LinkPlace)
      → has_given at (slice_get v.claims slot) ≡ given_by slot (place_at v at)
  -- a client waits exactly where it stands in that queue, and it stands there once
  pub queues : (slot database : ℕ)
      → waits database (slice_get v.claims slot) ≡ times slot (queue_at v database)
  -- no two links have one number, and no two permits
  pub link_once : (at other : LinkPlace) (number : ℕ) → link_number (place_at v at) ≡ Some number
      → link_number (place_at v other) ≡ Some number → at ≡ other
  pub permit_once : (at other : LinkPlace) (number : ℕ)
      → permit_number (place_at v at) ≡ Some number
      → permit_number (place_at v other) ≡ Some number → at ≡ other
  -- the numbers that are left
  pub numbers : (v.next_link ≤ 2 ^ 64) × (v.next_permit ≤ 2 ^ 64) × (v.next_ticket ≤ 2 ^ 64)
      × (v.incarnation < 2 ^ 64)
  -- each database's stack has its free places
  pub stacks : (database : ℕ) → IsStacked (slice_get v.pools database)
  -- each database has a queue
  pub beside : length v.queues ≡ length v.pools

-- how many links and permits a pool has
abbrev pub used_in : Option DatabasePool → ℕ
used_in None = 0
used_in (Some pool) = used pool.places

-- how many places each pool has
abbrev pub sizes : List DatabasePool → List ℕ
sizes pools = map (λ pool. length pool.places) pools

-- links and permits of each database are at most its pool size
abbrev pub WithinSizes : List ℕ → PoolView → Type 0
WithinSizes sizes v = (database : ℕ)
    → used_in (slice_get v.pools database) ≤ slice_index sizes database
