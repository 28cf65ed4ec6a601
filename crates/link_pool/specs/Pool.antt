-- The links of a node (own; PgBouncer manual, `pool_size`). Each database has as many places as its
-- pool size, a stack of those that are free, and a queue of slots. A place is free, kept for a
-- permit, or has a link: idle, held by a slot's client, or quarantined, with its number of tickets.
-- For each slot: what its client has or waits for.
use Rattle.std.specs.Prelude.{ℕ, zero, suc, Bool, true, false, List, [], ◌∷◌, Option, Some, None, slice_get, slice_set}
use Rattle.lease.specs.declared.link_place.LinkPlace.{LinkPlace}
use Rattle.lease.specs.declared.permit.PermitRecord.{PermitRecord}
pub use Rattle.slot_queues.specs.Queues.{queue_of, others, behind}
use Rattle.link_pool.specs.declared.place.Place.{Place}
use Rattle.link_pool.specs.declared.place.Place.TheVariants as place
use Rattle.link_pool.specs.declared.place.Link.{Link}
use Rattle.link_pool.specs.declared.place.LinkState.{LinkState}
use Rattle.link_pool.specs.declared.place.LinkState.TheVariants as state
use Rattle.link_pool.specs.declared.place.Claim.{Claim}
use Rattle.link_pool.specs.declared.place.Claim.TheVariants as claim
use Rattle.link_pool.specs.Stacks.{put_on, under_top}

-- The pool of one database: its places, as many as its pool size, and the stack of the free ones,
-- of which the last is taken next.
pub record DatabasePool : Type 0 where
  pub places : List Place
  pub free : List ℕ

-- The pools of a node: its number and incarnation; by database its pool, and the slots that wait
-- for it, in order; by slot what its client has; the numbers that are given next.
pub record PoolView : Type 0 where
  pub peer : ℕ
  pub incarnation : ℕ
  pub pools : List DatabasePool
  pub queues : List (List ℕ)
  pub claims : List Claim
  pub next_link : ℕ
  pub next_permit : ℕ
  pub next_ticket : ℕ

-- what stands at a place of a pool, where there is such a place
abbrev pub place_in : Option DatabasePool → ℕ → Option Place
place_in None index = None
place_in (Some pool) index = slice_get pool.places index

-- what stands at a place, where there is such a place
abbrev pub place_at : PoolView → LinkPlace → Option Place
place_at v at = place_in (slice_get v.pools at.database) at.index

-- the stack of a database's free places
abbrev pub free_in : Option DatabasePool → List ℕ
free_in None = []
free_in (Some pool) = pool.free

abbrev pub free_at : PoolView → ℕ → List ℕ
free_at v database = free_in (slice_get v.pools database)

-- whether nothing is at a place
abbrev pub is_free : Option Place → Bool
is_free None = false
is_free (Some place.Free) = true
is_free (Some (place.Open permit slot)) = false
is_free (Some (place.Link link)) = false

-- the slots that wait for a database, in order
abbrev pub queue_at : PoolView → ℕ → List ℕ
queue_at v database = queue_of v.queues database

-- the list with the entry of this database changed
abbrev pub changed : {X : Type 0} → List X → ℕ → (X → X) → List X
changed [] database change = []
changed (x ∷ xs) zero change = change x ∷ xs
changed (x ∷ xs) (suc database) change = x ∷ changed xs database change

-- the pool with this at a place, and this done to its stack of free places
abbrev pub at_place : DatabasePool → ℕ → Place → (List ℕ → List ℕ) → DatabasePool
at_place pool index place restack = record {
  places = slice_set pool.places index place;
  free = restack pool.free;
}

-- the view likewise
abbrev pub placed : PoolView → LinkPlace → Place → (List ℕ → List ℕ) → PoolView
placed v at place restack = record v {
  pools = changed v.pools at.database (λ pool. at_place pool at.index place restack);
}

-- the view with this at this place, which wasn't free; if it is now, then it is taken next
abbrev pub with_place : PoolView → LinkPlace → Place → PoolView
with_place v at place = placed v at place (put_on (is_free (Some place)) at.index)

-- the view with this queue for the database
abbrev pub with_queue : PoolView → ℕ → (List ℕ → List ℕ) → PoolView
with_queue v database change = record v {
  queues = slice_set v.queues database (change (queue_at v database));
}

-- the view with this for the client of the slot
abbrev pub with_claim : PoolView → ℕ → Claim → PoolView
with_claim v slot claim = record v { claims = slice_set v.claims slot claim }

-- the link in this state
abbrev pub in_state : LinkState → Link → Link
in_state state link = record link { state = state }

-- the place of a permit, which is taken from the stack, is kept for the client of the slot
abbrev pub keep : PoolView → ℕ → PermitRecord → PoolView
keep v slot permit =
    with_claim (placed v permit.at (place.Open permit slot) under_top) slot (claim.Open permit.at)

-- the client of the slot gets the link of a place
abbrev pub lend : PoolView → LinkPlace → ℕ → Link → PoolView
lend v at slot link =
    with_claim (with_place v at (place.Link (in_state (state.Held slot) link))) slot (claim.Link at)

-- the client of the slot no longer has the place, which is this from now on
abbrev pub give_back : PoolView → LinkPlace → ℕ → Place → PoolView
give_back v at slot place = with_claim (with_place v at place) slot claim.Nothing

-- the client of the slot has given the link of a place back, which is quarantined
abbrev pub quarantine : PoolView → LinkPlace → ℕ → Link → PoolView
quarantine v at slot link =
    with_claim
    (with_place v at (place.Link (in_state (state.Quarantined (Some slot)) link)))
    slot
    (claim.Gave at)

-- the claims, with nothing for the client of this slot, if there is one
abbrev pub claims_without : Option ℕ → List Claim → List Claim
claims_without None claims = claims
claims_without (Some slot) claims = slice_set claims slot claim.Nothing

-- the view with nothing for the client of this slot, if there is one
abbrev pub nothing_for : Option ℕ → PoolView → PoolView
nothing_for slot v = record v { claims = claims_without slot v.claims }

-- the view with the slot out of the queue, by what its client has
abbrev pub out_of_queue : Option Claim → PoolView → ℕ → PoolView
out_of_queue None v slot = v
out_of_queue (Some claim.Nothing) v slot = v
out_of_queue (Some claim.Cancelled) v slot = v
out_of_queue (Some (claim.Waiting database)) v slot =
    with_claim (with_queue v database (others slot)) slot claim.Nothing
out_of_queue (Some (claim.Open at)) v slot = v
out_of_queue (Some (claim.Link at)) v slot = v
out_of_queue (Some (claim.Gave at)) v slot = v

-- the view with the slot out of the queue
abbrev pub unqueued : PoolView → ℕ → PoolView
unqueued v slot = out_of_queue (slice_get v.claims slot) v slot

-- the view with the link of a place quarantined, given back by no client that is still there; by
-- what is at the place
abbrev pub without_giver : Option Place → PoolView → LinkPlace → PoolView
without_giver None v at = v
without_giver (Some place.Free) v at = v
without_giver (Some (place.Open permit slot)) v at = v
without_giver (Some (place.Link link)) v at =
    with_place v at (place.Link (in_state (state.Quarantined None) link))

-- the view once a client with neither a link nor a permit has left, by what it has
abbrev pub departed_by : Option Claim → PoolView → ℕ → PoolView
departed_by None v slot = v
departed_by (Some claim.Nothing) v slot = v
departed_by (Some claim.Cancelled) v slot = with_claim v slot claim.Nothing
departed_by (Some (claim.Waiting database)) v slot =
    out_of_queue (Some (claim.Waiting database)) v slot
departed_by (Some (claim.Open at)) v slot = v
departed_by (Some (claim.Link at)) v slot = v
departed_by (Some (claim.Gave at)) v slot =
    with_claim (without_giver (place_at v at) v at) slot claim.Nothing

-- the view once the client of the slot has left
abbrev pub departed : PoolView → ℕ → PoolView
departed v slot = departed_by (slice_get v.claims slot) v slot

-- the view once the wait of the slot's client was cancelled, by what it has
abbrev pub unwaited_by : Option Claim → PoolView → ℕ → PoolView
unwaited_by None v slot = v
unwaited_by (Some claim.Nothing) v slot = v
unwaited_by (Some claim.Cancelled) v slot = v
unwaited_by (Some (claim.Waiting database)) v slot =
    with_claim (with_queue v database (others slot)) slot claim.Cancelled
unwaited_by (Some (claim.Open at)) v slot = v
unwaited_by (Some (claim.Link at)) v slot = v
unwaited_by (Some (claim.Gave at)) v slot = v

-- the view once the wait of the slot's client was cancelled, if it waits
abbrev pub unwaited : PoolView → ℕ → PoolView
unwaited v slot = unwaited_by (slice_get v.claims slot) v slot

-- the view with the slot in the queue: last, or left in its place, by what its client has
abbrev pub in_queue : Option Claim → PoolView → ℕ → ℕ → PoolView
in_queue (Some (claim.Waiting already)) v slot database = v
in_queue None v slot database = v
in_queue (Some claim.Nothing) v slot database =
    with_claim (with_queue v database (behind slot)) slot (claim.Waiting database)
in_queue (Some claim.Cancelled) v slot database = v
in_queue (Some (claim.Open at)) v slot database = v
in_queue (Some (claim.Link at)) v slot database = v
in_queue (Some (claim.Gave at)) v slot database = v

-- the view with the slot in the queue of the database
abbrev pub queued : PoolView → ℕ → ℕ → PoolView
queued v slot database = in_queue (slice_get v.claims slot) v slot database
