-- The steps of a node's links (own; PgBouncer manual, transaction pooling): which replies each call
-- may get, and what each leaves. One choice is free: which idle link a client gets.
use Rattle.std.specs.Prelude.{ℕ, ◌≡◌, ◌≢◌, ◌==◌, ◌+◌, ◌-◌, ◌<◌, ◌^◌, Bool, true, false, List, [], ◌∷◌, Option, Some, None, ◌⊎◌, length, map, slice_get, replicate}
use Rattle.lease.specs.declared.link_place.LinkPlace.{LinkPlace}
use Rattle.lease.specs.declared.link_record.LinkRecord.{LinkRecord}
use Rattle.lease.specs.declared.permit.PermitRecord.{PermitRecord}
use Rattle.lease.specs.declared.ticket.TicketRecord.{TicketRecord}
use Rattle.quarantine.specs.OpenTickets.{OpenTickets}
use Rattle.link_pool.specs.declared.place.Place.{Place}
use Rattle.link_pool.specs.declared.place.Place.TheVariants as place
use Rattle.link_pool.specs.declared.place.Link.{Link}
use Rattle.link_pool.specs.declared.place.LinkState.{LinkState}
use Rattle.link_pool.specs.declared.place.LinkState.TheVariants as state
use Rattle.link_pool.specs.declared.place.Claim.{Claim}
use Rattle.link_pool.specs.declared.place.Claim.TheVariants as claim
use Rattle.link_pool.specs.declared.replies.AcquireReply.{AcquireReply}
use Rattle.link_pool.specs.declared.replies.AcquireReply.TheVariants as acquire
use Rattle.link_pool.specs.declared.replies.UpReply.{UpReply}
use Rattle.link_pool.specs.declared.replies.UpReply.TheVariants as up
use Rattle.link_pool.specs.declared.replies.UpFailedReply.{UpFailedReply}
use Rattle.link_pool.specs.declared.replies.UpFailedReply.TheVariants as failing
use Rattle.link_pool.specs.declared.replies.ReleaseReply.{ReleaseReply}
use Rattle.link_pool.specs.declared.replies.ReleaseReply.TheVariants as release
use Rattle.link_pool.specs.declared.replies.CloseReply.{CloseReply}
use Rattle.link_pool.specs.declared.replies.CloseReply.TheVariants as close
use Rattle.link_pool.specs.declared.replies.LeaveReply.{LeaveReply}
use Rattle.link_pool.specs.declared.replies.LeaveReply.TheVariants as leave
use Rattle.link_pool.specs.declared.replies.ServeReply.{ServeReply}
use Rattle.link_pool.specs.declared.replies.ServeReply.TheVariants as serve
use Rattle.link_pool.specs.declared.replies.EndedReply.{EndedReply}
use Rattle.link_pool.specs.declared.replies.EndedReply.TheVariants as ended
use Rattle.link_pool.specs.declared.replies.FailedReply.{FailedReply}
use Rattle.link_pool.specs.declared.replies.FailedReply.TheVariants as failed
use Rattle.link_pool.specs.declared.replies.RestartReply.{RestartReply}
use Rattle.link_pool.specs.declared.replies.RestartReply.TheVariants as restart
use Rattle.link_pool.specs.Pool.{DatabasePool, PoolView, place_at, free_at, queue_at, with_place, with_claim, in_state, keep, lend, give_back, quarantine, nothing_for, unqueued, departed, unwaited, queued}
use Rattle.link_pool.specs.Stacks.{top, all_places}

-- whether a client has a link or a permit
abbrev pub is_holding : Option Claim → Bool
is_holding None = false
is_holding (Some claim.Nothing) = false
is_holding (Some claim.Cancelled) = false
is_holding (Some (claim.Waiting database)) = false
is_holding (Some (claim.Open at)) = true
is_holding (Some (claim.Link at)) = true
is_holding (Some (claim.Gave at)) = false

-- whether a client has nothing, or waits
abbrev pub may_ask : Option Claim → Bool
may_ask None = true
may_ask (Some claim.Nothing) = true
may_ask (Some claim.Cancelled) = false
may_ask (Some (claim.Waiting database)) = true
may_ask (Some (claim.Open at)) = false
may_ask (Some (claim.Link at)) = false
may_ask (Some (claim.Gave at)) = false

-- whether nobody else waits before the slot
abbrev pub is_first : ℕ → List ℕ → Bool
is_first slot [] = true
is_first slot (first ∷ rest) = first == slot

-- whether a link is idle
abbrev pub is_idle_state : LinkState → Bool
is_idle_state state.Idle = true
is_idle_state (state.Held slot) = false
is_idle_state (state.Quarantined giver) = false

-- whether a link is quarantined
abbrev pub is_quarantined : LinkState → Bool
is_quarantined state.Idle = false
is_quarantined (state.Held slot) = false
is_quarantined (state.Quarantined giver) = true

-- the client that gave a quarantined link back, if it is still there
abbrev pub giver_of : LinkState → Option ℕ
giver_of state.Idle = None
giver_of (state.Held slot) = None
giver_of (state.Quarantined giver) = giver

-- whether an idle link is at a place
abbrev pub is_idle : Option Place → Bool
is_idle None = false
is_idle (Some place.Free) = false
is_idle (Some (place.Open permit slot)) = false
is_idle (Some (place.Link link)) = is_idle_state link.state

-- the place of the database with this index
abbrev pub nth_of : ℕ → ℕ → LinkPlace
nth_of database index = record { database = database; index = index }

-- no link of the database is idle
abbrev pub NoIdle : ℕ → PoolView → Type 0
NoIdle database v = (index : ℕ) → is_idle (place_at v (nth_of database index)) ≡ false

-- a place of the database is free
abbrev pub SomeFree : ℕ → PoolView → Type 0
SomeFree database v = (index : ℕ) × (place_at v (nth_of database index) ≡ Some place.Free)

-- no place of the database is free
abbrev pub NoneFree : ℕ → PoolView → Type 0
NoneFree database v = (index : ℕ) → place_at v (nth_of database index) ≢ Some place.Free

-- the place is free, and the one of its database that is taken next
pub record IsNextFree (v : PoolView) (at : LinkPlace) : Type 0 where
  pub free : place_at v at ≡ Some place.Free
  pub next : top (free_at v at.database) ≡ Some at.index

-- the client has nothing, or waits; and whether nobody waits before it
abbrev pub MayTake : ℕ → ℕ → Bool → PoolView → Type 0
MayTake slot database first v =
    (may_ask (slice_get v.claims slot) ≡ true) × (is_first slot (queue_at v database) ≡ first)

-- the client of the slot gets an idle link of the database
pub record Gets (slot database : ℕ) (lease : LinkRecord) (old new : PoolView) : Type 0 where
  pub link : Link
  pub was : place_at old lease.at ≡ Some (place.Link link)
  pub idle : link.state ≡ state.Idle
  pub says : link.details ≡ lease
  pub of : lease.at.database ≡ database
  pub after : new ≡ lend (unqueued old slot) lease.at slot link

-- the client of the slot gets back the very link that it gave back, which is quarantined; its
-- tickets stay open
pub record GetsBack (slot : ℕ) (lease : LinkRecord) (old new : PoolView) : Type 0 where
  pub link : Link
  pub gave : slice_get old.claims slot ≡ Some (claim.Gave lease.at)
  pub was : place_at old lease.at ≡ Some (place.Link link)
  pub quarantined : link.state ≡ state.Quarantined (Some slot)
  pub says : link.details ≡ lease
  pub after : new ≡ lend old lease.at slot link

-- the client of the slot may open a link at the free place of the database that is taken next
pub record MayOpen (slot database : ℕ) (permit : PermitRecord) (old new : PoolView) : Type 0 where
  pub at : IsNextFree old permit.at
  pub of : permit.at.database ≡ database
  pub left : old.next_permit < 2 ^ 64
  pub says : permit ≡ record {
    peer = old.peer;
    incarnation = old.incarnation;
    number = old.next_permit;
    at = permit.at;
  }
  pub after : new ≡ record (keep (unqueued old slot) slot permit) {
    next_permit = old.next_permit + 1;
  }

-- asking for a link
abbrev pub AcquireStep : ℕ → ℕ → AcquireReply LinkRecord PermitRecord → PoolView → PoolView → Type 0
-- the link that it gave back, if that is still quarantined, also where others wait; or an idle one
-- in its turn
AcquireStep slot database (acquire.Got lease) old new =
    GetsBack slot lease old new
    ⊎ (MayTake slot database true old × Gets slot database lease old new)
AcquireStep slot database (acquire.Open permit) old new =
    MayTake slot database true old × NoIdle database old × MayOpen slot database permit old new
-- none is idle and none can be opened, or somebody waits before it
AcquireStep slot database acquire.Waiting old new =
    (may_ask (slice_get old.claims slot) ≡ true)
    × ((is_first slot (queue_at old database) ≡ false)
    ⊎ (NoIdle database old × NoneFree database old))
    × (new ≡ queued old slot database)
-- its wait was cancelled, which is returned once
AcquireStep slot database acquire.Cancelled old new =
    (slice_get old.claims slot ≡ Some claim.Cancelled) × (new ≡ with_claim old slot claim.Nothing)
AcquireStep slot database acquire.Holding old new =
    (is_holding (slice_get old.claims slot) ≡ true) × (new ≡ old)
-- the step would need a number past the last
AcquireStep slot database acquire.Exhausted old new =
    MayTake slot database true old × NoIdle database old × SomeFree database old
    × (old.next_permit ≡ 2 ^ 64) × (new ≡ old)
-- its pass is judged by the node
AcquireStep slot database acquire.Stale old new = ⊥

-- the place that a permit names is kept for this very permit, and for the client of this slot
abbrev pub IsOpen : PermitRecord → ℕ → PoolView → Type 0
IsOpen permit slot v = place_at v permit.at ≡ Some (place.Open permit slot)

-- no place is kept for the permit
abbrev pub StalePermit : PermitRecord → PoolView → Type 0
StalePermit permit v = (slot : ℕ) → place_at v permit.at ≢ Some (place.Open permit slot)

-- the tickets of a new link
abbrev pub new_hold : OpenTickets
new_hold = record { tickets = 0; condemned = false }

-- a new link, with this key
abbrev pub new_link : LinkRecord → List ℕ → Link
new_link lease key = record { details = lease; key = key; state = state.Idle; hold = new_hold }

-- a link at the permit's place, with the client of the slot
pub record GoesUp (permit : PermitRecord) (key : List ℕ) (lease : LinkRecord)
    (old new : PoolView) : Type 0 where
  pub slot : ℕ
  pub kept : IsOpen permit slot old
  pub left : old.next_link < 2 ^ 64
  pub says : lease ≡ record {
    peer = old.peer;
    incarnation = old.incarnation;
    link = old.next_link;
    at = permit.at;
  }
  pub after : new ≡ record (lend old permit.at slot (new_link lease key)) {
    next_link = old.next_link + 1;
  }

-- a link is open
abbrev pub UpStep : {S : Type 0} → PermitRecord → List ℕ → UpReply LinkRecord PermitRecord S
    → PoolView → PoolView → Type 0
UpStep permit key (up.Up lease) old new = GoesUp permit key lease old new
UpStep permit key (up.Exhausted again stream) old new =
    (again ≡ permit) × ((slot : ℕ) × IsOpen permit slot old) × (old.next_link ≡ 2 ^ 64)
    × (new ≡ old)
UpStep permit key (up.Stale stream) old new = StalePermit permit old × (new ≡ old)
-- only a node returns this
UpStep permit key (up.AtEnd stream) old new = ⊥

-- a link couldn't be opened
abbrev pub UpFailedStep : PermitRecord → UpFailedReply → PoolView → PoolView → Type 0
UpFailedStep permit failing.Freed old new =
    (slot : ℕ) × IsOpen permit slot old × (new ≡ give_back old permit.at slot place.Free)
UpFailedStep permit failing.Stale old new = StalePermit permit old × (new ≡ old)
-- no number is needed
UpFailedStep permit failing.Exhausted old new = ⊥

-- the link that a lease names is at its place, and with the client of this slot
pub record IsHeld (lease : LinkRecord) (link : Link) (slot : ℕ) (v : PoolView) : Type 0 where
  pub at : place_at v lease.at ≡ Some (place.Link link)
  pub says : link.details ≡ lease
  pub held : link.state ≡ state.Held slot

-- no held link is the lease's
abbrev pub StaleLease : LinkRecord → PoolView → Type 0
StaleLease lease v = (link : Link) (slot : ℕ) → IsHeld lease link slot v → ⊥

-- a link is given back
abbrev pub ReleaseStep : {S : Type 0} → LinkRecord → ReleaseReply S → PoolView → PoolView → Type 0
ReleaseStep lease release.Idle old new =
    (link : Link) × (slot : ℕ) × IsHeld lease link slot old
    × (link.hold.condemned ≡ false) × (link.hold.tickets ≡ 0)
    × (new ≡ give_back old lease.at slot (place.Link (in_state state.Idle link)))
ReleaseStep lease release.Quarantined old new =
    (link : Link) × (slot : ℕ) × IsHeld lease link slot old
    × (link.hold.condemned ≡ false) × (0 < link.hold.tickets)
    × (new ≡ quarantine old lease.at slot link)
ReleaseStep lease (release.Closed stream) old new =
    (link : Link) × (slot : ℕ) × IsHeld lease link slot old × (link.hold.condemned ≡ true)
    × (new ≡ give_back old lease.at slot place.Free)
ReleaseStep lease (release.Stale stream) old new = StaleLease lease old × (new ≡ old)
-- no number is needed
ReleaseStep lease (release.Exhausted stream) old new = ⊥

-- a link is closed
abbrev pub CloseStep : {S : Type 0} → LinkRecord → CloseReply S → PoolView → PoolView → Type 0
CloseStep lease (close.Closed stream) old new =
    (link : Link) × (slot : ℕ) × IsHeld lease link slot old
    × (new ≡ give_back old lease.at slot place.Free)
CloseStep lease (close.Stale stream) old new = StaleLease lease old × (new ≡ old)
-- no number is needed
CloseStep lease (close.Exhausted stream) old new = ⊥

-- the client of a slot leaves: a link that it gave back stays quarantined, and nobody gets it back
abbrev pub LeaveStep : ℕ → LeaveReply → PoolView → PoolView → Type 0
LeaveStep slot leave.Left old new =
    (is_holding (slice_get old.claims slot) ≡ false) × (new ≡ departed old slot)
LeaveStep slot leave.Holding old new =
    (is_holding (slice_get old.claims slot) ≡ true) × (new ≡ old)

-- the wait of a slot's client is cancelled, if it waits: it leaves the queue, and its next
-- `acquire` returns `Cancelled`
abbrev pub UnwaitStep : ℕ → PoolView → PoolView → Type 0
UnwaitStep slot old new = new ≡ unwaited old slot

-- a link with these tickets
abbrev pub with_hold : Link → OpenTickets → Link
with_hold link hold = record link { hold = hold }

-- the link that the client of the slot has
abbrev pub HasLink : ℕ → LinkPlace → Link → PoolView → Type 0
HasLink slot at link v =
    (slice_get v.claims slot ≡ Some (claim.Link at)) × (place_at v at ≡ Some (place.Link link))

-- a link's tickets, once one more is open
abbrev pub one_more : OpenTickets → OpenTickets
one_more hold = record hold { tickets = hold.tickets + 1 }

-- one more ticket is open, of the very link that the client has
pub record Serves (slot : ℕ) (ticket : TicketRecord) (database : ℕ) (key : List ℕ)
    (old new : PoolView) : Type 0 where
  pub at : LinkPlace
  pub link : Link
  pub has : HasLink slot at link old
  pub few : link.hold.tickets < 65535
  pub left : old.next_ticket < 2 ^ 64
  pub says : ticket ≡ record {
    peer = old.peer;
    incarnation = old.incarnation;
    number = old.next_ticket;
    link = link.details.link;
    at = at;
  }
  pub of : (database ≡ at.database) × (key ≡ link.key)
  pub after : new ≡ record (with_place old at (place.Link (with_hold link (one_more link.hold))))
      { next_ticket = old.next_ticket + 1 }

-- a cancel request for the client of a slot
abbrev pub ServeStep : ℕ → ServeReply TicketRecord → PoolView → PoolView → Type 0
ServeStep slot (serve.Serve ticket database key) old new = Serves slot ticket database key old new
ServeStep slot serve.NoLink old new =
    ((at : LinkPlace) → slice_get old.claims slot ≢ Some (claim.Link at)) × (new ≡ old)
ServeStep slot serve.Busy old new =
    ((at : LinkPlace) × (link : Link) × HasLink slot at link old × (link.hold.tickets ≡ 65535))
    × (new ≡ old)
ServeStep slot serve.Exhausted old new =
    ((at : LinkPlace) × (link : Link) × HasLink slot at link old × (link.hold.tickets < 65535))
    × (old.next_ticket ≡ 2 ^ 64) × (new ≡ old)

-- what the link of a ticket says
abbrev pub link_of : TicketRecord → LinkRecord
link_of ticket = record {
  peer = ticket.peer;
  incarnation = ticket.incarnation;
  link = ticket.link;
  at = ticket.at;
}

-- a ticket's link is at its place, and has an open ticket
pub record IsTicket (ticket : TicketRecord) (link : Link) (v : PoolView) : Type 0 where
  pub at : place_at v ticket.at ≡ Some (place.Link link)
  pub says : link.details ≡ link_of ticket
  pub some : 0 < link.hold.tickets

-- no link with an open ticket is the ticket's
abbrev pub StaleTicket : TicketRecord → PoolView → Type 0
StaleTicket ticket v = (link : Link) → IsTicket ticket link v → ⊥

-- a link's tickets, once one has ended cleanly, and once one has failed
abbrev pub one_less : OpenTickets → OpenTickets
one_less hold = record hold { tickets = hold.tickets - 1 }

abbrev pub one_failed : OpenTickets → OpenTickets
one_failed hold = record { tickets = hold.tickets - 1; condemned = true }

-- a cancel request has ended cleanly
abbrev pub EndedStep : TicketRecord → EndedReply → PoolView → PoolView → Type 0
EndedStep ticket ended.Freed old new =
    (link : Link) × IsTicket ticket link old × (is_quarantined link.state ≡ true)
    × (link.hold.tickets ≡ 1)
    × (new ≡ nothing_for (giver_of link.state)
    (with_place old ticket.at
    (place.Link (in_state state.Idle (with_hold link (one_less link.hold))))))
EndedStep ticket ended.Counted old new =
    (link : Link) × IsTicket ticket link old
    × ((is_quarantined link.state ≡ false) ⊎ (1 < link.hold.tickets))
    × (new ≡ with_place old ticket.at (place.Link (with_hold link (one_less link.hold))))
EndedStep ticket ended.Stale old new = StaleTicket ticket old × (new ≡ old)
-- no number is needed
EndedStep ticket ended.Exhausted old new = ⊥

-- a cancel request hasn't ended cleanly
abbrev pub FailedStep : {S : Type 0} → TicketRecord → FailedReply S → PoolView → PoolView → Type 0
FailedStep ticket failed.Condemned old new =
    (link : Link) × (slot : ℕ) × IsTicket ticket link old × (link.state ≡ state.Held slot)
    × (new ≡ with_place old ticket.at (place.Link (with_hold link (one_failed link.hold))))
FailedStep ticket (failed.Closed stream) old new =
    (link : Link) × IsTicket ticket link old × (is_quarantined link.state ≡ true)
    × (new ≡ nothing_for (giver_of link.state) (with_place old ticket.at place.Free))
FailedStep ticket failed.Stale old new = StaleTicket ticket old × (new ≡ old)
-- no number is needed
FailedStep ticket failed.Exhausted old new = ⊥

-- a pool of this size with nothing at any place
abbrev pub empty_pool : ℕ → DatabasePool
empty_pool size = record { places = replicate size place.Free; free = all_places size }

-- the pools with nothing at any place
abbrev pub emptied : List DatabasePool → List DatabasePool
emptied pools = map (λ pool. empty_pool (length pool.places)) pools

-- a new start: the next incarnation, in which nothing is open; numbers aren't set back
abbrev pub RestartStep : RestartReply → PoolView → PoolView → Type 0
RestartStep restart.Restarted old new = (new ≡ record old {
  incarnation = old.incarnation + 1;
  pools = emptied old.pools;
  queues = replicate (length old.queues) [];
  claims = replicate (length old.claims) claim.Nothing;
}) × (old.incarnation + 1 < 2 ^ 64)
RestartStep restart.Exhausted old new = (old.incarnation + 1 ≡ 2 ^ 64) × (new ≡ old)

-- the pools of these sizes
abbrev pub empty_pools : List ℕ → List DatabasePool
empty_pools sizes = map empty_pool sizes

-- the pools of a node that was just made
abbrev pub fresh : ℕ → List ℕ → ℕ → PoolView
fresh peer sizes slots = record {
  peer = peer;
  incarnation = 0;
  pools = empty_pools sizes;
  queues = replicate (length sizes) [];
  claims = replicate slots claim.Nothing;
  next_link = 0;
  next_permit = 0;
  next_ticket = 0;
}
