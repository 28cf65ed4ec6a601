-- A node of one database whose clients are those that `decide` brought. `Attended`: each pass is
-- that of a client, each lease that of a link which a client has, and there is no other link; nobody
-- waits. `Came`: such a node from its start on, with room for more clients (internal).
use Rattle.std.specs.Prelude.{ℕ, ◌≡◌, ◌+◌, ◌<◌, ◌≤◌, Bool, true, false, List, [], ◌∷◌, ◌++◌, Option, Some, None, length, slice_get}
use Rattle.pg_ids.specs.AnyKey.{slot_of}
use Rattle.key_table.specs.declared.entry.Entry.{Entry}
use Rattle.lease.specs.declared.link_place.LinkPlace.{LinkPlace}
use Rattle.lease.specs.declared.link_record.LinkRecord.{LinkRecord}
use Rattle.lease.specs.declared.pass.PassRecord.{PassRecord}
use Rattle.lease.specs.declared.permit.PermitRecord.{PermitRecord}
use Rattle.lease.specs.declared.ticket.TicketRecord.{TicketRecord}
use Rattle.link_pool.specs.declared.place.{Place.Place, Claim.Claim, Link.Link, LinkState.LinkState}
use Rattle.link_pool.specs.Pool.{PoolView, place_at, queue_at}
use Rattle.link_pool.specs.PoolStep.{IsHeld, IsOpen, IsTicket}
use Rattle.link_pool.specs.OnePlace.{IsPool, used_in}
use Rattle.node_core.specs.NodeStep.{IsPass}
use Rattle.node_core.specs.View.{NodeView, IsNode}
use Rattle.node_core.specs.declared.client.Client.{Client}
use Rattle.node_core.specs.declared.exchange.Order.{Order}

-- how many slots are live
abbrev pub live_slots : List (Option Entry) → ℕ
live_slots [] = 0
live_slots (None ∷ entries) = live_slots entries
live_slots (Some entry ∷ entries) = 1 + live_slots entries

-- a client has the link, if there is one
abbrev pub is_lent : LinkState → Bool
is_lent LinkState.Idle = false
is_lent (LinkState.Held slot) = true
is_lent (LinkState.Quarantined giver) = false

-- no link lies here that no client has
abbrev pub is_calm : Option Place → Bool
is_calm None = true
is_calm (Some Place.Free) = true
is_calm (Some (Place.Open permit slot)) = true
is_calm (Some (Place.Link link)) = is_lent link.state

-- a client neither waits nor is owed anything
abbrev pub is_still : Option Claim → Bool
is_still None = true
is_still (Some Claim.Nothing) = true
is_still (Some Claim.Cancelled) = false
is_still (Some (Claim.Waiting database)) = false
is_still (Some (Claim.Open at)) = true
is_still (Some (Claim.Link at)) = true
is_still (Some (Claim.Gave at)) = false

-- the pass is that of a client of the database
pub record IsIn (v : NodeView) (pass : PassRecord) : Type 0 where
  pub client : Client
  pub is : IsPass v pass client
  pub of : client.database ≡ 0

-- the lease is that of a link which a client has
pub record IsOut (v : PoolView) (lease : LinkRecord) : Type 0 where
  pub link : Link
  pub slot : ℕ
  pub held : IsHeld lease link slot v

-- The passes are those of clients of the node's one database, each of a slot of its own; the leases
-- are those of links that clients have, each at a place of its own. So many places are in use, no
-- link is idle or quarantined, and nobody waits or is owed anything.
pub record Attended (passes : List PassRecord) (leases : List LinkRecord) (many : ℕ) (v : NodeView)
    : Type 0 where
  pub node : IsNode v
  pub pool : IsPool v.links
  pub one : length v.pools ≡ 1
  pub present : (i : ℕ) (pass : PassRecord) → slice_get passes i ≡ Some pass → IsIn v pass
  pub slots : (i j : ℕ) (a b : PassRecord) → slice_get passes i ≡ Some a
      → slice_get passes j ≡ Some b → slot_of a.key ≡ slot_of b.key → i ≡ j
  pub out : (i : ℕ) (lease : LinkRecord) → slice_get leases i ≡ Some lease → IsOut v.links lease
  pub places : (i j : ℕ) (a b : LinkRecord) → slice_get leases i ≡ Some a
      → slice_get leases j ≡ Some b → a.at ≡ b.at → i ≡ j
  pub calm : (at : LinkPlace) → is_calm (place_at v.links at) ≡ true
  pub still : (slot : ℕ) → is_still (slice_get v.links.claims slot) ≡ true
  pub nobody : queue_at v.links 0 ≡ []
  pub used : used_in (slice_get v.links.pools 0) ≡ many

-- A node with that many slots and places, to which these clients came, and no other. That many places
-- are in use; each was asked for once.
pub record Coming (size : ℕ) (passes : List PassRecord) (leases : List LinkRecord) (used : ℕ)
    (v : NodeView) : Type 0 where
  pub attended : Attended passes leases used v
  pub pools : v.pools ≡ size ∷ []
  pub entries : length v.keys.entries ≡ size
  pub live : live_slots v.keys.entries ≡ length passes
  pub next_pass : v.next_pass ≡ length passes
  pub next_permit : v.links.next_permit ≡ used
  pub next_link : v.links.next_link ≡ length leases

-- each place in use has a link, at most one for each client
pub record Came (size : ℕ) (passes : List PassRecord) (leases : List LinkRecord) (v : NodeView)
    : Type 0 where
  pub coming : Coming size passes leases (length leases) v
  pub few : length leases ≤ length passes
  pub limit : size ≤ 65535

-- one more client came, with this pass, and has nothing yet
pub record Joined (size : ℕ) (passes : List PassRecord) (pass : PassRecord)
    (leases : List LinkRecord) (v : NodeView) : Type 0 where
  pub coming : Coming size (passes ++ pass ∷ []) leases (length leases) v
  pub nothing : slice_get v.links.claims (slot_of pass.key) ≡ Some Claim.Nothing
  pub few : length leases ≤ length passes
  pub room : length passes < size
  pub limit : size ≤ 65535

-- one more client came, with this pass, and may open a link by this permit
pub record Opening (size : ℕ) (passes : List PassRecord) (pass : PassRecord)
    (leases : List LinkRecord) (permit : PermitRecord) (v : NodeView) : Type 0 where
  pub coming : Coming size (passes ++ pass ∷ []) leases (length leases + 1) v
  pub slot : ℕ
  pub kept : IsOpen permit slot v.links
  pub few : length leases ≤ length passes
  pub room : length passes < size
  pub limit : size ≤ 65535

-- each place in use has a link
abbrev pub Rests : List PassRecord → List LinkRecord → NodeView → Type 0
Rests passes leases v = Attended passes leases (length leases) v

-- the ticket, if there is one, is that of a link which a client has
abbrev pub Struck : Option TicketRecord → NodeView → Type 0
Struck None v = Unit {0}
Struck (Some ticket) v = (link : Link) × IsTicket ticket link v.links

-- the ticket of an order, if it has one
abbrev pub ticket_of : Order TicketRecord → Option TicketRecord
ticket_of (Order.Serve ticket database key) = Some ticket
ticket_of (Order.Forward peer packet) = None
ticket_of (Order.Unwait slot) = None
ticket_of (Order.Refused refusal) = None

-- the request was decided on, which left this ticket
abbrev pub Asked : List PassRecord → List LinkRecord → Option TicketRecord → NodeView → Type 0
Asked passes leases ticket v = Rests passes leases v × Struck ticket v
