-- The steps of a node (own; PgBouncer manual, transaction pooling and `[peers]`): which replies
-- each call may get, and what each leaves. Two choices are free: which free slot a login gets, and
-- which idle link a client gets. `IsPass`: a pass belongs to its slot. A stale value gets `Stale`
-- and changes nothing.
use Rattle.std.specs.Prelude.{ℕ, ◌≡◌, ◌≢◌, ◌+◌, ◌<◌, ◌^◌, ◌⊎◌, Bool, true, false, Option, Some, None, Result, Ok, Err, length, replicate, slice_get, slice_set}
use Rattle.pg_ids.specs.AnyKey.{peer_of, slot_of}
use Rattle.pg_ids.specs.declared.any_key.{AnyKey.AnyKey, Kind.Kind}
use Rattle.pg_ids.specs.declared.long_part.LongPart.{LongPart}
use Rattle.key_table.specs.Slots.{Issues, Frees, IsNext, IsFree}
use Rattle.startup.specs.CancelPacket.{cancel_packet}
use Rattle.lease.specs.declared.{link_record.LinkRecord.LinkRecord, pass.PassRecord.PassRecord}
use Rattle.lease.specs.declared.{permit.PermitRecord.PermitRecord, ticket.TicketRecord.TicketRecord}
use Rattle.link_pool.specs.declared.place.{Place.Place, Claim.Claim}
use Rattle.link_pool.specs.declared.replies.{AcquireReply.AcquireReply, ServeReply.ServeReply}
use Rattle.link_pool.specs.declared.replies.RestartReply.{RestartReply}
use Rattle.link_pool.specs.Pool.{PoolView, place_at, departed}
use Rattle.link_pool.specs.PoolStep as pool
use Rattle.cancel_router.specs.Route.{route}
use Rattle.cancel_router.specs.declared.{table_view.Standing.Standing, decision.Route.Route}
use Rattle.node_core.specs.View.{NodeView, NodeValue, IsClient}
use Rattle.node_core.specs.declared.client.Client.{Client}
use Rattle.node_core.specs.declared.refusal.{JoinRefusal.JoinRefusal, CancelRefusal.CancelRefusal}
use Rattle.node_core.specs.declared.exchange.{LeaveReply.LeaveReply, Order.Order, Exchange.Exchange}

-- a pass is its slot's: its node and its incarnation are this one, and its number is that of the
-- slot's client
pub record IsPass (v : NodeView) (pass : PassRecord) (client : Client) : Type 0 where
  pub own : (peer_of pass.key ≡ v.me) × (pass.incarnation ≡ v.links.incarnation)
  pub there : IsClient v (slot_of pass.key) client
  pub number : client.pass ≡ pass.number

-- the pass is no slot's
abbrev pub StalePass : NodeView → PassRecord → Type 0
StalePass v pass = (client : Client) → IsPass v pass client → ⊥

-- how the client stands that has the link of a place
abbrev pub holding : Option Place → Standing
holding (Some (Place.Link link)) = Standing.Holds link.details.link
holding other = Standing.Without

-- how a client stands, by what it has
abbrev pub standing_by : PoolView → Option Claim → Standing
standing_by links (Some (Claim.Link at)) = holding (place_at links at)
standing_by links (Some (Claim.Waiting database)) = Standing.Waits
standing_by links other = Standing.Without

-- how the client of a slot stands
abbrev pub standing_in : NodeView → ℕ → Standing
standing_in v slot = standing_by v.links (slice_get v.links.claims slot)

-- a step of the links, and of nothing else
abbrev pub LinksStep : (PoolView → PoolView → Type 0) → NodeView → NodeView → Type 0
LinksStep Step old new = Step old.links new.links × (new ≡ record old { links = new.links })

-- what the next key of this kind has behind its first eight bytes: boot and serial, if it is long
abbrev pub part_of : Kind → NodeView → Option LongPart
part_of Kind.Short v = None
part_of Kind.Long v = Some record { boot = v.boot; serial = v.next_serial }

-- a key of this kind can be issued: a long one needs a serial, of which this is the next
abbrev pub HasSerial : Kind → ℕ → Type 0
HasSerial Kind.Short serial = Unit {0}
HasSerial Kind.Long serial = serial < 2 ^ 64

-- the serial of the next long key, once a key of this kind was issued
abbrev pub serial_after : Kind → ℕ → ℕ
serial_after Kind.Short serial = serial
serial_after Kind.Long serial = serial + 1

-- a client of this database gets the next slot, a key of its kind, and a pass with the next number
pub record Joins (database secret : ℕ) (kind : Kind) (pass : PassRecord)
    (old new : NodeView) : Type 0 where
  pub number : (pass.number ≡ old.next_pass) × (old.next_pass < 2 ^ 64)
  pub incarnation : pass.incarnation ≡ old.links.incarnation
  pub serial : HasSerial kind old.next_serial
  pub slot : Issues old.keys secret (part_of kind old) pass.key new.keys
  pub next : IsNext new.keys.entries new.keys.next
  pub after : new ≡ record old {
    keys = new.keys;
    clients = slice_set old.clients (slot_of pass.key)
        (Some record { database = database; pass = pass.number });
    next_pass = old.next_pass + 1;
    next_serial = serial_after kind old.next_serial;
  }

-- joining
abbrev pub JoinStep : ℕ → ℕ → Kind → Result PassRecord JoinRefusal → NodeView → NodeView → Type 0
JoinStep database secret kind (Ok pass) old new = Joins database secret kind pass old new
-- no slot is free
JoinStep database secret kind (Err JoinRefusal.Full) old new =
    ((slot : ℕ) → slice_get old.keys.entries slot ≢ Some None) × (new ≡ old)
-- a slot is free, and no number is left for the pass, or for the serial of a long key
JoinStep database secret kind (Err JoinRefusal.Exhausted) old new =
    ((slot : ℕ) × IsFree old.keys.entries slot)
    × ((old.next_pass ≡ 2 ^ 64) ⊎ ((kind ≡ Kind.Long) × (old.next_serial ≡ 2 ^ 64)))
    × (new ≡ old)

-- the slot of a pass is free again, out of the queue and owed nothing, and no other changes; a link
-- that its client gave back stays quarantined, and nobody gets it back
pub record Leaves (pass : PassRecord) (old new : NodeView) : Type 0 where
  pub slot : Frees old.keys (slot_of pass.key) new.keys
  pub next : IsNext new.keys.entries new.keys.next
  pub after : new ≡ record old {
    keys = new.keys;
    clients = slice_set old.clients (slot_of pass.key) None;
    links = departed old.links (slot_of pass.key);
  }

-- the pass is its slot's, whose client has a link or a permit, or has none
abbrev pub IsLeaving : NodeView → PassRecord → Bool → Type 0
IsLeaving v pass holding = (client : Client)
    × IsPass v pass client
    × (pool.is_holding (slice_get v.links.claims (slot_of pass.key)) ≡ holding)

-- leaving
abbrev pub LeaveStep : PassRecord → LeaveReply PassRecord → NodeView → NodeView → Type 0
LeaveStep pass LeaveReply.Left old new = IsLeaving old pass false × Leaves pass old new
-- the client has a link or a permit
LeaveStep pass (LeaveReply.Holding again) old new =
    IsLeaving old pass true × (again ≡ pass) × (new ≡ old)
LeaveStep pass LeaveReply.Stale old new = StalePass old pass × (new ≡ old)
-- no number is needed to leave
LeaveStep pass LeaveReply.Exhausted old new = ⊥

-- what asking for a link returns, of a link what its lease says
abbrev pub Asked : Type 0
Asked = AcquireReply LinkRecord PermitRecord

-- the client of a pass asks for a link of its own database
pub record Asks (pass : PassRecord) (reply : Asked) (old new : NodeView) : Type 0 where
  pub client : Client
  pub is : IsPass old pass client
  pub step : LinksStep (pool.AcquireStep (slot_of pass.key) client.database reply) old new

-- asking for a link
abbrev pub AcquireStep : PassRecord → Asked → NodeView → NodeView → Type 0
AcquireStep pass AcquireReply.Stale old new = StalePass old pass × (new ≡ old)
AcquireStep pass reply old new = Asks pass reply old new

-- a ticket for the link that the client of a slot has, or the reason why there is none
abbrev pub Serves : ℕ → ServeReply TicketRecord → NodeView → NodeView → Type 0
Serves slot reply old new = LinksStep (pool.ServeStep slot reply) old new

-- the order that a route gives, for the client of this slot where it is sent to a link
abbrev pub Orders : ℕ → Route → Order TicketRecord → NodeView → NodeView → Type 0
Orders slot (Route.Forward peer key) (Order.Forward to packet) old new =
    (to ≡ peer) × (packet ≡ cancel_packet key) × (new ≡ old)
Orders slot (Route.Refused reason) (Order.Refused refusal) old new =
    (refusal ≡ CancelRefusal.Route reason) × (new ≡ old)
-- one more ticket of that very link is open
Orders slot (Route.Send link) (Order.Serve ticket database key) old new =
    (ticket.link ≡ link) × Serves slot (ServeReply.Serve ticket database key) old new
-- as many tickets of the link are open as may be
Orders slot (Route.Send link) (Order.Refused CancelRefusal.Busy) old new =
    Serves slot ServeReply.Busy old new
-- no number is left for the ticket
Orders slot (Route.Send link) (Order.Refused CancelRefusal.Exhausted) old new =
    Serves slot ServeReply.Exhausted old new
-- the client of that slot waits no longer, and is owed `Cancelled`
Orders slot (Route.Unwait waiting) (Order.Unwait told) old new =
    (told ≡ waiting) × LinksStep (pool.UnwaitStep waiting) old new
Orders slot way given old new = ⊥

-- where a request with this key goes
abbrev pub route_of : NodeView → AnyKey → Route
route_of v key = route v.me v.peers v.keys (standing_in v) key

-- a cancel request with this key
abbrev pub CancelStep : AnyKey → Order TicketRecord → NodeView → NodeView → Type 0
CancelStep key given old new = Orders (slot_of key) (route_of old key) given old new

-- a new incarnation, with this boot: no slot is live, there is no link, and serials begin with 0
pub record Restarts (boot : ℕ) (old new : NodeView) : Type 0 where
  pub links : pool.RestartStep RestartReply.Restarted old.links new.links
  pub peer : new.keys.peer ≡ old.keys.peer
  pub free : new.keys.entries ≡ replicate (length old.keys.entries) None
  pub next : IsNext new.keys.entries new.keys.next
  pub after : new ≡ record old {
    keys = new.keys;
    clients = replicate (length old.clients) None;
    boot = boot;
    next_serial = 0;
    links = new.links;
  }

-- a new start
abbrev pub RestartStep : ℕ → RestartReply → NodeView → NodeView → Type 0
RestartStep boot RestartReply.Restarted old new = Restarts boot old new
-- no number is left for the incarnation
RestartStep boot RestartReply.Exhausted old new =
    pool.RestartStep RestartReply.Exhausted old.links new.links × (new ≡ old)

-- from old, the node may give this call its reply and go on to new
abbrev pub NodeStep : NodeView → Exchange → NodeView → Type 0
NodeStep old (Exchange.Join database secret kind reply) new =
    JoinStep database secret kind reply old new
NodeStep old (Exchange.Leave pass reply) new = LeaveStep pass reply old new
NodeStep old (Exchange.Acquire pass reply) new = AcquireStep pass reply old new
NodeStep old (Exchange.Up permit key reply) new = LinksStep (pool.UpStep permit key reply) old new
NodeStep old (Exchange.UpFailed permit reply) new =
    LinksStep (pool.UpFailedStep permit reply) old new
NodeStep old (Exchange.Release lease reply) new = LinksStep (pool.ReleaseStep lease reply) old new
NodeStep old (Exchange.Close lease reply) new = LinksStep (pool.CloseStep lease reply) old new
NodeStep old (Exchange.Cancel key reply) new = CancelStep key reply old new
NodeStep old (Exchange.Ended ticket reply) new = LinksStep (pool.EndedStep ticket reply) old new
NodeStep old (Exchange.Failed ticket reply) new = LinksStep (pool.FailedStep ticket reply) old new
NodeStep old (Exchange.Restart boot reply) new = RestartStep boot reply old new

-- a node with its streams takes the step of this call
abbrev pub IsStep : {S : Type 0} → Exchange → NodeValue S → NodeValue S → Type 0
IsStep call old new = NodeStep old.view call new.view
