-- What cancel requests do to a world (own; PostgreSQL manual, "Canceling Requests in Progress"):
-- their way from flight to server, their ends, and new starts of nodes.
use Rattle.std.specs.Prelude.{ℕ, ◌≡◌, Bool, true, false, List, Option, Some, None, length, slice_get}
use Rattle.pg_ids.specs.AnyKey.{IsAnyKey, any_key_bytes, slot_of}
use Rattle.pg_ids.specs.declared.any_key.AnyKey.{AnyKey}
use Rattle.startup.specs.Kinds.{none_seen}
use Rattle.startup.specs.CancelPacket.{packet_bytes}
use Rattle.startup.specs.FirstPacket.{Cancel as CancelPacket, IsOutcome}
use Rattle.lease.specs.declared.{link_record.LinkRecord.LinkRecord, ticket.TicketRecord.TicketRecord}
use Rattle.link_pool.specs.declared.replies.{EndedReply.EndedReply, FailedReply.FailedReply, RestartReply.RestartReply}
use Rattle.cancel_router.specs.declared.refusal.RouteRefusal.{RouteRefusal}
use Rattle.node_core.specs.declared.client.Client.{Client}
use Rattle.node_core.specs.declared.refusal.CancelRefusal.{CancelRefusal}
use Rattle.node_core.specs.declared.exchange.{Order.Order, Exchange.Exchange}
use Rattle.node_core.specs.View.{NodeView, IsClient}
use Rattle.world.specs.declared.reply.Reply.{Reply}
use Rattle.world.specs.World.{World, Backend, Connection, Forward, Hand, Report, Server, Session, Taken, IsBackend, IsForward, IsNode, IsServer, IsSession}
use Rattle.world.specs.Changes.{and_then, Steps, with_nodes, with_backend, with_connection, with_forward}
use Rattle.world.specs.Admissible.{IsNextBoot}
use Rattle.world.specs.LinkEvents.{rests}

-- somebody sends bytes
pub record Puts (bytes : List ℕ) (said : Reply) (old new : World) : Type 0 where
  pub said_is : said ≡ Reply.Flight (length old.flights)
  pub after : new ≡ record old { flights = and_then old.flights bytes }

-- bytes that end as a connection's first packet are a CancelRequest with this key
pub record IsRequest (bytes : List ℕ) (key : AnyKey) : Type 0 where
  pub spelled : List ℕ
  pub outcome : IsOutcome none_seen bytes true (CancelPacket spelled)
  pub is : IsAnyKey key × (any_key_bytes key ≡ spelled)

-- bytes that are no CancelRequest
abbrev pub IsOther : List ℕ → Type 0
IsOther bytes = (key : AnyKey) → IsRequest bytes key → ⊥

-- the client that is logged in at a node with the pass which is in this slot there
pub record IsInSlot (w : World) (node slot label : ℕ) : Type 0 where
  pub at : ℕ
  pub view : NodeView
  pub is : IsNode w.nodes node at view
  pub client : Client
  pub live : IsClient view slot client
  pub place : ℕ
  pub session : Session
  pub there : IsSession w.sessions label place session
  pub stays : session.stays ≡ true
  pub here : session.node ≡ node
  pub pass : (session.pass.number ≡ client.pass)
      × (session.pass.incarnation ≡ view.links.incarnation)

-- the order takes a key for a client's: it goes to that client's server, the client waits or has no
-- link, or its link has too many tickets
abbrev pub takes_key : Order TicketRecord → Bool
takes_key (Order.Serve ticket database key) = true
takes_key (Order.Forward to packet) = false
takes_key (Order.Unwait slot) = true
takes_key (Order.Refused (CancelRefusal.Route RouteRefusal.Spent)) = false
takes_key (Order.Refused (CancelRefusal.Route RouteRefusal.Unknown)) = false
takes_key (Order.Refused (CancelRefusal.Route RouteRefusal.NoPeer)) = false
takes_key (Order.Refused (CancelRefusal.Route RouteRefusal.NoLink)) = true
takes_key (Order.Refused CancelRefusal.Busy) = true
takes_key (Order.Refused CancelRefusal.Exhausted) = false

-- the keys that were taken, after an arrival: one more where this one was, for the client in the
-- slot that the key names
abbrev pub IsTaken : Bool → World → ℕ → AnyKey → List Taken → Type 0
IsTaken false w node key taken = taken ≡ w.taken
IsTaken true w node key taken = (label : ℕ) × IsInSlot w node (slot_of key) label
    × (taken ≡ and_then w.taken record { node = node; key = key; label = label })

-- who has the link at a server process, as the node knows it: the client that is logged in there,
-- in this incarnation, and has its lease in hand
pub record Holds (w : World) (node incarnation at label : ℕ) : Type 0 where
  pub place : ℕ
  pub outstanding : ℕ
  pub session : Session
  pub lease : LinkRecord
  pub is : IsSession w.sessions label place session
  pub stays : session.stays ≡ true
  pub here : (session.node ≡ node) × (session.pass.incarnation ≡ incarnation)
  pub hand : session.hand ≡ Hand.Lease lease at outstanding

abbrev pub IsHolder : World → ℕ → ℕ → ℕ → Option ℕ → Type 0
IsHolder w node incarnation at (Some label) = Holds w node incarnation at label
IsHolder w node incarnation at None = (label : ℕ) → Holds w node incarnation at label → ⊥

-- a new cancel connection, for this order
pub record IsConnection (w : World) (node database : ℕ) (key : List ℕ) (ticket : TicketRecord)
    (connection : Connection) : Type 0 where
  pub server : Server
  pub place : ℕ
  pub backend : Backend
  pub holder : Option ℕ
  pub at : IsServer w.group node database server
  pub runs : IsBackend w.backends server key place backend
  pub held : IsHolder w node ticket.incarnation place holder
  pub is : connection ≡ record {
    server = server;
    key = key;
    backend = place;
    holder = holder;
    arrival = length w.arrivals;
    ticket = ticket;
    acted = false;
    ended = false;
    report = None;
  }

-- the forward connection of the next flight, for the next arrival
abbrev pub new_forward : World → Forward
new_forward w = record {
  flight = length w.flights;
  origin = length w.arrivals;
  accepted = None;
  ended = false;
  report = None;
}

-- what the order of an arrival makes: a cancel connection, or a flight with its forward connection,
-- or nothing
abbrev pub Makes : ℕ → Order TicketRecord → Reply → World → World → Type 0
Makes node (Order.Serve ticket database key) said old new =
    (connection : Connection) × IsConnection old node database key ticket connection
    × (said ≡ Reply.Serve (length old.arrivals) (length old.connections))
    × (new ≡ record old { connections = and_then old.connections connection })
Makes node (Order.Forward to packet) said old new =
    (said ≡ Reply.Forward (length old.arrivals) (length old.flights))
    × (new ≡ record old {
      flights = and_then old.flights (packet_bytes packet);
      forwards = and_then old.forwards (new_forward old);
    })
Makes node (Order.Unwait slot) said old new =
    (said ≡ Reply.Unwait (length old.arrivals)) × (new ≡ old)
Makes node (Order.Refused reason) said old new =
    (said ≡ Reply.CancelRefused (length old.arrivals) reason) × (new ≡ old)

-- a request comes to a node
pub record Arrives (flight node : ℕ) (key : AnyKey) (said : Reply) (old new : World) : Type 0 where
  pub nodes : List NodeView
  pub given : Order TicketRecord
  pub taken : List Taken
  pub step : Steps node (Exchange.Cancel key given) old.nodes nodes
  pub taken_is : IsTaken (takes_key given) old node key taken
  pub made : World
  pub makes : Makes node given said old made
  pub after : new ≡ record made {
    nodes = nodes;
    taken = taken;
    arrivals = and_then old.arrivals record {
      flight = flight;
      node = node;
      key = key;
      order = given;
    };
  }

-- the bytes of a flight come to a node: as a request, or as something else, of which nothing comes
pub data Comes (flight node : ℕ) (said : Reply) (old new : World) : Type 0 where
  Request : (bytes : List ℕ) (key : AnyKey) → slice_get old.flights flight ≡ Some bytes
      → IsRequest bytes key → Arrives flight node key said old new
      → Comes flight node said old new
  Other : (bytes : List ℕ) → slice_get old.flights flight ≡ Some bytes → IsOther bytes
      → said ≡ Reply.NoCancel → new ≡ old → Comes flight node said old new

-- the forward connection leads to the next arrival, if one came
abbrev pub bound_by : Reply → World → Forward → Forward
bound_by Reply.NoCancel old forward = forward
bound_by said old forward = record forward { accepted = Some (length old.arrivals) }

-- a forwarded request comes to a node on its forward connection, which leads to that arrival from
-- now on
pub record Accepts (flight node : ℕ) (said : Reply) (old new : World) : Type 0 where
  pub place : ℕ
  pub forward : Forward
  pub is : IsForward old.forwards flight place forward
  pub delivered : World
  pub comes : Comes flight node said old delivered
  pub after : new ≡ with_forward place (bound_by said old forward) delivered

-- a forward connection changes
pub record Forwards (flight : ℕ) (change : Forward → Forward) (old new : World) : Type 0 where
  pub place : ℕ
  pub forward : Forward
  pub is : IsForward old.forwards flight place forward
  pub after : new ≡ with_forward place (change forward) old

-- a server acts on a cancel connection: the server process with that key is interrupted, if it runs
-- a request
abbrev pub Strikes : ℕ → Backend → ℕ → Option ℕ → Reply → World → World → Type 0
Strikes at backend arrival None said old new = (said ≡ Reply.Nothing) × (new ≡ old)
Strikes at backend arrival (Some label) said old new =
    (said ≡ Reply.Struck at label)
    × (new ≡ record (with_backend at (rests backend) old) {
      interrupts = and_then old.interrupts
          record { backend = at; label = label; arrival = arrival };
    })

pub record Acts (place : ℕ) (said : Reply) (old new : World) : Type 0 where
  pub connection : Connection
  pub there : slice_get old.connections place ≡ Some connection
  pub at : ℕ
  pub backend : Backend
  pub is : IsBackend old.backends connection.server connection.key at backend
  pub struck : World
  pub strikes : Strikes at backend connection.arrival backend.running said old struck
  pub after : new ≡ with_connection place (record connection { acted = true }) struck

-- a server ends a cancel connection
pub record Ends (place : ℕ) (old new : World) : Type 0 where
  pub connection : Connection
  pub there : slice_get old.connections place ≡ Some connection
  pub after : new ≡ with_connection place (record connection { ended = true }) old

-- what the clean end of a cancel request is called
abbrev pub ended_as : EndedReply → Reply
ended_as EndedReply.Freed = Reply.Freed
ended_as EndedReply.Counted = Reply.Counted
ended_as EndedReply.Stale = Reply.Stale
ended_as EndedReply.Exhausted = Reply.Exhausted

-- what another end of it is called
abbrev pub failed_as : FailedReply (Unit {0}) → Reply
failed_as FailedReply.Condemned = Reply.Condemned
failed_as (FailedReply.Closed stream) = Reply.Closed
failed_as FailedReply.Stale = Reply.Stale
failed_as FailedReply.Exhausted = Reply.Exhausted

-- the end of a cancel connection is reported to the node whose ticket it has
pub record Reports (place : ℕ) (how : Report) (made : TicketRecord → Exchange)
    (old new : World) : Type 0 where
  pub connection : Connection
  pub nodes : List NodeView
  pub there : slice_get old.connections place ≡ Some connection
  pub step : Steps connection.ticket.peer (made connection.ticket) old.nodes nodes
  pub after : new ≡ with_connection place (record connection { report = Some how })
      (with_nodes nodes old)

-- a cancel connection was ended, and its node learns of that
pub record Tells (place : ℕ) (said : Reply) (old new : World) : Type 0 where
  pub given : EndedReply
  pub said_is : said ≡ ended_as given
  pub reports : Reports place Report.Clean (λ ticket. Exchange.Ended ticket given) old new

-- a cancel connection broke, as far as its node learns
pub record Breaks (place : ℕ) (said : Reply) (old new : World) : Type 0 where
  pub given : FailedReply (Unit {0})
  pub said_is : said ≡ failed_as given
  pub reports : Reports place Report.Fault (λ ticket. Exchange.Failed ticket given) old new

-- a node is started anew with this boot, unless it has no number for the incarnation
abbrev pub StartsAnew : ℕ → ℕ → RestartReply → Reply → World → World → Type 0
StartsAnew node boot RestartReply.Restarted said old new =
    (said ≡ Reply.Done)
    × (new ≡ record old { starts = and_then old.starts record { node = node; boot = boot } })
StartsAnew node boot RestartReply.Exhausted said old new = (said ≡ Reply.Exhausted) × (new ≡ old)

pub record Restarts (node : ℕ) (asked : Option ℕ) (said : Reply) (old new : World) : Type 0 where
  pub boot : ℕ
  pub next : IsNextBoot old.starts node asked boot
  pub given : RestartReply
  pub nodes : List NodeView
  pub step : Steps node (Exchange.Restart boot given) old.nodes nodes
  pub after : StartsAnew node boot given said (with_nodes nodes old) new
