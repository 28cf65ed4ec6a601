-- What clients and servers do to a world (own): logins, links, requests and their answers.
use Rattle.std.specs.Prelude.{ℕ, ◌≡◌, ◌+◌, ◌-◌, true, false, List, [], ◌∷◌, Option, Some, None, Result, Ok, Err, length, slice_get}
use Rattle.pg_ids.specs.AnyKey.{any_identity_of}
use Rattle.pg_ids.specs.declared.any_key.Kind.{Kind}
use Rattle.lease.specs.declared.{link_record.LinkRecord.LinkRecord, pass.PassRecord.PassRecord}
use Rattle.lease.specs.declared.permit.PermitRecord.{PermitRecord}
use Rattle.link_pool.specs.declared.replies.{AcquireReply.AcquireReply, UpReply.UpReply, UpFailedReply.UpFailedReply}
use Rattle.link_pool.specs.declared.replies.{ReleaseReply.ReleaseReply, CloseReply.CloseReply}
use Rattle.node_core.specs.declared.refusal.JoinRefusal.{JoinRefusal}
use Rattle.node_core.specs.declared.exchange.{LeaveReply.LeaveReply, Exchange.Exchange}
use Rattle.node_core.specs.View.{NodeView}
use Rattle.node_core.specs.NodeStep.{Asked}
use Rattle.world.specs.declared.reply.Reply.{Reply}
use Rattle.world.specs.World.{World, Backend, Hand, Server, Session, IsServer, IsSession}
use Rattle.world.specs.Changes.{and_then, Steps, with_nodes, with_session, with_backend, holding}

-- a client logs in: who gets a slot gets a key
abbrev pub Joins : ℕ → ℕ → ℕ → Result PassRecord JoinRefusal → Reply → World → World → Type 0
Joins node label database (Ok pass) said old new =
    (said ≡ Reply.Key pass.key)
    × (new ≡ record old {
      issues = and_then old.issues record {
        node = node;
        incarnation = pass.incarnation;
        identity = any_identity_of pass.key;
        label = label;
      };
      sessions = and_then old.sessions record {
        label = label;
        node = node;
        database = database;
        pass = pass;
        stays = true;
        hand = Hand.Empty;
      };
    })
Joins node label database (Err refusal) said old new =
    (said ≡ Reply.JoinRefused refusal) × (new ≡ old)

pub record LogsIn (node label database secret : ℕ) (kind : Kind) (said : Reply)
    (old new : World) : Type 0 where
  pub nodes : List NodeView
  pub joined : Result PassRecord JoinRefusal
  pub step : Steps node (Exchange.Join database secret kind joined) old.nodes nodes
  pub after : Joins node label database joined said (with_nodes nodes old) new

-- a session of a client, and a step of its node
pub record SessionSteps (label : ℕ) (made : Session → Exchange) (old : World) (place : ℕ)
    (session : Session) (nodes : List NodeView) : Type 0 where
  pub is : IsSession old.sessions label place session
  pub step : Steps session.node (made session) old.nodes nodes

-- the client of a session has the link of a server process, with nothing outstanding
abbrev pub gets : ℕ → Session → LinkRecord → ℕ → Backend → World → World
gets place session lease at backend w =
    with_session place (holding (Hand.Lease lease at 0) session)
    (with_backend at (record backend { holder = Some session.label }) w)

-- the server process that was made for the link of a lease
pub record IsLeased (backends : List Backend) (lease : LinkRecord) (place : ℕ)
    (backend : Backend) : Type 0 where
  pub there : slice_get backends place ≡ Some backend
  pub link : backend.link ≡ Some lease

-- a client asks for a link
abbrev pub Acquires : ℕ → Session → Asked → Reply → World → World → Type 0
Acquires place session (AcquireReply.Got lease) said old new =
    (at : ℕ) × (backend : Backend) × IsLeased old.backends lease at backend
    × (said ≡ Reply.Got at) × (new ≡ gets place session lease at backend old)
Acquires place session (AcquireReply.Open permit) said old new =
    (said ≡ Reply.Open) × (new ≡ with_session place (holding (Hand.Permit permit) session) old)
Acquires place session AcquireReply.Waiting said old new = (said ≡ Reply.Waiting) × (new ≡ old)
Acquires place session AcquireReply.Cancelled said old new = (said ≡ Reply.Cancelled) × (new ≡ old)
Acquires place session AcquireReply.Exhausted said old new = (said ≡ Reply.Exhausted) × (new ≡ old)
Acquires place session AcquireReply.Stale said old new = (said ≡ Reply.Stale) × (new ≡ old)
-- it has nothing in hand
Acquires place session AcquireReply.Holding said old new = ⊥

pub record Asks (label : ℕ) (said : Reply) (old new : World) : Type 0 where
  pub place : ℕ
  pub session : Session
  pub nodes : List NodeView
  pub given : Asked
  pub step : SessionSteps label (λ s. Exchange.Acquire s.pass given) old place session nodes
  pub after : Acquires place session given said (with_nodes nodes old) new

-- a new server process of this server with this key, made for this link, which this client has, if
-- any has it
abbrev pub new_backend : Server → List ℕ → Option LinkRecord → Option ℕ → Backend
new_backend server key link holder = record {
  server = server;
  key = key;
  link = link;
  wire = [];
  running = None;
  readies = 0;
  holder = holder;
}

-- the world with one more server process
abbrev pub with_new : Backend → World → World
with_new backend w = record w { backends = and_then w.backends backend }

-- what reporting that a link is open returns
abbrev pub Opened : Type 0
Opened = UpReply LinkRecord PermitRecord (Unit {0})

-- a link is open at a server process of its own, which nobody has where the node didn't take it; if
-- the node had no number for it, then the client has the permit still
abbrev pub GoesUp : ℕ → Session → Server → List ℕ → Opened → Reply → World → World → Type 0
GoesUp place session server key (UpReply.Up lease) said old new =
    (said ≡ Reply.Lease (length old.backends))
    × (new ≡ with_session place (holding (Hand.Lease lease (length old.backends) 0) session)
    (with_new (new_backend server key (Some lease) (Some session.label)) old))
GoesUp place session server key (UpReply.Exhausted again stream) said old new =
    (said ≡ Reply.Exhausted) × (new ≡ with_new (new_backend server key None None) old)
GoesUp place session server key (UpReply.Stale stream) said old new =
    (said ≡ Reply.Stale)
    × (new ≡ with_session place (holding Hand.Empty session)
    (with_new (new_backend server key None None) old))
-- a node of a world never runs out of numbers for its steps
GoesUp place session server key (UpReply.AtEnd stream) said old new = ⊥

-- a client has opened a link
pub record Opens (label : ℕ) (key : List ℕ) (said : Reply) (old new : World) : Type 0 where
  pub place : ℕ
  pub session : Session
  pub permit : PermitRecord
  pub server : Server
  pub nodes : List NodeView
  pub given : Opened
  pub hand : session.hand ≡ Hand.Permit permit
  pub at : IsServer old.group session.node session.database server
  pub step : SessionSteps label (λ s. Exchange.Up permit key given) old place session nodes
  pub after : GoesUp place session server key given said (with_nodes nodes old) new

-- what reporting that no link could be opened is called
abbrev pub failing_said : UpFailedReply → Reply
failing_said UpFailedReply.Freed = Reply.Freed
failing_said UpFailedReply.Stale = Reply.Stale
failing_said UpFailedReply.Exhausted = Reply.Exhausted

-- a client couldn't open a link
pub record Fails (label : ℕ) (said : Reply) (old new : World) : Type 0 where
  pub place : ℕ
  pub session : Session
  pub permit : PermitRecord
  pub nodes : List NodeView
  pub given : UpFailedReply
  pub hand : session.hand ≡ Hand.Permit permit
  pub step : SessionSteps label (λ s. Exchange.UpFailed permit given) old place session nodes
  pub said_is : said ≡ failing_said given
  pub after : new ≡ with_session place (holding Hand.Empty session) (with_nodes nodes old)

-- the lease that a client has in hand, at its server process
pub record IsLease (w : World) (label place : ℕ) (session : Session) (lease : LinkRecord)
    (at outstanding : ℕ) (backend : Backend) : Type 0 where
  pub is : IsSession w.sessions label place session
  pub hand : session.hand ≡ Hand.Lease lease at outstanding
  pub there : slice_get w.backends at ≡ Some backend

-- a request goes last on the wire of the client's link
pub record Sends (label : ℕ) (old new : World) : Type 0 where
  pub place : ℕ
  pub at : ℕ
  pub outstanding : ℕ
  pub session : Session
  pub lease : LinkRecord
  pub backend : Backend
  pub is : IsLease old label place session lease at outstanding backend
  pub after : new ≡ with_session place (holding (Hand.Lease lease at (outstanding + 1)) session)
      (with_backend at (record backend { wire = and_then backend.wire label }) old)

-- a ReadyForQuery comes to the client
pub record GetsReady (label : ℕ) (old new : World) : Type 0 where
  pub place : ℕ
  pub at : ℕ
  pub outstanding : ℕ
  pub session : Session
  pub lease : LinkRecord
  pub backend : Backend
  pub is : IsLease old label place session lease at outstanding backend
  pub after : new ≡ with_session place (holding (Hand.Lease lease at (outstanding - 1)) session)
      (with_backend at (record backend { readies = backend.readies - 1 }) old)

-- a server process begins with the first request on its wire
pub record Takes (at : ℕ) (old new : World) : Type 0 where
  pub backend : Backend
  pub label : ℕ
  pub rest : List ℕ
  pub there : slice_get old.backends at ≡ Some backend
  pub first : backend.wire ≡ label ∷ rest
  pub after : new ≡ with_backend at (record backend { wire = rest; running = Some label }) old

-- a server process no longer runs a request: a ReadyForQuery is on its way
abbrev pub rests : Backend → Backend
rests backend = record backend { running = None; readies = backend.readies + 1 }

pub record Finishes (at : ℕ) (old new : World) : Type 0 where
  pub backend : Backend
  pub there : slice_get old.backends at ≡ Some backend
  pub after : new ≡ with_backend at (rests backend) old

-- what giving a link back is called
abbrev pub released : ReleaseReply (Unit {0}) → Reply
released ReleaseReply.Idle = Reply.Idle
released ReleaseReply.Quarantined = Reply.Quarantined
released (ReleaseReply.Closed stream) = Reply.Closed
released (ReleaseReply.Stale stream) = Reply.Stale
released (ReleaseReply.Exhausted stream) = Reply.Exhausted

-- a client gives its link back
pub record GivesBack (label : ℕ) (said : Reply) (old new : World) : Type 0 where
  pub place : ℕ
  pub at : ℕ
  pub session : Session
  pub lease : LinkRecord
  pub nodes : List NodeView
  pub given : ReleaseReply (Unit {0})
  pub hand : session.hand ≡ Hand.Lease lease at 0
  pub step : SessionSteps label (λ s. Exchange.Release lease given) old place session nodes
  pub said_is : said ≡ released given
  pub after : new ≡ with_session place (holding Hand.Empty session) (with_nodes nodes old)

-- what closing a link is called
abbrev pub closed : CloseReply (Unit {0}) → Reply
closed (CloseReply.Closed stream) = Reply.Closed
closed (CloseReply.Stale stream) = Reply.Stale
closed (CloseReply.Exhausted stream) = Reply.Exhausted

-- a client closes its link; what is on its wire stays there
pub record Closes (label : ℕ) (said : Reply) (old new : World) : Type 0 where
  pub place : ℕ
  pub at : ℕ
  pub outstanding : ℕ
  pub session : Session
  pub lease : LinkRecord
  pub nodes : List NodeView
  pub given : CloseReply (Unit {0})
  pub hand : session.hand ≡ Hand.Lease lease at outstanding
  pub step : SessionSteps label (λ s. Exchange.Close lease given) old place session nodes
  pub said_is : said ≡ closed given
  pub after : new ≡ with_session place (holding Hand.Empty session) (with_nodes nodes old)

-- what leaving is called; a client stays only where it has something in hand
abbrev pub Leaves : LeaveReply PassRecord → Reply → Type 0
Leaves LeaveReply.Left said = said ≡ Reply.Left
Leaves LeaveReply.Stale said = said ≡ Reply.Stale
Leaves (LeaveReply.Holding again) said = ⊥
Leaves LeaveReply.Exhausted said = ⊥

-- a client leaves
pub record Goes (label : ℕ) (said : Reply) (old new : World) : Type 0 where
  pub place : ℕ
  pub session : Session
  pub nodes : List NodeView
  pub given : LeaveReply PassRecord
  pub step : SessionSteps label (λ s. Exchange.Leave s.pass given) old place session nodes
  pub said_is : Leaves given said
  pub after : new ≡ with_session place (record session { stays = false }) (with_nodes nodes old)
