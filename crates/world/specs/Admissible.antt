-- Which events may take place in a world (own): the order that a session keeps, and what is taken
-- for granted of servers, secrets and boots.
use Rattle.std.specs.Prelude.{ℕ, ◌≡◌, ◌≢◌, ◌+◌, ◌<◌, ◌^◌, Bool, true, false, List, [], Option, Some, None, length, slice_get}
use Rattle.pg_ids.specs.Key.{identity_of}
use Rattle.pg_ids.specs.declared.any_key.{Identity.Identity, Kind.Kind}
use Rattle.key_table.specs.Slots.{first_key}
use Rattle.lease.specs.declared.{link_record.LinkRecord.LinkRecord, permit.PermitRecord.PermitRecord}
use Rattle.node_core.specs.View.{NodeView}
use Rattle.world.specs.declared.event.Event.{Event}
use Rattle.world.specs.World.{World, Arrival, Backend, Connection, Forward, Hand, Issue, Report, Server, Session, Start, HadBoot, IsGreatestBoot, IsBackend, IsForward, IsNode, IsServer, IsSession}
use Rattle.world.specs.Settled.{IsNowhere}

-- the client is there, and has this in hand
pub record HasInHand (w : World) (label : ℕ) (hand : Hand) : Type 0 where
  pub place : ℕ
  pub session : Session
  pub is : IsSession w.sessions label place session
  pub stays : session.stays ≡ true
  pub holds : session.hand ≡ hand

-- the client has a permit
abbrev pub HasPermit : World → ℕ → Type 0
HasPermit w label = (permit : PermitRecord) × HasInHand w label (Hand.Permit permit)

-- the client has the lease of this server process, with this many requests outstanding; the lease
-- may be stale
abbrev pub HasLease : World → ℕ → ℕ → ℕ → Type 0
HasLease w label backend outstanding =
    (lease : LinkRecord) × HasInHand w label (Hand.Lease lease backend outstanding)

-- the client has a lease
abbrev pub HasSomeLease : World → ℕ → Type 0
HasSomeLease w label = (backend outstanding : ℕ) × HasLease w label backend outstanding

-- the node never gave a key with this identity
abbrev pub NeverIssued : List Issue → ℕ → Identity → Type 0
NeverIssued issues node identity = (place : ℕ) (issue : Issue)
    → slice_get issues place ≡ Some issue → issue.node ≡ node → issue.identity ≢ identity

-- The short key that a client with this secret would get in the next slot was never given by the
-- node. A long key has a serial and a boot of its own.
abbrev pub IsNewSecret : List Issue → ℕ → Kind → ℕ → Option ℕ → Type 0
IsNewSecret issues node Kind.Long secret next = Unit {0}
IsNewSecret issues node Kind.Short secret None = Unit {0}
IsNewSecret issues node Kind.Short secret (Some slot) =
    NeverIssued issues node (Identity.Short (identity_of (first_key node slot secret)))

-- there is a node with this number
abbrev pub HasNode : World → ℕ → Type 0
HasNode w node = (place : ℕ) × (view : NodeView) × IsNode w.nodes node place view

-- a client logs in: no session ever had its label, the node has the database, and the node gives no
-- key twice
pub record MayLogIn (w : World) (node label database secret : ℕ) (kind : Kind) : Type 0 where
  pub new : (place : ℕ) (session : Session) → IsSession w.sessions label place session → ⊥
  pub place : ℕ
  pub view : NodeView
  pub is : IsNode w.nodes node place view
  pub has : database < length view.pools
  pub fresh : IsNewSecret w.issues node kind secret view.keys.next

-- a link goes up: no server process of that server has this key
pub record MayGoUp (w : World) (label : ℕ) (key : List ℕ) : Type 0 where
  pub place : ℕ
  pub session : Session
  pub is : IsSession w.sessions label place session
  pub stays : session.stays ≡ true
  pub permit : PermitRecord
  pub hand : session.hand ≡ Hand.Permit permit
  pub server : Server
  pub at : IsServer w.group session.node session.database server
  pub new : (other : ℕ) (backend : Backend) → IsBackend w.backends server key other backend → ⊥

-- a request waits for the server process, which runs nothing
pub record MayTake (w : World) (place : ℕ) : Type 0 where
  pub backend : Backend
  pub there : slice_get w.backends place ≡ Some backend
  pub free : backend.running ≡ None
  pub waits : backend.wire ≢ []

-- the server process runs a request
pub record IsRunning (w : World) (place : ℕ) : Type 0 where
  pub backend : Backend
  pub there : slice_get w.backends place ≡ Some backend
  pub label : ℕ
  pub runs : backend.running ≡ Some label

-- a ReadyForQuery is on its way on the link that the client holds
pub record MayGetReady (w : World) (label : ℕ) : Type 0 where
  pub place : ℕ
  pub outstanding : ℕ
  pub has : HasLease w label place outstanding
  pub backend : Backend
  pub there : slice_get w.backends place ≡ Some backend
  pub readies : 0 < backend.readies

-- the cancel connection, by whether the server has acted on it and ended it
pub record StandsAt (w : World) (place : ℕ) (acted ended : Bool) : Type 0 where
  pub connection : Connection
  pub there : slice_get w.connections place ≡ Some connection
  pub acting : connection.acted ≡ acted
  pub ending : connection.ended ≡ ended

-- the end of the cancel connection wasn't reported
pub record IsUnreported (w : World) (place : ℕ) (connection : Connection) : Type 0 where
  pub there : slice_get w.connections place ≡ Some connection
  pub unreported : connection.report ≡ None

-- The end of a request may be reported to whoever forwarded it: it was refused or ended a wait; or
-- its connection to a server was reported clean; or its own forward connection was.
pub data IsAnswered (arrivals : List Arrival) (connections : List Connection)
    (forwards : List Forward) (arrival : ℕ) : Type 0 where
  Nowhere : (came : Arrival) → slice_get arrivals arrival ≡ Some came
      → IsNowhere came.order → IsAnswered arrivals connections forwards arrival
  Carried : (place : ℕ) (connection : Connection)
      → slice_get connections place ≡ Some connection → connection.arrival ≡ arrival
      → connection.report ≡ Some Report.Clean → IsAnswered arrivals connections forwards arrival
  Onward : (place : ℕ) (forward : Forward)
      → slice_get forwards place ≡ Some forward → forward.origin ≡ arrival
      → forward.report ≡ Some Report.Clean → IsAnswered arrivals connections forwards arrival

-- a request may be accepted on its forward connection: it wasn't yet, and nothing was reported
pub record MayAccept (w : World) (flight : ℕ) : Type 0 where
  pub place : ℕ
  pub forward : Forward
  pub is : IsForward w.forwards flight place forward
  pub new : forward.accepted ≡ None
  pub unreported : forward.report ≡ None

-- a forward connection may be ended without a byte: once what came on it is answered
pub record MayEndForward (w : World) (flight : ℕ) : Type 0 where
  pub place : ℕ
  pub forward : Forward
  pub is : IsForward w.forwards flight place forward
  pub arrival : ℕ
  pub accepted : forward.accepted ≡ Some arrival
  pub going : forward.ended ≡ false
  pub answered : IsAnswered w.arrivals w.connections w.forwards arrival

-- the end of a forward connection wasn't reported
pub record IsForwardOpen (w : World) (flight place : ℕ) (forward : Forward) : Type 0 where
  pub is : IsForward w.forwards flight place forward
  pub unreported : forward.report ≡ None

-- the boot with which a node may be started anew: the one that is asked for, if it never had that;
-- or else one more than its greatest
abbrev pub IsNextBoot : List Start → ℕ → Option ℕ → ℕ → Type 0
IsNextBoot starts node (Some asked) boot = (boot ≡ asked) × (HadBoot starts node asked → ⊥)
IsNextBoot starts node None boot =
    (greatest : ℕ) × IsGreatestBoot starts node greatest × (boot ≡ greatest + 1) × (boot < 2 ^ 64)

-- the event may take place
abbrev pub Admissible : World → Event → Type 0
Admissible w (Event.Login node label database secret kind) =
    MayLogIn w node label database secret kind
Admissible w (Event.Acquire label) = HasInHand w label Hand.Empty
Admissible w (Event.Up label key) = MayGoUp w label key
Admissible w (Event.UpFailed label) = HasPermit w label
Admissible w (Event.Send label) = HasSomeLease w label
Admissible w (Event.Take backend) = MayTake w backend
Admissible w (Event.Finish backend) = IsRunning w backend
Admissible w (Event.Ready label) = MayGetReady w label
-- nothing is outstanding
Admissible w (Event.Release label) = (backend : ℕ) × HasLease w label backend 0
Admissible w (Event.Close label) = HasSomeLease w label
Admissible w (Event.Leave label) = HasInHand w label Hand.Empty
Admissible w (Event.Put bytes) = Unit {0}
Admissible w (Event.Deliver flight node) = (flight < length w.flights) × HasNode w node
Admissible w (Event.Accept flight node) = MayAccept w flight × HasNode w node
Admissible w (Event.ForwardEnded flight) = MayEndForward w flight
Admissible w (Event.ForwardTold flight) =
    (place : ℕ) × (forward : Forward) × IsForwardOpen w flight place forward
    × (forward.ended ≡ true)
Admissible w (Event.ForwardBroken flight) =
    (place : ℕ) × (forward : Forward) × IsForwardOpen w flight place forward
Admissible w (Event.Act place) = StandsAt w place false false
-- a server ends a cancel connection only after it has acted on it
Admissible w (Event.End place) = StandsAt w place true false
Admissible w (Event.Told place) =
    (connection : Connection) × IsUnreported w place connection × (connection.ended ≡ true)
Admissible w (Event.Broken place) = (connection : Connection) × IsUnreported w place connection
Admissible w (Event.Restart node asked) =
    HasNode w node × ((boot : ℕ) × IsNextBoot w.starts node asked boot)

-- The event makes a list of the world longer, or a count of it greater, so memory may be refused.
abbrev pub NeedsRoom : Event → Type 0
NeedsRoom (Event.Login node label database secret kind) = Unit {0}
NeedsRoom (Event.Up label key) = Unit {0}
NeedsRoom (Event.Send label) = Unit {0}
NeedsRoom (Event.Finish backend) = Unit {0}
NeedsRoom (Event.Put bytes) = Unit {0}
NeedsRoom (Event.Deliver flight node) = Unit {0}
NeedsRoom (Event.Accept flight node) = Unit {0}
NeedsRoom (Event.Act place) = Unit {0}
NeedsRoom (Event.Restart node asked) = Unit {0}
NeedsRoom other = ⊥
