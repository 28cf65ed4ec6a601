-- What is true of every world besides safe cancellation (own), by which it stays true: who has the
-- link at a server process, and which cancel requests are on their way to it.
use Rattle.std.specs.Prelude.{ℕ, ◌≡◌, ◌==◌, ◌+◌, ◌<◌, ◌≤◌, ◌^◌, ◌&&◌, Bool, true, false, List, [], ◌∷◌, Option, Some, None, is_none, length, map, slice_get, if◌then◌else◌}
use Rattle.pg_ids.specs.Key.{IsKey}
use Rattle.pg_ids.specs.AnyKey.{any_identity_of, peer_of, slot_of, short_of, long_part_of}
use Rattle.pg_ids.specs.declared.{any_key.AnyKey.AnyKey, long_part.LongPart.LongPart}
use Rattle.key_table.specs.Slots.{entry_of}
use Rattle.lease.specs.declared.{link_record.LinkRecord.LinkRecord, link_place.LinkPlace.LinkPlace, pass.PassRecord.PassRecord}
use Rattle.lease.specs.declared.{permit.PermitRecord.PermitRecord, ticket.TicketRecord.TicketRecord}
use Rattle.link_pool.specs.declared.place.{Place.Place, Link.Link, LinkState.LinkState}
use Rattle.link_pool.specs.Pool.{PoolView, place_at}
use Rattle.link_pool.specs.PoolStep.{is_holding, IsHeld, link_of}
use Rattle.ini_config.specs.Node.{NodeSettings}
use Rattle.node_core.specs.declared.client.Client.{Client}
use Rattle.node_core.specs.declared.exchange.Order.{Order}
use Rattle.node_core.specs.View.{NodeView, IsView, IsClient, pool_sizes}
use Rattle.world.specs.declared.event.Event.{Event}
use Rattle.world.specs.World.{World, Arrival, Backend, Connection, Forward, Hand, Issue, Report, Server, Session, Start, HadBoot, IsNode, IsServer}
use Rattle.world.specs.Settled.{Settled}
use Rattle.world.specs.SafeCancellation.{IsSafe}

-- what of a server process never changes
pub record Process : Type 0 where
  pub server : Server
  pub key : List ℕ
  pub link : Option LinkRecord

abbrev pub process_of : Backend → Process
process_of backend = record { server = backend.server; key = backend.key; link = backend.link }

-- who has the link of a server process, or had it last
abbrev pub last_holder : Backend → Option ℕ
last_holder backend = backend.holder

-- what a client has in hand, whatever is outstanding
pub data Grip : Type 0 where
  Nothing : Grip
  Permit : (permit : PermitRecord) → Grip
  Lease : (lease : LinkRecord) (backend : ℕ) → Grip

abbrev pub grip_of : Hand → Grip
grip_of Hand.Empty = Grip.Nothing
grip_of (Hand.Permit permit) = Grip.Permit permit
grip_of (Hand.Lease lease backend outstanding) = Grip.Lease lease backend

-- a client, whatever is outstanding
pub record Face : Type 0 where
  pub label : ℕ
  pub node : ℕ
  pub database : ℕ
  pub pass : PassRecord
  pub stays : Bool
  pub grip : Grip

abbrev pub face_of : Session → Face
face_of session = record {
  label = session.label;
  node = session.node;
  database = session.database;
  pass = session.pass;
  stays = session.stays;
  grip = grip_of session.hand;
}

-- by number the processes and who has or had their links last, and by place the clients
abbrev pub processes_of : World → List Process
processes_of w = map process_of w.backends

abbrev pub lasts_of : World → List (Option ℕ)
lasts_of w = map last_holder w.backends

abbrev pub faces_of : World → List Face
faces_of w = map face_of w.sessions

-- each database of a node has one server
abbrev pub OneServer : List NodeSettings → Type 0
OneServer group = (node database : ℕ) (a b : Server) → IsServer group node database a
    → IsServer group node database b → a ≡ b

-- a node has this database
abbrev pub HasServer : List NodeSettings → ℕ → ℕ → Type 0
HasServer group node database = (server : Server) × IsServer group node database server

-- each client's database, and each cancel connection's server, is one of its node
pub record AreServers (group : List NodeSettings) (faces : List Face)
    (connections : List Connection) : Type 0 where
  pub one : OneServer group
  pub clients : (i : ℕ) (face : Face) → slice_get faces i ≡ Some face
      → HasServer group face.node face.database
  pub asked : (i : ℕ) (connection : Connection) → slice_get connections i ≡ Some connection
      → (database : ℕ) × IsServer group connection.ticket.peer database connection.server

-- no two nodes have the same number, numbers and slots are in their ranges, and the nodes have the
-- numbers and the databases of the group's settings
pub record AreNodes (group : List NodeSettings) (nodes : List NodeView) : Type 0 where
  pub once : (i j : ℕ) (a b : NodeView) → slice_get nodes i ≡ Some a → slice_get nodes j ≡ Some b
      → a.me ≡ b.me → i ≡ j
  pub ranges : (i : ℕ) (v : NodeView) → slice_get nodes i ≡ Some v
      → (v.me < 2 ^ 14) × (length v.clients ≤ 2 ^ 16)
  pub settings : (i : ℕ) (v : NodeView) → slice_get nodes i ≡ Some v
      → (s : NodeSettings) × (slice_get group i ≡ Some s) × (s.peer_id ≡ v.me)
      × (pool_sizes s ≡ v.pools)
  pub long : length nodes ≡ length group

-- what a long key has behind its first eight bytes was given: the node had that boot, and in its
-- present one the serials that are given next are greater
pub record WasGiven (nodes : List NodeView) (starts : List Start) (node : ℕ)
    (part : LongPart) : Type 0 where
  pub boot : HadBoot starts node part.boot
  pub serial : (place : ℕ) (view : NodeView) → IsNode nodes node place view
      → view.boot ≡ part.boot → part.serial < view.next_serial

-- a key was given by the node that it names
pub record IsGiven (nodes : List NodeView) (starts : List Start) (issue : Issue) : Type 0 where
  pub key : AnyKey
  pub is : IsKey (short_of key)
  pub of : issue.identity ≡ any_identity_of key
  pub node : issue.node ≡ peer_of key
  pub part : (part : LongPart) → long_part_of key ≡ Some part
      → WasGiven nodes starts issue.node part

-- each key was given once, by the node that it names, and each node had its boot
pub record AreIssues (nodes : List NodeView) (starts : List Start)
    (issues : List Issue) : Type 0 where
  pub booted : (i : ℕ) (v : NodeView) → slice_get nodes i ≡ Some v → HadBoot starts v.me v.boot
  pub each : (i : ℕ) (issue : Issue) → slice_get issues i ≡ Some issue
      → IsGiven nodes starts issue
  pub once : (i j : ℕ) (a b : Issue) → slice_get issues i ≡ Some a → slice_get issues j ≡ Some b
      → a.identity ≡ b.identity → i ≡ j

-- what a client has in hand carries its node and incarnation; and it is the last that had the
-- link of its lease
abbrev pub IsOwnGrip : List Process → List (Option ℕ) → Face → Grip → Type 0
IsOwnGrip processes lasts face Grip.Nothing = Unit {0}
IsOwnGrip processes lasts face (Grip.Permit permit) =
    (permit.peer ≡ face.node) × (permit.incarnation ≡ face.pass.incarnation)
IsOwnGrip processes lasts face (Grip.Lease lease backend) =
    (lease.peer ≡ face.node) × (lease.incarnation ≡ face.pass.incarnation)
    × ((process : Process) × (slice_get processes backend ≡ Some process)
    × (process.link ≡ Some lease))
    × (slice_get lasts backend ≡ Some (Some face.label))

-- a client's pass has the key that was given to it, and who is gone has nothing in hand
pub record IsClientOf (issues : List Issue) (processes : List Process) (lasts : List (Option ℕ))
    (face : Face) : Type 0 where
  pub key : IsKey (short_of face.pass.key)
  pub node : face.node ≡ peer_of face.pass.key
  pub issued : (place : ℕ) × (issue : Issue) × (slice_get issues place ≡ Some issue)
      × (issue.identity ≡ any_identity_of face.pass.key) × (issue.label ≡ face.label)
  pub gone : face.stays ≡ false → face.grip ≡ Grip.Nothing
  pub grip : IsOwnGrip processes lasts face face.grip

-- no two clients have one label, or one pass
pub record AreClients (issues : List Issue) (processes : List Process) (lasts : List (Option ℕ))
    (faces : List Face) : Type 0 where
  pub each : (i : ℕ) (face : Face) → slice_get faces i ≡ Some face
      → IsClientOf issues processes lasts face
  pub labels : (i j : ℕ) (a b : Face) → slice_get faces i ≡ Some a → slice_get faces j ≡ Some b
      → a.label ≡ b.label → i ≡ j
  pub passes : (i j : ℕ) (a b : Face) → slice_get faces i ≡ Some a → slice_get faces j ≡ Some b
      → a.node ≡ b.node → a.pass.number ≡ b.pass.number → i ≡ j

-- the client is there, at this node in its present incarnation
pub record IsIn (view : NodeView) (face : Face) : Type 0 where
  pub stays : face.stays ≡ true
  pub node : face.node ≡ view.me
  pub incarnation : face.pass.incarnation ≡ view.links.incarnation

-- what the client of a slot has in hand is what the node takes it to have
abbrev pub GripFits : PoolView → ℕ → Grip → Type 0
GripFits v slot Grip.Nothing = is_holding (slice_get v.claims slot) ≡ false
GripFits v slot (Grip.Permit permit) = place_at v permit.at ≡ Some (Place.Open permit slot)
GripFits v slot (Grip.Lease lease backend) = (link : Link) × IsHeld lease link slot v

-- the slot of a client's key is live, with that key, and its own
pub record FitsSlot (view : NodeView) (face : Face) : Type 0 where
  pub client : IsClient view (slot_of face.pass.key)
      record { database = face.database; pass = face.pass.number }
  pub entry : slice_get view.keys.entries (slot_of face.pass.key)
      ≡ Some (Some (entry_of (short_of face.pass.key).secret (long_part_of face.pass.key)))
  pub grip : GripFits view.links (slot_of face.pass.key) face.grip

-- each client of a node's incarnation has its slot, and each live slot has its client
pub record FitSlots (faces : List Face) (view : NodeView) : Type 0 where
  pub fits : (i : ℕ) (face : Face) → slice_get faces i ≡ Some face → IsIn view face
      → FitsSlot view face
  pub filled : (slot : ℕ) (client : Client) → IsClient view slot client
      → (i : ℕ) × (face : Face) × (slice_get faces i ≡ Some face) × IsIn view face
      × (slot_of face.pass.key ≡ slot)

abbrev pub AllFitSlots : List NodeView → List Face → Type 0
AllFitSlots nodes faces = (i : ℕ) (view : NodeView) → slice_get nodes i ≡ Some view
    → FitSlots faces view

-- no server gave a key twice, and no two processes were made for one link
pub record AreProcesses (processes : List Process) : Type 0 where
  pub keys : (i j : ℕ) (a b : Process) → slice_get processes i ≡ Some a
      → slice_get processes j ≡ Some b → a.server ≡ b.server → a.key ≡ b.key → i ≡ j
  pub links : (i j : ℕ) (a b : Process) (link : LinkRecord) → slice_get processes i ≡ Some a
      → slice_get processes j ≡ Some b → a.link ≡ Some link → b.link ≡ Some link → i ≡ j

-- the numbers that each node gives next are greater than all that it gave, and its incarnation is
-- the greatest that it had
pub record NumbersLeft (nodes : List NodeView) (faces : List Face) (processes : List Process)
    (connections : List Connection) : Type 0 where
  pub passes : (i place : ℕ) (face : Face) (view : NodeView) → slice_get faces i ≡ Some face
      → IsNode nodes face.node place view → face.pass.number < view.next_pass
  pub incarnations : (i place : ℕ) (face : Face) (view : NodeView) → slice_get faces i ≡ Some face
      → IsNode nodes face.node place view → face.pass.incarnation ≤ view.links.incarnation
  pub links : (i place : ℕ) (process : Process) (link : LinkRecord) (view : NodeView)
      → slice_get processes i ≡ Some process → process.link ≡ Some link
      → IsNode nodes link.peer place view → link.link < view.links.next_link
  pub tickets : (i place : ℕ) (connection : Connection) (view : NodeView)
      → slice_get connections i ≡ Some connection
      → IsNode nodes connection.ticket.peer place view
      → connection.ticket.number < view.links.next_ticket

-- whether a cancel connection to a process wasn't reported
abbrev pub is_open_for : ℕ → Connection → Bool
is_open_for backend connection = (connection.backend == backend) && is_none connection.report

-- how many of them weren't
abbrev pub open_for : ℕ → List Connection → ℕ
open_for backend [] = 0
open_for backend (first ∷ rest) =
    (if is_open_for backend first then 1 else 0) + open_for backend rest

-- the process of a link: it was made for it, at the server of the link's database
pub record IsProcess (group : List NodeSettings) (processes : List Process) (node : ℕ) (link : Link)
    (backend : ℕ) : Type 0 where
  pub process : Process
  pub there : slice_get processes backend ≡ Some process
  pub of : process.link ≡ Some link.details
  pub key : process.key ≡ link.key
  pub server : IsServer group node link.details.at.database process.server

-- A link of a node's pool: it has as many open tickets as it has cancel connections that weren't
-- reported; if one was reported before the server acted on it, then the link is condemned; and who
-- may have it back is the last that had it.
pub record LinkStands (faces : List Face) (lasts : List (Option ℕ)) (connections : List Connection)
    (view : NodeView) (link : Link) (backend : ℕ) : Type 0 where
  pub tickets : link.hold.tickets ≡ open_for backend connections
  pub hasty : (i : ℕ) (connection : Connection) (how : Report)
      → slice_get connections i ≡ Some connection → connection.backend ≡ backend
      → connection.acted ≡ false → connection.report ≡ Some how → link.hold.condemned ≡ true
  pub giver : (i slot : ℕ) (face : Face) → link.state ≡ LinkState.Quarantined (Some slot)
      → slice_get faces i ≡ Some face → IsIn view face → slot_of face.pass.key ≡ slot
      → slice_get lasts backend ≡ Some (Some face.label)

-- each link of a node's pool has its process
abbrev pub LinksStand : List NodeSettings → List Face → List Process → List (Option ℕ)
    → List Connection → NodeView → Type 0
LinksStand group faces processes lasts connections view = (at : LinkPlace) (link : Link)
    → place_at view.links at ≡ Some (Place.Link link)
    → (backend : ℕ) × IsProcess group processes view.me link backend
    × LinkStands faces lasts connections view link backend

abbrev pub AllLinksStand : List NodeSettings → List NodeView → List Face → List Process
    → List (Option ℕ) → List Connection → Type 0
AllLinksStand group nodes faces processes lasts connections = (i : ℕ) (view : NodeView)
    → slice_get nodes i ≡ Some view
    → LinksStand group faces processes lasts connections view

-- the order sends a request to a server, with this ticket and key
abbrev pub IsServed : TicketRecord → List ℕ → Order TicketRecord → Type 0
IsServed ticket key (Order.Serve given database server_key) =
    (given ≡ ticket) × (server_key ≡ key)
IsServed ticket key (Order.Forward to packet) = ⊥
IsServed ticket key (Order.Unwait slot) = ⊥
IsServed ticket key (Order.Refused reason) = ⊥

-- A cancel connection is to the process of its ticket's link. Until the server acts on it, who has
-- that link, or had it last, is who had it when the request came. It is ended only after the server
-- acted, and reported clean only after it was ended.
pub record ConnectionStands (arrivals : List Arrival) (processes : List Process)
    (lasts : List (Option ℕ)) (connection : Connection) : Type 0 where
  pub process : Process
  pub there : slice_get processes connection.backend ≡ Some process
  pub server : process.server ≡ connection.server
  pub key : process.key ≡ connection.key
  pub link : process.link ≡ Some (link_of connection.ticket)
  pub waits : connection.acted ≡ false
      → slice_get lasts connection.backend ≡ Some connection.holder
  pub acted : connection.ended ≡ true → connection.acted ≡ true
  pub clean : connection.report ≡ Some Report.Clean → connection.ended ≡ true
  pub served : (came : Arrival) × (slice_get arrivals connection.arrival ≡ Some came)
      × IsServed connection.ticket connection.key came.order

-- no two cancel connections have one ticket, or are for one arrival
pub record AreConnections (arrivals : List Arrival) (processes : List Process)
    (lasts : List (Option ℕ)) (connections : List Connection) : Type 0 where
  pub each : (i : ℕ) (connection : Connection) → slice_get connections i ≡ Some connection
      → ConnectionStands arrivals processes lasts connection
  pub tickets : (i j : ℕ) (a b : Connection) → slice_get connections i ≡ Some a
      → slice_get connections j ≡ Some b → a.ticket.peer ≡ b.ticket.peer
      → a.ticket.number ≡ b.ticket.number → i ≡ j
  pub apart : (i j : ℕ) (a b : Connection) → slice_get connections i ≡ Some a
      → slice_get connections j ≡ Some b → a.arrival ≡ b.arrival → i ≡ j

-- how many requests a server process has or has answered, of which the client hasn't the answer
abbrev pub running_count : Option ℕ → ℕ
running_count None = 0
running_count (Some label) = 1

abbrev pub load_of : Backend → ℕ
load_of backend = length backend.wire + running_count backend.running + backend.readies

-- all that is on a process's wire, and what it runs, is of the last client that had its link
pub record IsOwnLoad (backend : Backend) : Type 0 where
  pub wire : (i label : ℕ) → slice_get backend.wire i ≡ Some label
      → last_holder backend ≡ Some label
  pub running : (label : ℕ) → backend.running ≡ Some label → last_holder backend ≡ Some label

-- whether a client has the link
abbrev pub is_with_client : LinkState → Bool
is_with_client LinkState.Idle = false
is_with_client (LinkState.Held slot) = true
is_with_client (LinkState.Quarantined giver) = false

-- a link that no client has is at rest: an empty wire, nothing running, no ready on its way
abbrev pub AreAtRest : List Backend → NodeView → Type 0
AreAtRest backends view = (at : LinkPlace) (link : Link) (i : ℕ) (backend : Backend)
    → place_at view.links at ≡ Some (Place.Link link) → is_with_client link.state ≡ false
    → slice_get backends i ≡ Some backend → backend.link ≡ Some link.details → load_of backend ≡ 0

-- what is on its way on each link: of one client alone, and as much as that has outstanding
pub record AreLoads (nodes : List NodeView) (sessions : List Session)
    (backends : List Backend) : Type 0 where
  pub own : (i : ℕ) (backend : Backend) → slice_get backends i ≡ Some backend → IsOwnLoad backend
  pub outstanding : (i place n : ℕ) (session : Session) (lease : LinkRecord) (backend : Backend)
      → slice_get sessions i ≡ Some session → session.hand ≡ Hand.Lease lease place n
      → slice_get backends place ≡ Some backend → n ≡ load_of backend
  pub rest : (i : ℕ) (view : NodeView) → slice_get nodes i ≡ Some view → AreAtRest backends view

-- the order sends a request on to another node
abbrev pub IsForwarded : Order TicketRecord → Type 0
IsForwarded (Order.Serve ticket database key) = ⊥
IsForwarded (Order.Forward to packet) = Unit {0}
IsForwarded (Order.Unwait slot) = ⊥
IsForwarded (Order.Refused reason) = ⊥

-- A forward connection is for an arrival that was forwarded, and leads to a later arrival of its
-- flight. It is ended without a byte only once that is settled, and reported clean only after that.
pub record ForwardStands (flights : List (List ℕ)) (arrivals : List Arrival)
    (connections : List Connection) (forwards : List Forward) (forward : Forward) : Type 0 where
  pub flight : forward.flight < length flights
  pub origin : (came : Arrival) × (slice_get arrivals forward.origin ≡ Some came)
      × IsForwarded came.order
  pub onward : (arrival : ℕ) → forward.accepted ≡ Some arrival
      → (came : Arrival) × (slice_get arrivals arrival ≡ Some came)
      × (came.flight ≡ forward.flight) × (forward.origin < arrival)
  pub ended : forward.ended ≡ true → (arrival : ℕ) × (forward.accepted ≡ Some arrival)
      × Settled arrivals connections forwards arrival
  pub clean : forward.report ≡ Some Report.Clean → forward.ended ≡ true

-- no two forward connections have one flight, are for one arrival, or lead to one
pub record AreForwards (flights : List (List ℕ)) (arrivals : List Arrival)
    (connections : List Connection) (forwards : List Forward) : Type 0 where
  pub each : (i : ℕ) (forward : Forward) → slice_get forwards i ≡ Some forward
      → ForwardStands flights arrivals connections forwards forward
  pub one_flight : (i j : ℕ) (a b : Forward) → slice_get forwards i ≡ Some a
      → slice_get forwards j ≡ Some b → a.flight ≡ b.flight → i ≡ j
  pub one_origin : (i j : ℕ) (a b : Forward) → slice_get forwards i ≡ Some a
      → slice_get forwards j ≡ Some b → a.origin ≡ b.origin → i ≡ j
  pub one_onward : (i j n : ℕ) (a b : Forward) → slice_get forwards i ≡ Some a
      → slice_get forwards j ≡ Some b → a.accepted ≡ Some n → b.accepted ≡ Some n → i ≡ j

-- what is true of every world
pub record Facts (w : World) : Type 0 where
  pub servers : AreServers w.group (faces_of w) w.connections
  pub nodes : AreNodes w.group w.nodes
  pub issues : AreIssues w.nodes w.starts w.issues
  pub clients : AreClients w.issues (processes_of w) (lasts_of w) (faces_of w)
  pub slots : AllFitSlots w.nodes (faces_of w)
  pub processes : AreProcesses (processes_of w)
  pub numbers : NumbersLeft w.nodes (faces_of w) (processes_of w) w.connections
  pub links : AllLinksStand w.group w.nodes (faces_of w) (processes_of w) (lasts_of w) w.connections
  pub connections : AreConnections w.arrivals (processes_of w) (lasts_of w) w.connections
  pub loads : AreLoads w.nodes w.sessions w.backends
  pub forwards : AreForwards w.flights w.arrivals w.connections w.forwards
  pub safe : IsSafe w

-- the numbers of an event are in the ranges of their types, of which a secret's is needed
abbrev pub IsEvent : Event → Type 0
IsEvent (Event.Login node label database secret kind) = secret < 2 ^ 32
IsEvent other = Unit {0}

-- each node's view is whole
abbrev pub AreWhole : List NodeView → Type 0
AreWhole nodes = (i : ℕ) (view : NodeView) → slice_get nodes i ≡ Some view → IsView view

-- no two nodes have one number
abbrev pub AreApart : List NodeView → Type 0
AreApart nodes = (i j : ℕ) (a b : NodeView)
    → slice_get nodes i ≡ Some a → slice_get nodes j ≡ Some b
    → a.me ≡ b.me → i ≡ j

-- what is true of the nodes of every world by themselves
pub record AreKept (nodes : List NodeView) : Type 0 where
  pub whole : AreWhole nodes
  pub apart : AreApart nodes

-- the numbers of nodes and their slots are in the ranges of settings
abbrev pub AreInRange : List NodeSettings → Type 0
AreInRange group = (i : ℕ) (s : NodeSettings) → slice_get group i ≡ Some s
    → (s.peer_id < 2 ^ 14) × (s.max_client_conn ≤ 2 ^ 16)
