-- The world of a group (own; PostgreSQL manual, "Canceling Requests in Progress"): its nodes, and
-- what is true of its clients, servers and cancel requests, which no node sees.
use Rattle.std.specs.Prelude.{ℕ, ◌≡◌, ◌≤◌, ◌==◌, ◌&&◌, ◌++◌, Bool, List, [], ◌∷◌, Option, Some, map, position, slice_get}
use Rattle.std.specs.Str.{bytes_eq}
use Rattle.pg_ids.specs.declared.any_key.Identity.{Identity}
use Rattle.lease.specs.declared.link_record.LinkRecord.{LinkRecord}
use Rattle.ini_config.specs.Node.{DatabaseSettings, NodeSettings}
use Rattle.node_core.specs.View.{NodeView}
pub use Rattle.world.specs.declared.session.{Hand.Hand, Session.Session}
pub use Rattle.world.specs.declared.request.{Arrival.Arrival, Connection.Connection, Forward.Forward, Interrupt.Interrupt, Issue.Issue, Report.Report, Start.Start, Taken.Taken}

-- A server is a host and port. Its number is that of the first database, of all in the group's
-- settings, which has them.
abbrev pub Server : Type 0
Server = ℕ

-- A server process: its server, the key by which that server cancels it, and the link that it was
-- made for, as the link's lease says it, if the node took the link. On their way to it are requests
-- of these clients; it runs a request of this client; this many of its ReadyForQuery messages are
-- on their way back. The client that had its link last, if any had it.
pub record Backend : Type 0 where
  pub server : Server
  pub key : List ℕ
  pub link : Option LinkRecord
  pub wire : List ℕ
  pub running : Option ℕ
  pub readies : ℕ
  pub holder : Option ℕ

-- The settings of the group; its nodes, in that order; and all else that is true, each list in the
-- order of its making.
pub record World : Type 0 where
  pub group : List NodeSettings
  pub nodes : List NodeView
  pub starts : List Start
  pub issues : List Issue
  pub sessions : List Session
  pub backends : List Backend
  pub flights : List (List ℕ)
  pub arrivals : List Arrival
  pub connections : List Connection
  pub forwards : List Forward
  pub interrupts : List Interrupt
  pub taken : List Taken

-- the node with this number, at this place of the group
pub record IsNode (nodes : List NodeView) (number place : ℕ) (view : NodeView) : Type 0 where
  pub there : slice_get nodes place ≡ Some view
  pub named : view.me ≡ number

-- the node was started with this boot
pub record HadBoot (starts : List Start) (node boot : ℕ) : Type 0 where
  pub place : ℕ
  pub there : slice_get starts place ≡ Some record { node = node; boot = boot }

-- the greatest boot that the node had
pub record IsGreatestBoot (starts : List Start) (node boot : ℕ) : Type 0 where
  pub had : HadBoot starts node boot
  pub greatest : (other : ℕ) → HadBoot starts node other → other ≤ boot

-- the session of this client, at this place of the list
pub record IsSession (sessions : List Session) (label place : ℕ) (session : Session) : Type 0 where
  pub there : slice_get sessions place ≡ Some session
  pub named : session.label ≡ label

-- whether two databases have one host and port
abbrev pub is_on_server : DatabaseSettings → DatabaseSettings → Bool
is_on_server a b = bytes_eq a.host b.host && (a.port == b.port)

-- the databases of all nodes, in their order
abbrev pub all_databases : List NodeSettings → List DatabaseSettings
all_databases [] = []
all_databases (settings ∷ group) = settings.databases ++ all_databases group

-- the server of this database of this node
pub record IsServer (group : List NodeSettings) (node database : ℕ) (server : Server) : Type 0 where
  pub place : ℕ
  pub settings : NodeSettings
  pub entry : DatabaseSettings
  pub there : slice_get group place ≡ Some settings
  pub number : settings.peer_id ≡ node
  pub at : slice_get settings.databases database ≡ Some entry
  pub is : position (is_on_server entry) (all_databases group) ≡ Some server

-- the server process of this server with this key, at this place of the list
pub record IsBackend (backends : List Backend) (server : Server) (key : List ℕ) (place : ℕ)
    (backend : Backend) : Type 0 where
  pub there : slice_get backends place ≡ Some backend
  pub of : backend.server ≡ server
  pub by : backend.key ≡ key

-- the forward connection of a flight
pub record IsForward (forwards : List Forward) (flight place : ℕ) (forward : Forward) : Type 0 where
  pub there : slice_get forwards place ≡ Some forward
  pub named : forward.flight ≡ flight

-- a key with this identity was given to this client, and to no other
pub record IsOwner (issues : List Issue) (identity : Identity) (label : ℕ) : Type 0 where
  pub place : ℕ
  pub issue : Issue
  pub there : slice_get issues place ≡ Some issue
  pub of : issue.identity ≡ identity
  pub to : issue.label ≡ label
  pub only : (other : ℕ) (also : Issue) → slice_get issues other ≡ Some also
      → also.identity ≡ identity → also.label ≡ label

-- the first start of each node, whose boot is 0
abbrev pub first_starts : List NodeSettings → List Start
first_starts group = map (λ (s : NodeSettings). record { node = s.peer_id; boot = 0 }) group

-- the world of a group in which nothing has happened
abbrev pub nothing_yet : List NodeSettings → List NodeView → World
nothing_yet group nodes = record {
  group = group;
  nodes = nodes;
  starts = first_starts group;
  issues = [];
  sessions = [];
  backends = [];
  flights = [];
  arrivals = [];
  connections = [];
  forwards = [];
  interrupts = [];
  taken = [];
}
