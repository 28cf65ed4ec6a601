-- A group (own; PgBouncer configuration manual, peer_id and [peers]): a list of settings of which
-- no two have the same number and each lists each other; where there are two or more, none has the
-- number 0.
use Rattle.std.specs.Prelude.{ℕ, ◌≢◌, ◌<◌, ◌≤◌, Bool, IsTrue, ◌==◌, List, length, All, AllPairs}
use Rattle.std.specs.List.{list_any}
use Rattle.ini_config.specs.Node.{NodeSettings, PeerSettings}

-- whether a node lists a peer with this number
abbrev pub lists : NodeSettings → ℕ → Bool
lists s number = list_any (λ (p : PeerSettings). number == p.number) s.peers

-- two nodes with different numbers
abbrev pub Differ : NodeSettings → NodeSettings → Type 0
Differ s t = s.peer_id ≢ t.peer_id

-- two nodes of which each lists the other
abbrev pub ListEachOther : NodeSettings → NodeSettings → Type 0
ListEachOther s t = IsTrue (lists s t.peer_id) × IsTrue (lists t s.peer_id)

-- where there are two nodes or more, none has the number 0, which is that of a node without peers
abbrev pub AllPeer : List NodeSettings → Type 0
AllPeer nodes = 2 ≤ length nodes → All (λ (s : NodeSettings). 0 < s.peer_id) nodes

-- no two nodes have one number
abbrev pub PeersDiffer : List NodeSettings → Type 0
PeersDiffer nodes = AllPairs Differ nodes

-- each node lists each other node
abbrev pub AllListed : List NodeSettings → Type 0
AllListed nodes = AllPairs ListEachOther nodes

-- nodes that may run as a group; there may be none
pub record IsGroup (nodes : List NodeSettings) : Type 0 where
  pub peering : AllPeer nodes
  pub distinct : PeersDiffer nodes
  pub listed : AllListed nodes
