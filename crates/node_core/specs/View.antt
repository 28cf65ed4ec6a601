-- The state of a node (own): its number and peers, pool sizes, slots, clients, the next numbers,
-- and its links. `IsView` is its invariant and `IsFresh` a new node. `NodeValue` is the state with
-- the streams of its links.
use Rattle.std.specs.Prelude.{ℕ, ◌≡◌, ◌<◌, ◌≤◌, ◌^◌, List, Option, Some, None, is_some, length, map, slice_get, replicate}
use Rattle.key_table.specs.Slots.{Slots, IsNext}
use Rattle.ini_config.specs.Node.{NodeSettings}
use Rattle.link_pool.specs.declared.place.Claim.{Claim}
use Rattle.link_pool.specs.Pool.{PoolView}
use Rattle.link_pool.specs.OnePlace.{IsPool, sizes, WithinSizes}
use Rattle.link_pool.specs.PoolStep.{fresh}
use Rattle.link_pool.specs.Streams.{PoolValue}
use Rattle.node_core.specs.declared.client.Client.{Client}

-- A node's own number and its peers; the pool size of each database, by its place; the slots, with
-- the secret of each live one and, if its key is long, boot and serial, and the next; by slot the
-- client of each live one, with its database and its pass's number; the number of the next pass;
-- the boot, and the serial of the next long key; and the links: the incarnation, each place, who
-- has it, who waits, who is owed `Cancelled`, and the next numbers.
pub record NodeView : Type 0 where
  pub me : ℕ
  pub peers : List ℕ
  pub pools : List ℕ
  pub keys : Slots
  pub clients : List (Option Client)
  pub next_pass : ℕ
  pub boot : ℕ
  pub next_serial : ℕ
  pub links : PoolView

-- A node's view with the streams: by database and place that of the link which is idle or
-- quarantined there.
pub record NodeValue (S : Type 0) : Type 0 where
  pub view : NodeView
  pub stored : List (List (Option S))

-- the links with their streams
abbrev pub links_of : {S : Type 0} → NodeValue S → PoolValue S
links_of node = record { view = node.view.links; stored = node.stored }

-- the client at a place of the slots
abbrev pub client_at : Option (Option Client) → Option Client
client_at None = None
client_at (Some client) = client

-- the slot is live, and this is its client
abbrev pub IsClient : NodeView → ℕ → Client → Type 0
IsClient v slot client = slice_get v.clients slot ≡ Some (Some client)

-- what a client has is of its own database
abbrev pub IsOwn : Client → Claim → Type 0
IsOwn client Claim.Nothing = Unit {0}
IsOwn client (Claim.Waiting database) = database ≡ client.database
IsOwn client Claim.Cancelled = Unit {0}
IsOwn client (Claim.Open at) = at.database ≡ client.database
IsOwn client (Claim.Link at) = at.database ≡ client.database
IsOwn client (Claim.Gave at) = at.database ≡ client.database

-- a slot that isn't live has no link and no permit, and doesn't wait
abbrev pub Has : Option (Option Client) → Option Claim → Type 0
Has None None = Unit {0}
Has (Some None) (Some had) = had ≡ Claim.Nothing
Has (Some (Some client)) (Some had) = IsOwn client had
Has None (Some had) = ⊥
Has (Some client) None = ⊥

-- what is true of every node's view, besides what is true of its links
pub record IsNode (v : NodeView) : Type 0 where
  pub own : (v.keys.peer ≡ v.me) × (v.links.peer ≡ v.me)
  pub next : IsNext v.keys.entries v.keys.next
  -- a slot has a secret exactly where it has a client
  pub live : map is_some v.keys.entries ≡ map is_some v.clients
  pub has : (slot : ℕ) → Has (slice_get v.clients slot) (slice_get v.links.claims slot)
  -- a client's database is one of the node's, and its pass has a number that was given
  pub clients : (slot : ℕ) (client : Client) → IsClient v slot client
      → (client.database < length v.pools) × (client.pass < v.next_pass)
  -- no two live slots have one pass
  pub passes : (slot other : ℕ) (a b : Client) → IsClient v slot a → IsClient v other b
      → a.pass ≡ b.pass → slot ≡ other
  -- each pool has as many places as its size
  pub sized : sizes v.links.pools ≡ v.pools
  pub numbers : (v.next_pass ≤ 2 ^ 64) × (v.next_serial ≤ 2 ^ 64)

-- what is true of every node's view
pub record IsView (v : NodeView) : Type 0 where
  pub node : IsNode v
  pub places : IsPool v.links
  -- links and permits of a database are at most as many as its pool size
  pub within : WithinSizes v.pools v.links

-- the pool size of each database
abbrev pub pool_sizes : NodeSettings → List ℕ
pool_sizes settings = map (λ d. d.pool_size) settings.databases

-- a node that was just made of its settings, with this boot: nobody is logged in, no link is open,
-- and the first numbers are given next
pub record IsFresh (settings : NodeSettings) (boot : ℕ) (v : NodeView) : Type 0 where
  pub own : v.keys.peer ≡ settings.peer_id
  pub free : v.keys.entries ≡ replicate settings.max_client_conn None
  pub next : IsNext v.keys.entries v.keys.next
  pub fields : v ≡ record {
    me = settings.peer_id;
    peers = map (λ p. p.number) settings.peers;
    pools = pool_sizes settings;
    keys = v.keys;
    clients = replicate settings.max_client_conn None;
    next_pass = 0;
    boot = boot;
    next_serial = 0;
    links = fresh settings.peer_id (pool_sizes settings) settings.max_client_conn;
  }
