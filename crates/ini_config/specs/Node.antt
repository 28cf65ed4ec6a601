-- The settings of a node: the values of its file by name, with the defaults (own).
use Rattle.std.specs.Prelude.{ℕ, ◌<◌, ◌≤◌, ◌^◌, List, length, sum_by}

-- a database of the node: where its server is, as whom and to which database links log in there,
-- and how many links there may be
pub record DatabaseSettings : Type 0 where
  pub name : List ℕ
  pub host : List ℕ
  pub port : ℕ
  pub user : List ℕ
  pub dbname : List ℕ
  pub pool_size : ℕ

-- another pooler of the group: its number, where it listens, and a pool size that bounds nothing
pub record PeerSettings : Type 0 where
  pub number : ℕ
  pub host : List ℕ
  pub port : ℕ
  pub pool_size : ℕ

-- the settings of a node; databases and peers in the order of the file
pub record NodeSettings : Type 0 where
  pub listen_addr : List ℕ
  pub listen_port : ℕ
  pub peer_id : ℕ
  pub default_pool_size : ℕ
  pub max_client_conn : ℕ
  pub databases : List DatabaseSettings
  pub peers : List PeerSettings

-- the links that all databases of the node may have together
abbrev pub pool_total : NodeSettings → ℕ
pool_total s = sum_by (λ (d : DatabaseSettings). d.pool_size) s.databases

-- the ranges of what is counted: 64 databases, 64 peers, 65,535 links, 65,536 clients
pub record IsNode (s : NodeSettings) : Type 0 where
  pub port : (0 < s.listen_port) × (s.listen_port < 2 ^ 16)
  pub peer : s.peer_id < 2 ^ 14
  pub pool : (0 < s.default_pool_size) × (s.default_pool_size < 2 ^ 16)
  pub clients : (0 < s.max_client_conn) × (s.max_client_conn ≤ 2 ^ 16)
  pub databases : length s.databases ≤ 64
  pub links : pool_total s < 2 ^ 16
  pub peers : length s.peers ≤ 64
