-- The settings of a node with one database, for scripts and for the command `decide` (own).
use Rattle.std.specs.Prelude.{ℕ, List, [], ◌∷◌, map, codes}
use Rattle.ini_config.specs.Node.{DatabaseSettings, PeerSettings, NodeSettings}

-- its one database, whose host and port are the same for all such nodes
abbrev pub plain_database : ℕ → DatabaseSettings
plain_database pool = record {
  name = codes "plain";
  host = codes "127.0.0.1";
  port = 5432;
  user = codes "plain";
  dbname = codes "plain";
  pool_size = pool;
}

-- a peer of it
abbrev pub plain_peer : ℕ → PeerSettings
plain_peer number = record { number = number; host = codes "127.0.0.1"; port = 6432; pool_size = 1 }

-- a node with this number, these peers in this order, this pool size and this many clients
abbrev pub plain_settings : ℕ → List ℕ → ℕ → ℕ → NodeSettings
plain_settings peer peers pool clients = record {
  listen_addr = codes "127.0.0.1";
  listen_port = 6432;
  peer_id = peer;
  default_pool_size = pool;
  max_client_conn = clients;
  databases = plain_database pool ∷ [];
  peers = map plain_peer peers;
}
