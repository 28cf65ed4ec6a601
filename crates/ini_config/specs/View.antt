-- The settings of a node in the fields that hold them (internal).
use Rattle.std.specs.Prelude.{ℕ, List, map, String, sum_by, unwrap_or}
use Rattle.std.specs.declared.alloc.Global.{Global}
use Rattle.std.specs.String.{string_bytes}
use Rattle.std.specs.Option.{option_map}
use Rattle.ini_config.specs.declared.entry.DatabaseEntry.{DatabaseEntry}
use Rattle.ini_config.specs.declared.entry.PeerEntry.{PeerEntry}
use Rattle.ini_config.specs.declared.node_settings.Database.{Database}
use Rattle.ini_config.specs.declared.node_settings.Peer.{Peer}
use Rattle.ini_config.specs.declared.words.EntryWords.{EntryWords}
use Rattle.ini_config.specs.declared.keys.PoolerKeys.{PoolerKeys}
use Rattle.ini_config.specs.Keys.{Keys}
use Rattle.ini_config.specs.Entry.{Words, DatabaseGiven, with_defaults}
use Rattle.ini_config.specs.declared.draft.Draft.{Draft}
use Rattle.ini_config.specs.Settings.{Given}
use Rattle.ini_config.specs.Node.{DatabaseSettings, PeerSettings}

-- the words of an entry
abbrev pub words_seen : EntryWords → Words
words_seen w = record {
  host = option_map string_bytes w.host;
  port = w.port;
  user = option_map string_bytes w.user;
  dbname = option_map string_bytes w.dbname;
  pool_size = w.pool_size;
}

-- the keys of [pgbouncer]
abbrev pub keys_seen : PoolerKeys → Keys
keys_seen k = record {
  pool_mode = k.pool_mode;
  auth_type = k.auth_type;
  listen_addr = option_map string_bytes k.listen_addr;
  listen_port = k.listen_port;
  peer_id = k.peer_id;
  default_pool_size = k.default_pool_size;
  max_client_conn = k.max_client_conn;
}

-- an entry of the databases, before the defaults
abbrev pub database_given : List ℕ → DatabaseEntry → DatabaseGiven
database_given name d = record {
  name = name;
  host = string_bytes d.host;
  port = d.port;
  user = string_bytes d.user;
  dbname = option_map string_bytes d.dbname;
  pool_size = d.pool_size;
}

-- an entry of the databases with this default size of a pool
abbrev pub database_settings : ℕ → List ℕ → DatabaseEntry → DatabaseSettings
database_settings pool name d = with_defaults pool (database_given name d)

-- an entry of the peers
abbrev pub peer_settings : ℕ → PeerEntry → PeerSettings
peer_settings number p = record {
  number = number;
  host = string_bytes p.host;
  port = p.port;
  pool_size = p.pool_size;
}

-- what a lent database shows
abbrev pub lent_database : Database → DatabaseSettings
lent_database d = record {
  name = d.name.now;
  host = d.host.now;
  port = d.port;
  user = d.user.now;
  dbname = d.dbname.now;
  pool_size = d.pool_size;
}

-- what a lent peer shows
abbrev pub lent_peer : Peer → PeerSettings
lent_peer p = record {
  number = p.number;
  host = p.host.now;
  port = p.port;
  pool_size = p.pool_size;
}

-- the entries of the databases, in order
abbrev pub databases_seen : List (String Global × DatabaseEntry) → List DatabaseGiven
databases_seen es = map (λ e. database_given (string_bytes e.0) e.1) es

-- the links that these databases may have together, with this default size of a pool
abbrev pub links_of : ℕ → List DatabaseEntry → ℕ
links_of pool ds = sum_by (λ (d : DatabaseEntry). unwrap_or d.pool_size pool) ds

-- the entries of the peers, in order
abbrev pub peers_seen : List (ℕ × PeerEntry) → List PeerSettings
peers_seen es = map (λ e. peer_settings e.0 e.1) es

-- what the lines so far gave, as it is kept
abbrev pub given_seen : Draft → Given
given_seen d = record {
  opened = d.opened.items;
  keys = keys_seen d.keys;
  databases = databases_seen d.databases.entries;
  peers = peers_seen d.peers.entries;
}
