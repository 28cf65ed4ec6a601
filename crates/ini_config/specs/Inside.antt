-- What contracts see of `Settings` (internal).
use Rattle.std.specs.Prelude.{map}
use Rattle.std.specs.String.{string_bytes}
use Rattle.ini_config.specs.declared.node_settings.Settings.TheInside.{Inside}
use Rattle.ini_config.specs.Node.{NodeSettings}
use Rattle.ini_config.specs.View.{database_settings, peer_settings}

-- the settings in the fields
abbrev pub node_settings : Inside → NodeSettings
node_settings s = record {
  listen_addr = string_bytes s.listen_addr;
  listen_port = s.listen_port;
  peer_id = s.peer_id;
  default_pool_size = s.default_pool_size;
  max_client_conn = s.max_client_conn;
  databases = map
      (λ e. database_settings s.default_pool_size (string_bytes e.0) e.1)
      s.databases.entries;
  peers = map (λ e. peer_settings e.0 e.1) s.peers.entries;
}
