-- The keys of [pgbouncer] (PgBouncer configuration manual; the ranges, and which are required, are
-- own).
use Rattle.std.specs.Prelude.{ℕ, if◌then◌else◌, List, codes, Option, None, Result, Ok, Err}
use Rattle.std.specs.Str.{bytes_eq}
use Rattle.ini_config.specs.declared.fault.IniCode.{IniCode}
use Rattle.ini_config.specs.declared.fault.IniCode.TheVariants.{UnknownKey, NotInProfile}
use Rattle.ini_config.specs.declared.keys.KeyName.{KeyName}
use Rattle.ini_config.specs.declared.keys.KeyName.TheVariants as key
use Rattle.ini_config.specs.declared.keys.PoolMode.{PoolMode}
use Rattle.ini_config.specs.declared.keys.PoolMode.TheVariants.{Transaction}
use Rattle.ini_config.specs.declared.keys.AuthType.{AuthType}
use Rattle.ini_config.specs.declared.keys.AuthType.TheVariants.{Trust}
use Rattle.ini_config.specs.Reads.{◌>>=◌, once}
use Rattle.ini_config.specs.Text.{number_in}

-- what the lines of the section gave so far
pub record Keys : Type 0 where
  pub pool_mode : Option PoolMode
  pub auth_type : Option AuthType
  pub listen_addr : Option (List ℕ)
  pub listen_port : Option ℕ
  pub peer_id : Option ℕ
  pub default_pool_size : Option ℕ
  pub max_client_conn : Option ℕ

-- before the first line of the section
abbrev pub no_keys : Keys
no_keys = record {
  pool_mode = None;
  auth_type = None;
  listen_addr = None;
  listen_port = None;
  peer_id = None;
  default_pool_size = None;
  max_client_conn = None;
}

-- the names of the keys
unfoldable pub key_name : List ℕ → Result KeyName IniCode
key_name text =
    if bytes_eq text (codes "pool_mode") then Ok key.PoolMode
    else (if bytes_eq text (codes "auth_type") then Ok key.AuthType
    else (if bytes_eq text (codes "listen_addr") then Ok key.ListenAddr
    else (if bytes_eq text (codes "listen_port") then Ok key.ListenPort
    else (if bytes_eq text (codes "peer_id") then Ok key.PeerId
    else (if bytes_eq text (codes "default_pool_size") then Ok key.DefaultPoolSize
    else (if bytes_eq text (codes "max_client_conn") then Ok key.MaxClientConn
    else Err UnknownKey))))))

-- transaction pooling alone
unfoldable pub pool_mode_value : List ℕ → Result PoolMode IniCode
pool_mode_value text = if bytes_eq text (codes "transaction")
    then Ok Transaction
    else Err NotInProfile

-- trust alone
unfoldable pub auth_type_value : List ℕ → Result AuthType IniCode
auth_type_value text = if bytes_eq text (codes "trust") then Ok Trust else Err NotInProfile

-- one host, and not all of them
unfoldable pub address_value : List ℕ → Result (List ℕ) IniCode
address_value text = if bytes_eq text (codes "*") then Err NotInProfile else Ok text

-- one more key's value: first that the key is new, then the value
unfoldable pub key_given : Keys → KeyName → List ℕ → Result Keys IniCode
key_given k key.PoolMode text = once k.pool_mode (pool_mode_value text)
    >>= λ given. Ok (record k { pool_mode = given })
key_given k key.AuthType text = once k.auth_type (auth_type_value text)
    >>= λ given. Ok (record k { auth_type = given })
key_given k key.ListenAddr text = once k.listen_addr (address_value text)
    >>= λ given. Ok (record k { listen_addr = given })
key_given k key.ListenPort text = once k.listen_port (number_in 1 65535 text)
    >>= λ given. Ok (record k { listen_port = given })
key_given k key.PeerId text = once k.peer_id (number_in 0 16383 text)
    >>= λ given. Ok (record k { peer_id = given })
key_given k key.DefaultPoolSize text = once k.default_pool_size (number_in 1 65535 text)
    >>= λ given. Ok (record k { default_pool_size = given })
key_given k key.MaxClientConn text = once k.max_client_conn (number_in 1 65536 text)
    >>= λ given. Ok (record k { max_client_conn = given })
