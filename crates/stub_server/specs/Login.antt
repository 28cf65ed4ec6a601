-- The login at the stand-in server (own; PostgreSQL manual, "Start-up"): the key of the n-th
-- client, and the messages.
use Rattle.std.specs.Prelude.{ℕ, ◌≡◌, ◌+◌, List, ◌++◌, Some}
use Rattle.byteorder.specs.Endian.{big_bytes}
use Rattle.pg_ids.specs.Key.{key_bytes}
use Rattle.pg_ids.specs.declared.client_key.ClientKey.{ClientKey}
use Rattle.pg_ids.specs.declared.any_key.AnyKey.TheVariants.{Short}
use Rattle.startup.specs.Replies.{login}

-- the key of the client that logs in as this one, from 1 on: a process ID and a secret key
abbrev pub server_key : ℕ → List ℕ
server_key number = big_bytes 4 number ++ big_bytes 4 (number + 1000000)

-- a login whose BackendKeyData has this key
pub record IsLogin (key : List ℕ) (bytes : List ℕ) : Type 0 where
  pub client : ClientKey
  pub key_is : key_bytes client ≡ key
  pub login_is : bytes ≡ login (Some (Short client))
