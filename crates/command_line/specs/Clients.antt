-- The clients of `decide` among the arguments (own).
use Rattle.std.specs.Prelude.{ℕ, nat_le, if◌then◌else◌, List, length, Option, Some, None}
use Rattle.std.specs.Option.{option_map}
use Rattle.std.specs.Result.{result_ok}
use Rattle.hex.specs.Hex.{decode_sized}
use Rattle.command_line.specs.Arguments.{Text, cut_at}
use Rattle.command_line.specs.Numbers.{◌>>=◌, each, between_commas, number_from}
use Rattle.command_line.specs.declared.live_client.LiveClient.{LiveClient}

-- the eight bytes that 16 hexadecimal digits are
abbrev pub eight_bytes : Text → Option (List ℕ)
eight_bytes digits = result_ok (decode_sized digits 8)

-- the server's key that stands behind a colon, where there is a colon
abbrev pub key_behind : Option Text → Option (Option (List ℕ))
key_behind None = Some None
key_behind (Some digits) = option_map Some (eight_bytes digits)

-- a client: its secret in decimal digits, and then nothing else, or a colon (58) and its server's
-- key
unfoldable pub client_of : Text → Option LiveClient
client_of text = do
  secret ← number_from 0 4294967295 (cut_at 58 text).0
  server_key ← key_behind (cut_at 58 text).1
  Some (record { secret = secret; server_key = server_key })

-- at most 65,535 clients
abbrev pub allowed_clients : List LiveClient → Option (List LiveClient)
allowed_clients clients = if nat_le (length clients) 65535 then Some clients else None

-- the clients that a text names
abbrev pub clients_of : Option Text → Option (List LiveClient)
clients_of text = each client_of (between_commas text) >>= allowed_clients
