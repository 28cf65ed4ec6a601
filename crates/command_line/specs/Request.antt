-- What each list of arguments asks for (own): the parts of a key, a decision, a check of files, a
-- run of a script, help, the version, or nothing.
use Rattle.std.specs.Prelude.{ℕ, if◌then◌else◌, List, [], ◌∷◌, map, Option, Some, None, codes}
use Rattle.std.specs.Map.{lookup}
use Rattle.std.specs.Option.{option_map, option_or}
use Rattle.std.specs.Result.{result_ok}
use Rattle.std.specs.Str.{bytes_eq}
use Rattle.hex.specs.Hex.{decode_of, decode_sized}
use Rattle.pg_ids.specs.AnyKey.{any_key_bytes}
use Rattle.command_line.specs.Arguments.{Text, Given, given_by_all, values_of, asks_help}
use Rattle.command_line.specs.Numbers.{◌>>=◌, only_one, at_most_one, one_or_more, number_from, peers_of}
use Rattle.command_line.specs.Clients.{eight_bytes, clients_of}
use Rattle.command_line.specs.declared.live_client.LiveClient.{LiveClient}
use Rattle.command_line.specs.declared.command_name.CommandName.{CommandName}
use Rattle.command_line.specs.declared.command_name.CommandName.TheVariants as command
use Rattle.command_line.specs.declared.option_name.OptionName.TheVariants.{Me, Peers, Live, All}
use Rattle.command_line.specs.declared.command_name.FirstArgument.{FirstArgument}
use Rattle.command_line.specs.declared.command_name.FirstArgument.TheVariants as first
use Rattle.command_line.specs.declared.request.Request.{Request as RequestGiven}
use Rattle.command_line.specs.declared.request.Request.TheVariants as request
use Rattle.command_line.specs.declared.decide_request.DecideRequest.{DecideRequest}

-- a node's own number, its peers in order, its clients in order, and the bytes of a first packet
pub record Decision : Type 0 where
  pub me : ℕ
  pub peers : List ℕ
  pub clients : List LiveClient
  pub packet : List ℕ

-- a key's parts, by its bytes; a decision; whether files make a group, or else the first fault, or
-- all faults; what the events of a file's script bring about; help on a command, on the program or
-- on `help`; the program's version
pub data Asked : Type 0 where
  Key : (bytes : List ℕ) → Asked
  Decide : Decision → Asked
  Check : (files : List Text) → Asked
  CheckAll : (files : List Text) → Asked
  World : (file : Text) → Asked
  Help : Option CommandName → Asked
  HelpOnHelp : Asked
  Version : Asked

-- the commands, by their names
abbrev pub commands : List (Text × CommandName)
commands = (codes "key", command.Key) ∷ (codes "decide", command.Decide)
    ∷ (codes "check", command.Check) ∷ (codes "world", command.World)
    ∷ (codes "serve", command.Serve) ∷ (codes "stub", command.Stub) ∷ []

-- what may stand first besides a command
abbrev pub first_words : List (Text × FirstArgument)
first_words =
    (codes "-h", first.Help) ∷ (codes "--help", first.Help)
    ∷ (codes "-V", first.Version) ∷ (codes "--version", first.Version)
    ∷ (codes "help", first.HelpOn) ∷ []

-- the command of this name
unfoldable pub command_named : Text → Option CommandName
command_named name = lookup (bytes_eq name) commands

-- what the first argument says: help or the version whatever follows, help on what follows, or a
-- command
unfoldable pub first_of : Text → Option FirstArgument
first_of argument = option_or (lookup (bytes_eq argument) first_words)
    (option_map first.Command (command_named argument))

-- the bytes of a key: the eight of a short one in 16 hexadecimal digits, or the 24 of a long one in
-- 48
abbrev pub key_bytes_of : Text → Option (List ℕ)
key_bytes_of digits = option_or (eight_bytes digits) (result_ok (decode_sized digits 24))

-- `key` wants a key in hexadecimal digits
abbrev pub key_asked : List Text → Option Asked
key_asked texts = do
  digits ← only_one texts
  bytes ← key_bytes_of digits
  Some (Key bytes)

-- by whether `--all` is given
abbrev pub check_of : Option Text → List Text → Asked
check_of None files = Check files
check_of (Some flag) files = CheckAll files

-- `check` wants `--all` at most once, and files, one or more
abbrev pub check_asked : Given → Option Asked
check_asked given = do
  all ← at_most_one (values_of All given)
  files ← one_or_more given.plain
  Some (check_of all files)

-- `world` wants one file
abbrev pub world_asked : List Text → Option Asked
world_asked files = option_map World (only_one files)

-- the node's number, its peers, its clients and the packet, by their texts
abbrev pub decision_of : Text → Option Text → Option Text → Text → Option Decision
decision_of me_text peers_text live_text packet_text = do
  me ← number_from 0 16383 me_text
  peers ← peers_of peers_text
  clients ← clients_of live_text
  packet ← result_ok (decode_of packet_text)
  Some (record { me = me; peers = peers; clients = clients; packet = packet })

-- `decide` wants the node's number once, its peers and its clients at most once, and a packet in
-- hexadecimal digits
abbrev pub decide_asked : Given → Option Asked
decide_asked given = do
  me ← only_one (values_of Me given)
  peers ← at_most_one (values_of Peers given)
  live ← at_most_one (values_of Live given)
  packet ← only_one given.plain
  option_map Decide (decision_of me peers live packet)

-- `serve` and `stub` have no answer: they run until they are stopped
abbrev pub asked_of : CommandName → Given → Option Asked
asked_of command.Key given = key_asked given.plain
asked_of command.Decide given = decide_asked given
asked_of command.Check given = check_asked given
asked_of command.World given = world_asked given.plain
asked_of command.Serve given = None
asked_of command.Stub given = None

-- help on `help`, or on the command of this name
abbrev pub topic_named : Text → Option Asked
topic_named name = if bytes_eq name (codes "help") then Some HelpOnHelp
    else option_map (λ found. Help (Some found)) (command_named name)

-- help on what is named, or on the program
abbrev pub topic_of : List Text → Option Asked
topic_of [] = Some (Help None)
topic_of (name ∷ []) = topic_named name
topic_of (name ∷ another ∷ rest) = None

abbrev pub asked_behind : FirstArgument → List Text → Option Asked
asked_behind first.Help rest = Some (Help None)
asked_behind first.Version rest = Some Version
asked_behind first.HelpOn rest = topic_of rest
asked_behind (first.Command name) rest =
    if asks_help rest then Some (Help (Some name)) else (given_by_all name rest >>= asked_of name)

-- what arguments ask for, and none where they ask for nothing that there is
abbrev pub asked : List Text → Option Asked
asked [] = None
asked (argument ∷ rest) = first_of argument >>= (λ found. asked_behind found rest)

-- what a request asks for
abbrev pub decision_in : DecideRequest → Decision
decision_in given = record {
  me = given.me;
  peers = given.peers.items;
  clients = given.clients.items;
  packet = given.packet.items;
}

abbrev pub asked_in : RequestGiven → Asked
asked_in (request.Key key) = Key (any_key_bytes key)
asked_in (request.Decide given) = Decide (decision_in given)
asked_in (request.Check files) = Check (map (λ file. file.now) files.items)
asked_in (request.CheckAll files) = CheckAll (map (λ file. file.now) files.items)
asked_in (request.World file) = World file.now
asked_in (request.Help topic) = Help topic
asked_in request.HelpOnHelp = HelpOnHelp
asked_in request.Version = Version
