-- The options of each command (own).
use Rattle.std.specs.Prelude.{ℕ, Bool, true, false, List, [], ◌∷◌, Option, codes}
use Rattle.std.specs.Map.{lookup}
use Rattle.std.specs.Str.{bytes_eq}
use Rattle.command_line.specs.declared.command_name.CommandName.{CommandName}
use Rattle.command_line.specs.declared.command_name.CommandName.TheVariants as command
use Rattle.command_line.specs.declared.option_name.OptionName.{OptionName}
use Rattle.command_line.specs.declared.option_name.OptionName.TheVariants.{Me, Peers, Live, All, Front, Seed, SeedFile, Boot, StandIn, Report, MaxMessage, ServerWait, Metrics, Log, UntilEof, Byte}

-- the options of each command, by their names
abbrev pub decide_options : List (List ℕ × OptionName)
decide_options = (codes "--me", Me) ∷ (codes "--peers", Peers) ∷ (codes "--live", Live) ∷ []

abbrev pub serve_options : List (List ℕ × OptionName)
serve_options = (codes "--front", Front)
    ∷ (codes "--seed", Seed) ∷ (codes "--seed-file", SeedFile)
    ∷ (codes "--boot", Boot) ∷ (codes "--stand-in", StandIn)
    ∷ (codes "--report", Report) ∷ (codes "--max-message", MaxMessage)
    ∷ (codes "--server-wait", ServerWait)
    ∷ (codes "--metrics", Metrics) ∷ (codes "--log", Log)
    ∷ (codes "--until-eof", UntilEof) ∷ []

abbrev pub check_options : List (List ℕ × OptionName)
check_options = (codes "--all", All) ∷ []

abbrev pub stub_options : List (List ℕ × OptionName)
stub_options = (codes "--byte", Byte) ∷ []

abbrev pub options_of : CommandName → List (List ℕ × OptionName)
options_of command.Key = []
options_of command.Decide = decide_options
options_of command.Check = check_options
options_of command.World = []
options_of command.Serve = serve_options
options_of command.Stub = stub_options

-- the option of a command with this name
unfoldable pub option_named : CommandName → List ℕ → Option OptionName
option_named name text = lookup (bytes_eq text) (options_of name)

-- whether an option has a value
abbrev pub has_value : OptionName → Bool
has_value Me = true
has_value Peers = true
has_value Live = true
has_value All = false
has_value Front = true
has_value Seed = true
has_value SeedFile = true
has_value Boot = true
has_value StandIn = false
has_value Report = true
has_value MaxMessage = true
has_value ServerWait = true
has_value Metrics = true
has_value Log = true
has_value UntilEof = false
has_value Byte = false

-- whether both are one option
abbrev pub same_option : OptionName → OptionName → Bool
same_option Me Me = true
same_option Peers Peers = true
same_option Live Live = true
same_option All All = true
same_option Front Front = true
same_option Seed Seed = true
same_option SeedFile SeedFile = true
same_option Boot Boot = true
same_option StandIn StandIn = true
same_option Report Report = true
same_option MaxMessage MaxMessage = true
same_option ServerWait ServerWait = true
same_option Metrics Metrics = true
same_option Log Log = true
same_option UntilEof UntilEof = true
same_option Byte Byte = true
same_option some other = false
