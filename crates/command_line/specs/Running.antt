-- What arguments ask `serve` and `stub` for (own).
use Rattle.std.specs.Prelude.{ℕ, Bool, if◌then◌else◌, List, [], ◌∷◌, map, Option, Some, None, is_some}
use Rattle.std.specs.Option.{option_map}
use Rattle.command_line.specs.Arguments.{Text, Given, given_by_all, values_of, asks_help}
use Rattle.command_line.specs.Numbers.{◌>>=◌, only_one, at_most_one, one_or_more, number_from, port_of}
use Rattle.command_line.specs.Request.{command_named}
use Rattle.startup.specs.Replies.{Report}
use Rattle.command_line.specs.RunOptions.{RunOptions, run_asked}
use Rattle.command_line.specs.Seeds.{SeedText, SeedSource, one_of, source_of, source_in}
use Rattle.command_line.specs.declared.option_name.OptionName.TheVariants.{Front, Seed, SeedFile, Boot, StandIn, Byte}
use Rattle.command_line.specs.declared.log_level.LogLevel.{LogLevel}
use Rattle.command_line.specs.declared.command_name.CommandName.{CommandName}
use Rattle.command_line.specs.declared.command_name.CommandName.TheVariants as command
use Rattle.command_line.specs.declared.serve_request.ServeRequest.{ServeRequest}
use Rattle.command_line.specs.declared.stub_request.StubRequest.{StubRequest}
use Rattle.command_line.specs.declared.stub_request.StubMode.{StubMode}
use Rattle.command_line.specs.declared.stub_request.StubMode.TheVariants as mode
use Rattle.command_line.specs.declared.running.Running.{Running}
use Rattle.command_line.specs.declared.running.Running.TheVariants as running

-- a group: the port at which it listens, what secrets are drawn from, the number of the start,
-- whether stand-in servers run, what logins report beside the parameters that each of them reports,
-- how it runs, and the settings files in their order
pub record Served : Type 0 where
  pub front : ℕ
  pub seed : SeedSource
  pub boot : ℕ
  pub stand_in : Bool
  pub reports : List Report
  pub max_message : ℕ
  pub server_wait : ℕ
  pub metrics : Option ℕ
  pub log : LogLevel
  pub until_eof : Bool
  pub files : List Text

-- a stand-in server: its port, and what it does before it ends a cancel connection
pub record Stubbed : Type 0 where
  pub port : ℕ
  pub mode : StubMode

pub data Lasting : Type 0 where
  Serve : Served → Lasting
  Stub : Stubbed → Lasting

-- the number of a start in decimal digits; where it isn't given it is 0
abbrev pub boot_of : Option Text → Option ℕ
boot_of None = Some 0
boot_of (Some text) = number_from 0 4294967295 text

-- a group by its texts
abbrev pub served_by : Text → SeedText → Option Text → Bool → RunOptions → List Text → Option Served
served_by front_text seed_text boot_text stand_in run files = do
  front ← port_of front_text
  seed ← source_of seed_text
  boot ← boot_of boot_text
  Some (record {
    front = front;
    seed = seed;
    boot = boot;
    stand_in = stand_in;
    reports = run.reports;
    max_message = run.max_message;
    server_wait = run.server_wait;
    metrics = run.metrics;
    log = run.log;
    until_eof = run.until_eof;
    files = files;
  })

-- the seed or its file is given once
abbrev pub seed_asked : Given → Option SeedText
seed_asked given = do
  digits ← at_most_one (values_of Seed given)
  seed_file ← at_most_one (values_of SeedFile given)
  one_of digits seed_file

-- `serve` wants the port once, the seed or its file once, the number of the start and `--stand-in` at
-- most once, files, one or more, and what says how the group runs
abbrev pub serve_asked : Given → Option Served
serve_asked given = do
  front ← only_one (values_of Front given)
  seed ← seed_asked given
  boot ← at_most_one (values_of Boot given)
  stand_in ← at_most_one (values_of StandIn given)
  files ← one_or_more given.plain
  run ← run_asked given
  served_by front seed boot (is_some stand_in) run files

-- what a stand-in server does, by whether `--byte` is given
abbrev pub mode_of : Option Text → StubMode
mode_of None = mode.Honest
mode_of (Some flag) = mode.Byte

-- `stub` wants `--byte` at most once, and a port
abbrev pub stub_asked : Given → Option Stubbed
stub_asked given = do
  byte ← at_most_one (values_of Byte given)
  text ← only_one given.plain
  port ← port_of text
  Some (record { port = port; mode = mode_of byte })

-- a command that runs until it is stopped
abbrev pub lasting : Option CommandName → Option CommandName
lasting None = None
lasting (Some command.Key) = None
lasting (Some command.Decide) = None
lasting (Some command.Check) = None
lasting (Some command.World) = None
lasting (Some command.Serve) = Some command.Serve
lasting (Some command.Stub) = Some command.Stub

-- the command of this kind that arguments ask for, where they don't ask for help on it
abbrev pub asks_to_run : List Text → Option CommandName
asks_to_run [] = None
asks_to_run (argument ∷ rest) =
    if asks_help rest then None else lasting (command_named argument)

abbrev pub lasting_asked : CommandName → Given → Option Lasting
lasting_asked command.Key given = None
lasting_asked command.Decide given = None
lasting_asked command.Check given = None
lasting_asked command.World given = None
lasting_asked command.Serve given = option_map Serve (serve_asked given)
lasting_asked command.Stub given = option_map Stub (stub_asked given)

-- what these arguments ask a command of this kind for, and none where they ask it for nothing
abbrev pub runs_behind : CommandName → List Text → Option Lasting
runs_behind name arguments = given_by_all name arguments >>= lasting_asked name

-- what arguments ask to run, where they ask for a command of this kind; none where they ask it for
-- nothing that there is
abbrev pub runs_asked : Option CommandName → List Text → Option (Option Lasting)
runs_asked None rest = Some None
runs_asked (Some name) rest = option_map Some (runs_behind name rest)

abbrev pub asked_to_run : List Text → Option (Option Lasting)
asked_to_run [] = Some None
asked_to_run (argument ∷ rest) = runs_asked (asks_to_run (argument ∷ rest)) rest

-- what was found
abbrev pub served_in : ServeRequest → Served
served_in request = record {
  front = request.front;
  seed = source_in request.seed;
  boot = request.boot;
  stand_in = request.stand_in;
  reports = request.reports;
  max_message = request.max_message;
  server_wait = request.server_wait;
  metrics = request.metrics;
  log = request.log;
  until_eof = request.until_eof;
  files = map (λ file. file.now) request.files.items;
}

abbrev pub stubbed_in : StubRequest → Stubbed
stubbed_in request = record { port = request.port; mode = request.mode }

abbrev pub lasting_in : Running → Lasting
lasting_in (running.Serve request) = Serve (served_in request)
lasting_in (running.Stub request) = Stub (stubbed_in request)
