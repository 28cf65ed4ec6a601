-- How a group runs, among the arguments of `serve` (own).
use Rattle.std.specs.Prelude.{ℕ, Bool, List, [], ◌∷◌, Option, Some, None, is_some, codes}
use Rattle.std.specs.Map.{lookup}
use Rattle.std.specs.Option.{option_map}
use Rattle.std.specs.Str.{bytes_eq}
use Rattle.command_line.specs.Arguments.{Text, Given, values_of}
use Rattle.command_line.specs.Numbers.{◌>>=◌, at_most_one, number_from, port_of}
use Rattle.startup.specs.Replies.{Report}
use Rattle.command_line.specs.ReportTexts.{reports_of}
use Rattle.command_line.specs.declared.option_name.OptionName.TheVariants.{Report as ReportOption, MaxMessage, ServerWait, Metrics, Log, UntilEof}
use Rattle.command_line.specs.declared.log_level.LogLevel.{LogLevel}
use Rattle.command_line.specs.declared.log_level.LogLevel.TheVariants.{Warn, Notice, Info}
use Rattle.command_line.specs.declared.run_options.RunOptions.{RunOptions as RunOptionsRead}

-- what logins report beside the parameters that each of them reports; the length in bytes of the
-- longest message that is passed on, and of the longest group of messages of an extended query; how
-- many seconds a server is tried again that takes no connections; the port at which figures are
-- served, if there is one; which lines of the log are written; whether the group stops at the end of
-- standard input
pub record RunOptions : Type 0 where
  pub reports : List Report
  pub max_message : ℕ
  pub server_wait : ℕ
  pub metrics : Option ℕ
  pub log : LogLevel
  pub until_eof : Bool

-- a length in bytes; where it isn't given it is 1 MiB
abbrev pub max_message_of : Option Text → Option ℕ
max_message_of None = Some 1048576
max_message_of (Some text) = number_from 8192 1073741823 text

-- a number of seconds; where it isn't given a server isn't tried again
abbrev pub server_wait_of : Option Text → Option ℕ
server_wait_of None = Some 0
server_wait_of (Some text) = number_from 0 3600 text

-- the port of the figures, where one is given
abbrev pub metrics_of : Option Text → Option (Option ℕ)
metrics_of None = Some None
metrics_of (Some text) = option_map Some (port_of text)

-- the levels of the log, by their names
abbrev pub log_levels : List (Text × LogLevel)
log_levels = (codes "warn", Warn) ∷ (codes "notice", Notice) ∷ (codes "info", Info) ∷ []

-- the level of the log; where it isn't given it is `notice`
abbrev pub log_of : Option Text → Option LogLevel
log_of None = Some Notice
log_of (Some text) = lookup (bytes_eq text) log_levels

-- how a group runs, by its texts
abbrev pub run_by : List Report → Option Text → Option Text → Option Text → Option Text → Bool
    → Option RunOptions
run_by reports max_message_text server_wait_text metrics_text log_text until_eof = do
  max_message ← max_message_of max_message_text
  server_wait ← server_wait_of server_wait_text
  metrics ← metrics_of metrics_text
  log ← log_of log_text
  Some (record {
    reports = reports;
    max_message = max_message;
    server_wait = server_wait;
    metrics = metrics;
    log = log;
    until_eof = until_eof;
  })

-- parameters that logins may report are given any number of times, and each of the other options at
-- most once
unfoldable pub run_asked : Given → Option RunOptions
run_asked given = do
  max_message ← at_most_one (values_of MaxMessage given)
  server_wait ← at_most_one (values_of ServerWait given)
  metrics ← at_most_one (values_of Metrics given)
  log ← at_most_one (values_of Log given)
  until_eof ← at_most_one (values_of UntilEof given)
  reports ← reports_of (values_of ReportOption given)
  run_by reports max_message server_wait metrics log (is_some until_eof)

-- what was found
abbrev pub run_in : RunOptionsRead → RunOptions
run_in options = record {
  reports = options.reports;
  max_message = options.max_message;
  server_wait = options.server_wait;
  metrics = options.metrics;
  log = options.log;
  until_eof = options.until_eof;
}
