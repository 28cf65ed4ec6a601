-- How much a line of the log matters (own): a warning most, then a notice, then an info.
use Rattle.std.specs.Prelude.{ℕ}
use Rattle.telemetry.specs.declared.log.event.Level.{Level}
use Rattle.telemetry.specs.declared.log.event.Level.TheVariants.{Warn, Notice, Info}

-- its place among the levels, from the one that matters most
abbrev pub rank : Level → ℕ
rank Warn = 0
rank Notice = 1
rank Info = 2
