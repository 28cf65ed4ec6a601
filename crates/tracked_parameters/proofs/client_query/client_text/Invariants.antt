use Rattle.std.proofs.Common.{◌≡◌, drop}
use Rattle.tracked_parameters.specs.Settings.{differing}
use Rattle.tracked_parameters.specs.Stored.{joined, all_written}
use Rattle.tracked_parameters.specs.Client.{wanted_values}
use Rattle.tracked_parameters.proofs.client_query.client_text.Given as goal

-- with what is left behind it the text is the whole one
abbrev pub invariant-loop-place : goal.invariant-loop-place
invariant-loop-place l =
    joined l.text.items (differing (drop l.place l.names) (drop l.place (wanted_values l.own l.login l.current)) (drop l.place l.current))
    ≡ all_written (differing l.names (wanted_values l.own l.login l.current) l.current)
