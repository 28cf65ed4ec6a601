use Rattle.std.proofs.Common.{◌≡◌, drop}
use Rattle.tracked_parameters.specs.Stored.{all_there}
use Rattle.tracked_parameters.specs.Client.{wanted_values}
use Rattle.tracked_parameters.proofs.client_query.are_current.Given as goal

-- all are there if those are that are left
abbrev pub invariant-loop-place : goal.invariant-loop-place
invariant-loop-place l =
    all_there (drop l.place (wanted_values l.own l.login l.current)) (drop l.place l.current)
    ≡ all_there (wanted_values l.own l.login l.current) l.current
