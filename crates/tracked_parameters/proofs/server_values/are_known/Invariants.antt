use Rattle.std.proofs.Common.{◌≡◌, drop}
use Rattle.tracked_parameters.specs.Server.{are_known}
use Rattle.tracked_parameters.proofs.server_values.are_known.Given as goal

-- all are known if those are that are left
abbrev pub invariant-loop-place : goal.invariant-loop-place
invariant-loop-place l = are_known (drop l.place l.reported) (drop l.place l.values) ≡ are_known l.reported l.values
