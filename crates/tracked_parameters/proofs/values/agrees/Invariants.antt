use Rattle.std.proofs.Common.{◌≡◌, drop}
use Rattle.tracked_parameters.specs.Stored.{all_there}
use Rattle.tracked_parameters.proofs.values.agrees.Given as goal

-- all are there if those are that are left
abbrev pub invariant-loop-place : goal.invariant-loop-place
invariant-loop-place l = all_there (drop l.place l.wanted) (drop l.place l.present) ≡ all_there l.wanted l.present
