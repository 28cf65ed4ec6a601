use Rattle.std.proofs.Common.{◌≡◌, None, replicate}
use Rattle.tracked_parameters.specs.Stored.{all_kept}
use Rattle.tracked_parameters.proofs.values.unknown.Given as goal

-- so many values as places were passed, and none of them is known
abbrev pub invariant-loop-place : goal.invariant-loop-place
invariant-loop-place l = all_kept l.values.items ≡ replicate l._place None
