use Rattle.std.proofs.Common.{◌≡◌, length}
use Rattle.tracked_parameters.specs.Client.{updated_first}
use Rattle.tracked_parameters.proofs.values.Values.update.Given as goal

-- those before the place are taken over
abbrev pub invariant-loop-place : goal.invariant-loop-place
invariant-loop-place l = record {
  first : l.self ≡ updated_first l.place l.fn.self l.others;
  same : length l.self ≡ length l.fn.self;
}
