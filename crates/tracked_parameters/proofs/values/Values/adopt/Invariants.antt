use Rattle.std.proofs.Common.{◌≡◌, length}
use Rattle.tracked_parameters.specs.Values.{adopted_first}
use Rattle.tracked_parameters.proofs.values.Values.adopt.Given as goal

-- those before the place are taken over
abbrev pub invariant-loop-place : goal.invariant-loop-place
invariant-loop-place l = record {
  first : l.self ≡ adopted_first l.place l.fn.self l.present;
  same : length l.self ≡ length l.fn.self;
}
