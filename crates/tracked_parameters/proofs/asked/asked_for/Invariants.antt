use Rattle.std.proofs.Common.{◌≡◌, map, drop}
use Rattle.std.specs.List.{fold}
use Rattle.tracked_parameters.specs.Asked.{after_named, asked_for}
use Rattle.tracked_parameters.specs.Values.{Fit}
use Rattle.tracked_parameters.specs.Status.{told}
use Rattle.tracked_parameters.proofs.asked.asked_for.Given as goal

-- what is left leads to the values that are asked for
abbrev pub invariant-loop-one : goal.invariant-loop-one
invariant-loop-one l = record {
  values : fold (after_named l.names) l.values (map told (drop l.one-index l.sent)) ≡ asked_for l.names (map told l.sent);
  fit : Fit l.names l.values;
}
