use Rattle.std.proofs.Common.{◌≡◌, map, drop}
use Rattle.std.specs.List.{fold}
use Rattle.startup.specs.StartupMessage.{HasNoZero}
use Rattle.tracked_parameters.specs.Asked.{options_after, options_of}
use Rattle.tracked_parameters.specs.Status.{told}
use Rattle.tracked_parameters.proofs.asked.options_of.Given as goal

-- what is left makes them the last ones
abbrev pub invariant-loop-one : goal.invariant-loop-one
invariant-loop-one l = record {
  options : fold options_after l.options (map told (drop l.one-index l.sent)) ≡ options_of (map told l.sent);
  text : HasNoZero l.options;
}
