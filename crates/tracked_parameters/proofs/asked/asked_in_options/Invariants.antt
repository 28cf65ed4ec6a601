use Rattle.std.proofs.Common.{◌≡◌, drop}
use Rattle.std.specs.List.{AllByRecursion}
use Rattle.startup.specs.StartupMessage.{HasNoZero}
use Rattle.tracked_parameters.specs.Asked.{after_all, asked_in_options}
use Rattle.tracked_parameters.specs.Options.{settings_in}
use Rattle.tracked_parameters.specs.Values.{Fit}
use Rattle.tracked_parameters.specs.StoredReports.{all_items}
use Rattle.tracked_parameters.proofs.asked.asked_in_options.Given as goal

-- what is left leads to the values that are asked for
abbrev pub invariant-loop-argument : goal.invariant-loop-argument
invariant-loop-argument l = record {
  values : after_all l.names l.values (settings_in l.awaited (all_items (drop l.argument-index l.argument-items)))
      ≡ asked_in_options l.names l.options;
  fit : Fit l.names l.values;
  texts : AllByRecursion HasNoZero (all_items l.argument-items);
}
