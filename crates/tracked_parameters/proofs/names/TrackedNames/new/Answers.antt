use Rattle.std.proofs.Common.{ap, sym, subst}
use Rattle.tracked_parameters.specs.Names.{AreNames}
use Rattle.tracked_parameters.specs.Stored.{all_names}
use Rattle.tracked_parameters.proofs.NameLemmas.{six, standard_are}
use Rattle.tracked_parameters.proofs.names.TrackedNames.new.Goals as goal

pub invariant_of-result : goal.invariant_of-result
invariant_of-result c =
    subst AreNames
    (sym (six _ _ _ _ _ _ _ _ _ _ _ _ _ (ap all_names c.in_ok-names.ensures.items) c.in_ok-put.ensures.ok c.in_ok-put-2.ensures.ok c.in_ok-put-3.ensures.ok c.in_ok-put-4.ensures.ok c.in_ok-put-5.ensures.ok c.in_ok-put-6.ensures.ok))
    standard_are
