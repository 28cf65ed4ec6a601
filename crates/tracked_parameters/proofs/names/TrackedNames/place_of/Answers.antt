use Rattle.std.proofs.Common.{◌∙◌, ℕ, List, ap}
use Rattle.std.specs.Prelude.{string_bytes, String}
use Rattle.std.specs.declared.alloc.Global.{Global}
use Rattle.tracked_parameters.specs.Names.{alike}
use Rattle.tracked_parameters.specs.Values.{place_of}
use Rattle.tracked_parameters.specs.Stored.{all_names}
use Rattle.tracked_parameters.proofs.PlaceLemmas.{position_from-map}
use Rattle.tracked_parameters.proofs.names.TrackedNames.place_of.Goals as goal

pub returns-clause-found : goal.returns-clause-found
returns-clause-found c =
    let name = c.args.name.now in
    c.position.ensures.found ∙ position_from-map string_bytes (λ one. alike one name) 0 c.deref.result.now
    ∙ ap (λ (xs : List (String Global)). place_of (all_names xs) name) c.deref.ensures.value
    ∙ ap (λ (ns : List (List ℕ)). place_of ns name) c.self.view_is
