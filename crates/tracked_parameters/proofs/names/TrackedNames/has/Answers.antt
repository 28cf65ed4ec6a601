use Rattle.std.proofs.Common.{◌∙◌, ℕ, List, ap}
use Rattle.std.specs.Prelude.{string_bytes, String}
use Rattle.std.specs.declared.alloc.Global.{Global}
use Rattle.tracked_parameters.specs.Names.{alike, is_among}
use Rattle.tracked_parameters.specs.Stored.{all_names}
use Rattle.tracked_parameters.proofs.PlaceLemmas.{list_any-map}
use Rattle.tracked_parameters.proofs.names.TrackedNames.has.Goals as goal

pub returns : goal.returns
returns c =
    let name = c.args.name.now in
    c.is_among.ensures ∙ list_any-map string_bytes (λ one. alike one name) c.deref.result.now
    ∙ ap (λ (xs : List (String Global)). is_among name (all_names xs)) c.deref.ensures.value
    ∙ ap (λ (ns : List (List ℕ)). is_among name ns) c.self.view_is
