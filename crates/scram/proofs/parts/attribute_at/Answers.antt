use Rattle.std.proofs.Common.{◌∙◌, sym, [], ◌∷◌}
use Rattle.scram.specs.Messages.{attribute}
use Rattle.scram.proofs.PartsLemmas.{always_none, attribute_lacks, one_cut}
use Rattle.scram.proofs.parts.attribute_at.Goals as goal

pub returns-in_err-front-clause-none : goal.returns-in_err-front-clause-none
returns-in_err-front-clause-none c =
    always_none c.from_residual.result (λ value rest lacks is.
    c.in_err-front.ensures.none (attribute (c.args.name ∷ []) value) rest (attribute_lacks c.args.name value c.requires lacks) is)

pub returns-in_err-value-clause-none : goal.returns-in_err-value-clause-none
returns-in_err-value-clause-none c =
    let found = c.in_ok-front.ensures.found in
    always_none c.from_residual-in_err-value.result (λ value rest lacks is.
    let same = one_cut 44 _ _ _ _ found.0 (attribute_lacks c.args.name value c.requires lacks) (sym found.1 ∙ is) in
    c.in_err-value.ensures.none value same.0)
