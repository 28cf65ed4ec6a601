use Rattle.std.proofs.Common.{◌∙◌, ℕ, ◌+◌, ◌<◌, ◌^◌, List, length, ap, subst}
use Rattle.std.proofs.lemmas.Bool.{iff_false}
use Rattle.tracked_parameters.specs.Settings.{query}
use Rattle.tracked_parameters.proofs.SettingLemmas.{settings_query_is}
use Rattle.tracked_parameters.proofs.query.settings_query.Goals as goal

pub returns : goal.returns
returns c =
    settings_query_is c.args.names.now c.args.wanted.now c.args.present.now c.in_ok-query.field-0.items c.in_ok-text.text.items c.in_ok-text.ensures.names c.in_ok-text.ensures.texts c.requires.wanted c.requires.present
    (iff_false c.agrees.ensures c.if-agrees.false) c.in_ok-text.ensures.text
    (c.in_ok-query.ensures.message ∙ ap (λ (text : List ℕ). query text) c.deref.ensures.value)
    (subst (λ (text : List ℕ). 5 + length text < 2 ^ 32) c.deref.ensures.value c.in_ok-query.ensures.fits)
