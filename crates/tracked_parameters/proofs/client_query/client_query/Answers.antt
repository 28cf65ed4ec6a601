use Rattle.std.proofs.Common.{◌∙◌, ℕ, ◌+◌, ◌<◌, ◌^◌, List, length, sym, ap, subst}
use Rattle.std.proofs.lemmas.Bool.{iff_false}
use Rattle.tracked_parameters.specs.Settings.{query}
use Rattle.tracked_parameters.specs.Client.{wanted_values}
use Rattle.tracked_parameters.proofs.SettingLemmas.{settings_query_is}
use Rattle.tracked_parameters.proofs.ClientLemmas.{length-wanted, texts_wanted}
use Rattle.tracked_parameters.proofs.client_query.client_query.Goals as goal

pub returns-clause-query : goal.returns-clause-query
returns-clause-query c =
    let own = c.args.own.now in
    let login = c.args.login.now in
    let current = c.args.current.now in
    let a = c.requires.login ∙ sym c.requires.own in
    let b = c.requires.current ∙ sym c.requires.own in
    settings_query_is c.args.names.now (wanted_values own login current) current c.in_ok-query.field-0.items c.in_ok-text.text.items c.in_ok-text.ensures.names
    (texts_wanted own login current c.in_ok-text.ensures.own c.in_ok-text.ensures.login) (length-wanted own login current a b ∙ c.requires.own) c.requires.current
    (iff_false c.are_current.ensures c.if-are_current.false) c.in_ok-text.ensures.text
    (c.in_ok-query.ensures.message ∙ ap (λ (text : List ℕ). query text) c.deref.ensures.value)
    (subst (λ (text : List ℕ). 5 + length text < 2 ^ 32) c.deref.ensures.value c.in_ok-query.ensures.fits)
