use Rattle.std.proofs.Common.{◌∙◌, ℕ, ◌+◌, List, Option, None, [], get_or, drop, sym, ap, arith}
use Rattle.startup.specs.Replies.{Report}
use Rattle.tracked_parameters.specs.Settings.{difference, differing}
use Rattle.tracked_parameters.specs.Stored.{joined}
use Rattle.tracked_parameters.specs.Client.{wanted_values}
use Rattle.tracked_parameters.proofs.SettingLemmas.{differing_more, joined-append}
use Rattle.tracked_parameters.proofs.ClientLemmas.{get_or-wanted, length-wanted}
use Rattle.tracked_parameters.proofs.client_query.client_text.Goals as goal

pub loop-place-preserved : goal.loop-place-preserved
loop-place-preserved c =
    let names = c.args.names.now in
    let own = c.args.own.now in
    let login = c.args.login.now in
    let current = c.args.current.now in
    let place = c.loop-place.place in
    let wanted = wanted_values own login current in
    let one = difference (get_or names place []) (get_or wanted place None) (get_or current place None) in
    let rest = differing (drop (place + 1) names) (drop (place + 1) wanted) (drop (place + 1) current) in
    let a = c.requires.login ∙ sym c.requires.own in
    let b = c.requires.current ∙ sym c.requires.own in
    ap (λ (text : List ℕ). joined text rest) (c.in_ok-push_setting_at.ensures
    ∙ ap (λ (v : Option (List ℕ)). joined c.loop-place.text.items (difference (get_or names place []) v (get_or current place None))) (sym (get_or-wanted own login current place (omega arith) a b)))
    ∙ sym (joined-append c.loop-place.text.items one rest)
    ∙ ap (λ (reports : List Report). joined c.loop-place.text.items reports) (sym (differing_more names wanted current place (omega arith) (length-wanted own login current a b ∙ c.requires.own) c.requires.current))
    ∙ c.loop-place.invariant
