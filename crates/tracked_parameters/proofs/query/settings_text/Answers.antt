use Rattle.std.proofs.Common.{◌∙◌, ℕ, ◌+◌, List, None, [], get_or, drop, sym, ap, arith}
use Rattle.startup.specs.Replies.{Report}
use Rattle.tracked_parameters.specs.Settings.{difference, differing}
use Rattle.tracked_parameters.specs.Stored.{joined}
use Rattle.tracked_parameters.proofs.SettingLemmas.{differing_more, joined-append}
use Rattle.tracked_parameters.proofs.query.settings_text.Goals as goal

pub loop-place-preserved : goal.loop-place-preserved
loop-place-preserved c =
    let names = c.args.names.now in
    let wanted = c.args.wanted.now in
    let present = c.args.present.now in
    let place = c.loop-place.place in
    let one = difference (get_or names place []) (get_or wanted place None) (get_or present place None) in
    let rest = differing (drop (place + 1) names) (drop (place + 1) wanted) (drop (place + 1) present) in
    ap (λ (text : List ℕ). joined text rest) c.in_ok-push_difference.ensures
    ∙ sym (joined-append c.loop-place.text.items one rest)
    ∙ ap (λ (reports : List Report). joined c.loop-place.text.items reports) (sym (differing_more names wanted present place (omega arith) c.requires.wanted c.requires.present))
    ∙ c.loop-place.invariant
