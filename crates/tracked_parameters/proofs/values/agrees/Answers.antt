use Rattle.std.proofs.Common.{◌≡◌, ◌∙◌, ◌&&◌, ℕ, ◌+◌, Bool, false, Option, None, List, get_or, drop, sym, ap, arith}
use Rattle.std.proofs.lemmas.List.{drop_all}
use Rattle.tracked_parameters.specs.Stored.{all_there, is_there}
use Rattle.tracked_parameters.proofs.SettingLemmas.{agree_iff, there_more, missing_at}
use Rattle.tracked_parameters.proofs.values.agrees.Goals as goal

pub returns-then-not-is_there : goal.returns-then-not-is_there
returns-then-not-is_there c =
    let wanted = c.args.wanted.now in
    let present = c.args.present.now in
    let place = c.loop-place.place in
    let missing : is_there (get_or wanted place None) (get_or present place None) ≡ false =
    missing_at _ _ _ _ c.at.ensures.value c.at-in-loop-place.ensures.value c.if-not-is_there.ensures in
    agree_iff wanted present false (sym (sym c.loop-place.invariant ∙ there_more wanted present place (omega arith) c.requires
    ∙ ap (λ (b : Bool). b && all_there (drop (place + 1) wanted) (drop (place + 1) present)) missing))

pub returns : goal.returns
returns c =
    let wanted = c.args.wanted.now in
    let present = c.args.present.now in
    let place = c.loop-place.place in
    agree_iff wanted present _ (sym (sym c.loop-place.invariant
    ∙ ap (λ (ws : List (Option (List ℕ))). all_there ws (drop place present)) (drop_all place wanted (omega arith))))
