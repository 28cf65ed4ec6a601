use Rattle.std.proofs.Common.{◌≡◌, ◌∙◌, ◌&&◌, ℕ, ◌+◌, Bool, true, false, Option, None, List, get_or, drop, sym, ap, arith}
use Rattle.std.proofs.lemmas.List.{drop_all}
use Rattle.tracked_parameters.specs.Stored.{all_there, is_there}
use Rattle.tracked_parameters.specs.Client.{wanted_values}
use Rattle.tracked_parameters.proofs.SettingLemmas.{agree_iff, there_more}
use Rattle.tracked_parameters.proofs.ClientLemmas.{length-wanted, wanted_there}
use Rattle.tracked_parameters.proofs.client_query.are_current.Goals as goal

pub loop-place-preserved : goal.loop-place-preserved
loop-place-preserved c =
    let own = c.args.own.now in
    let login = c.args.login.now in
    let current = c.args.current.now in
    let place = c.loop-place.place in
    let wanted = wanted_values own login current in
    let length = length-wanted own login current c.requires.login c.requires.current in
    let there : is_there (get_or wanted place None) (get_or current place None) ≡ true =
    wanted_there own login current place _ _ _ _ (omega arith) c.requires.login c.requires.current c.at.ensures.value c.at-in-loop-place.ensures.value c.at-in-loop-place-2.ensures.value c.if-not-is_current.ensures in
    sym (there_more wanted current place (omega (arith, length)) (length ∙ sym c.requires.current)
    ∙ ap (λ (b : Bool). b && all_there (drop (place + 1) wanted) (drop (place + 1) current)) there) ∙ c.loop-place.invariant

pub returns-then-not-is_current : goal.returns-then-not-is_current
returns-then-not-is_current c =
    let own = c.args.own.now in
    let login = c.args.login.now in
    let current = c.args.current.now in
    let place = c.loop-place.place in
    let wanted = wanted_values own login current in
    let length = length-wanted own login current c.requires.login c.requires.current in
    let missing : is_there (get_or wanted place None) (get_or current place None) ≡ false =
    wanted_there own login current place _ _ _ _ (omega arith) c.requires.login c.requires.current c.at.ensures.value c.at-in-loop-place.ensures.value c.at-in-loop-place-2.ensures.value c.if-not-is_current.ensures in
    agree_iff wanted current false (sym (sym c.loop-place.invariant ∙ there_more wanted current place (omega (arith, length)) (length ∙ sym c.requires.current)
    ∙ ap (λ (b : Bool). b && all_there (drop (place + 1) wanted) (drop (place + 1) current)) missing))

pub returns : goal.returns
returns c =
    let own = c.args.own.now in
    let login = c.args.login.now in
    let current = c.args.current.now in
    let place = c.loop-place.place in
    let wanted = wanted_values own login current in
    let length = length-wanted own login current c.requires.login c.requires.current in
    agree_iff wanted current _ (sym (sym c.loop-place.invariant
    ∙ ap (λ (ws : List (Option (List ℕ))). all_there ws (drop place current)) (drop_all place wanted (omega (arith, length)))))
