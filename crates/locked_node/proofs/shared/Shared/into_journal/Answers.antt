use Rattle.std.proofs.Common.{◌≡◌, ◌+◌, ◌<◌, ◌∙◌, sym, ap, subst, arith}
use mathlib.Core.Option.{some, some-injective}
use lib.ListN.{get_elem?}
use Rattle.locked_node.specs.Totals.{all_calls}
use Rattle.locked_node.specs.Journal.{JournalView, CALL_LIMIT}
use Rattle.locked_node.specs.Lock.{CallerView, IsWhole, IsOfLock}
use Rattle.locked_node.proofs.Wholes.{share_some, all_free, whole_is, of_lock, word_free, first_word}
use Rattle.locked_node.proofs.shared.Shared.into_journal.Goals as goal

pub returns-then-word-eq-FREE-clause-own : goal.returns-then-word-eq-FREE-clause-own
returns-then-word-eq-FREE-clause-own g c = subst (λ (j : JournalView). IsOfLock c.args.caller j) (sym c.locked.view_is) (subst (λ (o : CallerView). IsOfLock o c.take-locked.result) c.caller.view_is (
    let inv = c.caller.invariant in
    let final = c.close_with-closed.ensures.values.2 in
    let s = final.0 in let r = final.1.0 in let at = final.1.1 in
    let v = c.caller.inside.seat.me.0 in
    let has : 0 < v.allowance + all_calls c.caller.inside.tally = let a = inv.allowance in let b = inv.some in omega (arith, a, b) in
    let knows = (r.each _ v at).knows (share_some v c.caller.inside.tally inv.totals has) in
    let home = word_free _ s r (ap (λ ws. get_elem? ws 0) final.2 ∙ (c.word-word.ensures ∙ ap some c.if-word-eq-FREE.true)) in
    let there = final.4 0 r.journal (ap (λ h. get_elem? h 0) home) in
    let same = some-injective c.take-locked.result r.journal (sym c.take-locked.ensures.value ∙ there) in
    subst (λ a. IsOfLock (record { lock = c.caller.inside.seat.table_id; start = v.start; allowance = a; made = v.made; places = v.places; tally = c.caller.inside.tally }) c.take-locked.result) inv.allowance
    (of_lock _ s r _ v at knows c.caller.inside.seat.table_id c.caller.inside.tally c.take-locked.result inv.totals same)))

pub returns-then-word-eq-FREE-clause-whole : goal.returns-then-word-eq-FREE-clause-whole
returns-then-word-eq-FREE-clause-whole g c = λ whole. subst (λ (j : JournalView). IsWhole c.args.caller j) (sym c.locked.view_is) (subst (λ (o : CallerView). o.allowance + all_calls o.tally ≡ CALL_LIMIT → IsWhole o c.take-locked.result) c.caller.view_is (λ all.
    let inv = c.caller.invariant in
    let final = c.close_with-closed.ensures.values.2 in
    let s = final.0 in let r = final.1.0 in let at = final.1.1 in
    let v = c.caller.inside.seat.me.0 in
    let has : 0 < v.allowance + all_calls c.caller.inside.tally = let a = inv.allowance in let b = inv.some in omega (arith, a, b) in
    let knows = (r.each _ v at).knows (share_some v c.caller.inside.tally inv.totals has) in
    let total = let a = inv.allowance in let b = inv.totals.all in ap (λ x. v.allowance + x) (sym b) ∙ (ap (λ x. x + all_calls c.caller.inside.tally) a ∙ all) in
    let home = (all_free _ s r _ v at knows total inv.idle).home in
    let there = final.4 0 r.journal (ap (λ h. get_elem? h 0) home) in
    let same = some-injective c.take-locked.result r.journal (sym c.take-locked.ensures.value ∙ there) in
    subst (λ a. IsWhole (record { lock = c.caller.inside.seat.table_id; start = v.start; allowance = a; made = v.made; places = v.places; tally = c.caller.inside.tally }) c.take-locked.result) inv.allowance
    (whole_is _ s r _ v at knows total c.caller.inside.seat.table_id c.caller.inside.tally c.take-locked.result inv.totals same)) whole)

-- who has everything finds the lock free
pub returns-clause-whole : goal.returns-clause-whole
returns-clause-whole g c = λ whole. subst (λ (o : CallerView). o.allowance + all_calls o.tally ≡ CALL_LIMIT → ⊥) c.caller.view_is (λ all.
    let inv = c.caller.invariant in
    let final = c.close_with-closed.ensures.values.2 in
    let s = final.0 in let r = final.1.0 in let at = final.1.1 in
    let v = c.caller.inside.seat.me.0 in
    let has : 0 < v.allowance + all_calls c.caller.inside.tally = let a = inv.allowance in let b = inv.some in omega (arith, a, b) in
    let knows = (r.each _ v at).knows (share_some v c.caller.inside.tally inv.totals has) in
    let total = let a = inv.allowance in let b = inv.totals.all in ap (λ x. v.allowance + x) (sym b) ∙ (ap (λ x. x + all_calls c.caller.inside.tally) a ∙ all) in
    let free = (all_free _ s r _ v at knows total inv.idle).word in
    let found = first_word s.words c.word-word.result (ap (λ ws. get_elem? ws 0) final.2 ∙ c.word-word.ensures) in
    c.if-word-eq-FREE.false (sym found ∙ free)) whole
