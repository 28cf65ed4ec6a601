use Rattle.std.proofs.Common.{rules, ◌≡◌, ◌+◌, ◌≤◌, ℕ, zero, suc, [], ◌∷◌, List, replicate, refl, sym, ap, subst, arith}
use Rattle.std.specs.Prelude.{slice_index}
use Rattle.std.proofs.lemmas.List.{length-replicate}
use Rattle.atomic_table.specs.Table.{opening}
use Rattle.locked_node.specs.Journal.{JournalView, CALL_LIMIT}
use Rattle.locked_node.specs.Totals.{all_calls}
use Rattle.locked_node.specs.Lock.{IsLocked, first_share}
use Rattle.locked_node.proofs.Locking.{opens}
use Rattle.locked_node.proofs.shared.Shared.new.Goals as goal

first_free : (n : ℕ) → slice_index (replicate n 0) 0 ≡ 0
first_free zero = refl
first_free (suc n) = refl

pub new-requires : goal.new-requires
new-requires g c =
    let start : JournalView = c.of-start.result.value in
    let left = c.calls_left-allowance.ensures in
    let is : all_calls start.log.totals ≡ all_calls c.args.journal.log.totals = ap (λ (j : JournalView). all_calls j.log.totals) c.of-start.ensures in
    let room : all_calls start.log.totals ≤ CALL_LIMIT = omega (arith, left, is) in
    let there : start ∷ [] ≡ c.push.new.self.items = search rules in
    let many : ℕ = 8 + c.slots-slots.result in
    let words : c.deref.result.now ≡ replicate many 0 = search rules in
    subst (λ (w : List ℕ). IsLocked start (opening w c.push.new.self.items (first_share start))) (sym words)
    (subst (λ (l : List JournalView). IsLocked start (opening (replicate many 0) l (first_share start))) there
    (opens start (replicate many 0) room (let l = length-replicate {A = ℕ} many 0 in omega (arith, l)) (first_free many)))
