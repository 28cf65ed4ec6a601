use Rattle.std.proofs.Common.{◌≡◌, ℕ, ◌<◌, ◌≤◌, ◌++◌, ◌∷◌, [], true, false, is_lt, nat_cmp, ap, sym, ◌∙◌, arith}
use Rattle.std.proofs.lemmas.Option.{same_Some, none-some}
use Rattle.std.proofs.lemmas.Bool.Decides.{nat_tests}
use Rattle.world.specs.declared.starts.Greatest.{Greatest}
use Rattle.world.specs.declared.table.Found.{Found}
use Rattle.world.proofs.Boots.{first_kept, less_kept, more_kept, same_greatest}
use Rattle.world.proofs.starts.Starts.push.Goals as goal
use Rattle.world.proofs.starts.Starts.push.Goals.{in-None, in-Some+then-lt, in-Some+else-lt}

less : (m n : ℕ) → is_lt (nat_cmp m n) ≡ true → m < n
less m n h = grind (arith, nat_tests)

not_less : (m n : ℕ) → is_lt (nat_cmp m n) ≡ false → n ≤ m
not_less m n h = grind (arith, nat_tests)

pub invariant_of-self : goal.invariant_of-self
invariant_of-self c = elim c.match-find.branch [
  | in-None w ↦ same_greatest
      (first_kept c.self.inside.starts.rows c.args.start c.self.inside.greatest.rows c.self.invariant
      (λ i one there of. absurd (none-some _ (sym w.in-None.is ∙ c.find.ensures.only i one there of))))
      (c.push-2.ensures ∙ ap (λ i. i.starts.rows ++ c.args.start ∷ []) w.self-inside-is)
      (ap (λ i. i.greatest.rows) w.self-inside-is ∙ w.push.ensures)
  | in-Some+then-lt w ↦ same_greatest
      (more_kept c.self.inside.starts.rows c.args.start c.self.inside.greatest.rows c.self.invariant
      w.in-Some.found.place w.in-Some.found.row w.in-Some.ensures.found w.in-Some.ensures.key
      (less _ _ (sym w.if-lt.ensures))
      (λ i one there of. ap (λ (f : Found Greatest). f.place)
      (same_Some _ _ (sym (c.find.ensures.only i one there of) ∙ w.in-Some.is))))
      (c.push-2.ensures ∙ ap (λ i. i.starts.rows ++ c.args.start ∷ []) w.self-inside-is)
      (ap (λ i. i.greatest.rows) w.self-inside-is ∙ w.set.ensures.rows)
  | in-Some+else-lt w ↦ same_greatest
      (less_kept c.self.inside.starts.rows c.args.start c.self.inside.greatest.rows c.self.invariant
      w.in-Some.found.place w.in-Some.found.row w.in-Some.ensures.found w.in-Some.ensures.key
      (not_less _ _ (sym w.if-lt.ensures)))
      (c.push-2.ensures ∙ ap (λ i. i.starts.rows ++ c.args.start ∷ []) w.self-inside-is)
      (ap (λ i. i.greatest.rows) w.self-inside-is)
]
