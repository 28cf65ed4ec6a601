-- The greatest boot of each node, once one more start came.
use Rattle.std.proofs.Common.{◌≡◌, ℕ, ◌<◌, ◌≤◌, ◌⊎◌, inl, inr, ⊎_elim, List, [], ◌∷◌, ◌++◌, Option, Some, None, IfNone, length, ap, sym, subst, ◌∙◌, arith}
use Rattle.std.proofs.Math.ListN.{set}
use Rattle.std.specs.List.{slice_get}
use Rattle.std.proofs.lemmas.Option.{same_Some}
use Rattle.std.proofs.lemmas.Bool.{cases_eq}
use Rattle.world.specs.declared.starts.Greatest.{Greatest}
use Rattle.world.specs.World.{Start, HadBoot, IsGreatestBoot}
use Rattle.world.specs.Starts.{AreGreatest}
use Rattle.world.proofs.Lists.{set_here, set_there, set_cases, kept_behind, added_cases, added_last}

-- what is so anyway
pub if_none : {X : Type 0} (r : Option X) {P : Type 0} → P → IfNone r P
if_none None p = p
if_none (Some x) p = tt

module _ (starts : List Start) (s : Start) where
  had_before : (m x : ℕ) → HadBoot (starts ++ s ∷ []) m x → HadBoot starts m x ⊎ ((m ≡ s.node) × (x ≡ s.boot))
  had_before m x h = ⊎_elim
      (λ before. inl (record { place = h.place; there = before }))
      (λ new. inr (ap (λ (t : Start). t.node) new.1, ap (λ (t : Start). t.boot) new.1))
      (added_cases starts s h.place (record { node = m; boot = x }) h.there)

  had_still : (m x : ℕ) → HadBoot starts m x → HadBoot (starts ++ s ∷ []) m x
  had_still m x h = record { place = h.place; there = kept_behind starts (s ∷ []) h.place _ h.there }

  greatest_still : (m g : ℕ) → (m ≡ s.node → s.boot ≤ g) → IsGreatestBoot starts m g
      → IsGreatestBoot (starts ++ s ∷ []) m g
  greatest_still m g least was = record {
    had = had_still m g was.had;
    greatest = λ other h. ⊎_elim
        (λ before. was.greatest other before)
        (λ new. subst (λ (n : ℕ). n ≤ g) (sym new.1) (least new.0))
        (had_before m other h);
  }

  greatest_new : ((other : ℕ) → HadBoot starts s.node other → other ≤ s.boot)
      → IsGreatestBoot (starts ++ s ∷ []) s.node s.boot
  greatest_new least = record {
    had = record { place = length starts; there = added_last starts s };
    greatest = λ other h. ⊎_elim
        (λ before. least other before)
        (λ new. let e = new.1 in omega (arith, e))
        (had_before s.node other h);
  }

  module _ (was : List Greatest) (old : AreGreatest starts was) where
    -- the first start of a node
    pub first_kept : ((i : ℕ) (one : Greatest) → slice_get was i ≡ Some one → one.node ≡ s.node → ⊥)
        → AreGreatest (starts ++ s ∷ []) (was ++ record { node = s.node; boot = s.boot } ∷ [])
    first_kept none = record {
      each = λ i one at. ⊎_elim
          (λ before. greatest_still one.node one.boot (λ e. absurd (none i one before e)) (old.each i one before))
          (λ new. subst (λ (o : Greatest). IsGreatestBoot (starts ++ s ∷ []) o.node o.boot) (sym new.1)
          (greatest_new (λ other h. let a = old.all s.node other h in absurd (none a.0 a.1 a.2 a.3))))
          (added_cases was (record { node = s.node; boot = s.boot }) i one at);
      all = λ m x h. ⊎_elim
          (λ before. let a = old.all m x before in (a.0, a.1, kept_behind was _ a.0 a.1 a.2, a.3))
          (λ new. (length was, record { node = s.node; boot = s.boot }, added_last was _, sym new.0))
          (had_before m x h);
    }

    module _ (k : ℕ) (g : Greatest) (there : slice_get was k ≡ Some g) (of : g.node ≡ s.node) where
      -- one that isn't its node's greatest
      pub less_kept : s.boot ≤ g.boot → AreGreatest (starts ++ s ∷ []) was
      less_kept less = record {
        each = λ i one at. greatest_still one.node one.boot
            (λ e. let more = (old.each i one at).greatest g.boot
            (subst (λ (n : ℕ). HadBoot starts n g.boot) (of ∙ sym e) (old.each k g there).had) in
            omega (arith, less, more))
            (old.each i one at);
        all = λ m x h. ⊎_elim
            (λ before. old.all m x before)
            (λ new. (k, g, there, of ∙ sym new.0))
            (had_before m x h);
      }

      -- one that is
      pub more_kept : g.boot < s.boot
          → ((i : ℕ) (one : Greatest) → slice_get was i ≡ Some one → one.node ≡ s.node → i ≡ k)
          → AreGreatest (starts ++ s ∷ []) (set was k (record { node = s.node; boot = s.boot }))
      more_kept more once = record {
        each = λ i one at. ⊎_elim
            (λ before. greatest_still one.node one.boot
            (λ e. absurd (before.0 (once i one before.1 e))) (old.each i one before.1))
            (λ new. subst (λ (o : Greatest). IsGreatestBoot (starts ++ s ∷ []) o.node o.boot) (sym new.1)
            (greatest_new (λ other h.
            let least = (old.each k g there).greatest other
            (subst (λ (n : ℕ). HadBoot starts n other) (sym of) h) in
            omega (arith, least, more))))
            (set_cases was k i one (record { node = s.node; boot = s.boot }) at);
        all = λ m x h. ⊎_elim
            (λ before. let a = old.all m x before in ⊎_elim
            (λ same. (
              k,
              record { node = s.node; boot = s.boot },
              set_here was k g _ there,
              sym of ∙ ap (λ (o : Greatest). o.node) (same_Some g a.1 (sym there ∙ ap (slice_get was) (sym same) ∙ a.2)) ∙ a.3,
            ))
            (λ apart. (a.0, a.1, set_there was k a.0 _ apart ∙ a.2, a.3))
            (cases_eq a.0 k))
            (λ new. (k, record { node = s.node; boot = s.boot }, set_here was k g _ there, sym new.0))
            (had_before m x h);
      }

-- the same of the same lists
pub same_greatest : {starts also : List Start} {was now : List Greatest} → AreGreatest starts was
    → also ≡ starts → now ≡ was → AreGreatest also now
same_greatest {starts} {also} {was} {now} h of_starts of_greatest =
    subst (λ (l : List Greatest). AreGreatest also l) (sym of_greatest)
    (subst (λ (l : List Start). AreGreatest l was) (sym of_starts) h)

-- one that was greatest is greatest still, and no other is
pub one_greatest : (starts : List Start) (node g x : ℕ) → IsGreatestBoot starts node g
    → IsGreatestBoot starts node x → g ≤ x
one_greatest starts node g x is also = also.greatest g is.had
