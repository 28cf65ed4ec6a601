-- Sums over the shares of all callers, when one of them changes.
use Rattle.std.proofs.Common.{◌≡◌, ◌≢◌, ℕ, zero, suc, ◌+◌, ◌≤◌, List, [], ◌∷◌, set, refl, sym, ap, subst, ⊎_elim, arith}
use Rattle.std.specs.Prelude.{sum_by}
use Rattle.std.proofs.lemmas.List.Sums.{sum_by-cons}
use mathlib.Core.Option.{some, some-injective, some-ne-none}
use lib.ListN.{get_elem?}
use Rattle.atomic_table.proofs.Lists.{at_set}

module _ {A : Type 0} where
  -- one element is another
  pub sum_change : (g : A → ℕ) (l : List A) (id : ℕ) (v w : A) → get_elem? l id ≡ some v → sum_by g (set l id w) + g v ≡ sum_by g l + g w
  sum_change g [] id v w at = absurd (some-ne-none v (sym at))
  sum_change g (x ∷ xs) zero v w at = let a = sum_by-cons g w xs in let b = sum_by-cons g x xs in let c = ap g (some-injective x v at) in omega (arith, a, b, c)
  sum_change g (x ∷ xs) (suc id) v w at = let a = sum_by-cons g x (set xs id w) in let b = sum_by-cons g x xs in let r = sum_change g xs id v w at in omega (arith, a, b, r)

  pub sum_same : (g : A → ℕ) (l : List A) (id : ℕ) (v w : A) → get_elem? l id ≡ some v → g w ≡ g v → sum_by g (set l id w) ≡ sum_by g l
  sum_same g l id v w at e = let s = sum_change g l id v w at in omega (arith, s, e)

  pub le_sum : (g : A → ℕ) (l : List A) (id : ℕ) (v : A) → get_elem? l id ≡ some v → g v ≤ sum_by g l
  le_sum g [] id v at = absurd (some-ne-none v (sym at))
  le_sum g (x ∷ xs) zero v at = let b = sum_by-cons g x xs in let c = ap g (some-injective x v at) in omega (arith, b, c)
  le_sum g (x ∷ xs) (suc id) v at = let b = sum_by-cons g x xs in let r = le_sum g xs id v at in omega (arith, b, r)

  sum_none : (h : A → ℕ) (l : List A) → ((i : ℕ) (u : A) → get_elem? l i ≡ some u → h u ≡ 0) → sum_by h l ≡ 0
  sum_none h [] none = refl
  sum_none h (x ∷ xs) none = let b = sum_by-cons h x xs in let c = none 0 x refl in let r = sum_none h xs (λ i u at. none (suc i) u at) in omega (arith, b, c, r)

  -- who has all of one thing has all of what nobody has without it
  pub sum_one : (g h : A → ℕ) (l : List A) (id : ℕ) (v : A) → get_elem? l id ≡ some v → ((i : ℕ) (u : A) → get_elem? l i ≡ some u → g u ≡ 0 → h u ≡ 0)
      → sum_by g l ≡ g v → sum_by h l ≡ h v
  sum_one g h [] id v at none all = absurd (some-ne-none v (sym at))
  sum_one g h (x ∷ xs) zero v at none all =
      let e : x ≡ v = some-injective x v at in let b = sum_by-cons g x xs in let d = sum_by-cons h x xs in let c = ap g e in let k = ap h e in
      let rest = sum_none h xs (λ i u here. none (suc i) u here (let le = le_sum g xs i u here in omega (arith, le, b, c, all))) in
      omega (arith, d, k, rest)
  sum_one g h (x ∷ xs) (suc id) v at none all =
      let b = sum_by-cons g x xs in let d = sum_by-cons h x xs in let le = le_sum g xs id v at in
      let gone : g x ≡ 0 = omega (arith, b, le, all) in
      let k = none 0 x refl gone in
      let r = sum_one g h xs id v at (λ i u here. none (suc i) u here) (omega (arith, b, gone, all)) in
      omega (arith, d, k, r)

  -- what holds of each element holds of each where one was exchanged for one of which it holds
  pub each_set : (P : A → Type 0) (l : List A) (id : ℕ) (w : A) → P w → ((i : ℕ) (u : A) → get_elem? l i ≡ some u → P u)
      → (i : ℕ) (u : A) → get_elem? (set l id w) i ≡ some u → P u
  each_set P l id w good each i u at = ⊎_elim (λ (t : (i ≡ id) × (w ≡ u)). subst P t.1 good) (λ (t : (i ≢ id) × (get_elem? l i ≡ some u)). each i u t.1) (at_set l id i w u at)
