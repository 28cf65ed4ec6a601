-- Pairs of a list's elements, as a loop goes over the later of the two.
use Rattle.std.proofs.Common.{◌≡◌, ℕ, ◌+◌, ◌<◌, List, length, take, get_or, subst, sym, ◌∙◌, arith, get_or-take, length-take-le, ⊎_elim}
use Rattle.std.specs.Prelude.{All, AllPairs}
use Rattle.std.proofs.lemmas.Bool.{cases_lt}
use Rattle.std.proofs.lemmas.List.{get_or_default}

-- R holds of each two elements below n, the earlier first
abbrev pub PairsBelow : {X : Type 0} → (X → X → Type 0) → List X → ℕ → Type 0
PairsBelow {X} R xs n = (i j : ℕ) (d : X) → i < j → j < n → R (get_or xs i d) (get_or xs j d)

module _ {X : Type 0} (R : X → X → Type 0) (xs : List X) (n : ℕ) (y : X) (within : n < length xs) (is : y ≡ get_or xs n y) where
  at : (d : X) → get_or xs n d ≡ y
  at d = get_or_default xs n d y within ∙ sym is

  -- one more element, to which each earlier one is related
  pub pairs_below_more : PairsBelow R xs n → All (λ x. R x y) (take n xs) → PairsBelow R xs (n + 1)
  pairs_below_more below each i j d lt lt' =
      ⊎_elim
      (λ (earlier : j < n). below i j d lt earlier)
      (λ last. let e : j ≡ n = omega arith in
      let h : R (get_or (take n xs) i d) y = each i d (omega (arith, length-take-le n xs (omega arith))) in
      let g : R (get_or xs i d) y = subst (λ z. R z y) (get_or-take n xs i d (omega arith)) h in
      subst (λ (k : ℕ). R (get_or xs i d) (get_or xs k d)) (sym e) (subst (λ z. R (get_or xs i d) z) (sym (at d)) g))
      (cases_lt j n)

  -- all pairs, at one later element
  pub front_from_pairs : AllPairs R xs → All (λ x. R x y) (take n xs)
  front_from_pairs pairs i d lt =
      let i_lt : i < n = omega (arith, length-take-le n xs (omega arith)) in
      subst (λ z. R z y) (sym (get_or-take n xs i d i_lt)) (subst (λ z. R (get_or xs i d) z) (at d) (pairs i n d i_lt within))
