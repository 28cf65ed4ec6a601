-- A list at a place, after a write to one place.
use Rattle.std.proofs.Common.{◌≡◌, ◌≢◌, ℕ, ◌<◌, ◌≤◌, ◌⊎◌, List, Some, length, sym, ap, ◌∙◌, subst, inl, inr, length-set}
use Rattle.std.proofs.Math.ListN.{set}
use Rattle.std.specs.List.{slice_get}
use Rattle.std.proofs.lemmas.Bool.{cases_lt}
use Rattle.std.proofs.lemmas.List.{get_or-set_same, get_or-set_other}
use Rattle.std.proofs.lemmas.Option.{slice_get-get_or, slice_get_past}

-- what was written is read
pub slice_get-set_same : {X : Type 0} (xs : List X) (i : ℕ) (x : X) → i < length xs → slice_get (set xs i x) i ≡ Some x
slice_get-set_same xs i x h =
    slice_get-get_or (set xs i x) i x (subst (λ n. i < n) (sym (length-set xs i x)) h) ∙ ap Some (get_or-set_same xs i x x h)

-- another place is as before
pub slice_get-set_other : {X : Type 0} (xs : List X) (i j : ℕ) (x : X) → j ≢ i → slice_get (set xs i x) j ≡ slice_get xs j
slice_get-set_other xs i j x apart = by_place (cases_lt j (length xs))
  where
    same : length (set xs i x) ≡ length xs
    same = length-set xs i x

    by_place : (j < length xs) ⊎ (length xs ≤ j) → slice_get (set xs i x) j ≡ slice_get xs j
    by_place (inl within) =
        slice_get-get_or (set xs i x) j x (subst (λ n. j < n) (sym same) within) ∙ ap Some (get_or-set_other xs i j x x apart) ∙ sym (slice_get-get_or xs j x within)
    by_place (inr past) =
        slice_get_past (set xs i x) j (subst (λ n. n ≤ j) (sym same) past) ∙ sym (slice_get_past xs j past)
