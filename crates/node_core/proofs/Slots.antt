-- What is known of each slot, once one slot of a list was written.
use Rattle.std.proofs.Common.{◌≡◌, ℕ, zero, suc, List, [], ◌∷◌, Option, Some, refl}
use Rattle.std.proofs.Math.ListN.{set}
use Rattle.std.specs.List.{slice_get}

-- what is true at each place stays true, if it is true of what was written
pub set_at : {X : Type 0} (P : ℕ → Option X → Type 0) (xs : List X) (i : ℕ) (x : X)
    → ((was : X) → slice_get xs i ≡ Some was → P i (Some x)) → ((s : ℕ) → P s (slice_get xs s))
    → (s : ℕ) → P s (slice_get (set xs i x) s)
set_at P [] i x here all s = all s
set_at P (y ∷ ys) zero x here all zero = here y refl
set_at P (y ∷ ys) zero x here all (suc s) = all (suc s)
set_at P (y ∷ ys) (suc i) x here all zero = all zero
set_at P (y ∷ ys) (suc i) x here all (suc s) =
    set_at (λ k o. P (suc k) o) ys i x here (λ k. all (suc k)) s
