-- Numbers that are added to cells (internal).
use Rattle.std.specs.Prelude.{ℕ, ◌≡◌, ◌+◌, ◌%◌, ◌^◌, ◌<◌, ◌≤◌, ◌⊎◌, List, slice_index}

-- this many numbers are added to the cells from a place on
pub record AddedTo (from i : ℕ) (old numbers now : List ℕ) : Type 0 where
  pub inside : (k : ℕ) → k < i → slice_index now (from + k)
      ≡ (slice_index old (from + k) + slice_index numbers k) % 2 ^ 128
  pub beside : (p : ℕ) → (p < from) ⊎ (from + i ≤ p) → slice_index now p ≡ slice_index old p
