-- Keys and rows with keys, as lists (own).
use Rattle.std.specs.Prelude.{ℕ, ◌≡◌, List, Some, slice_get}

-- keys in the order of their coming, and for how many more there is room
pub record Keys (K : Type 0) : Type 0 where
  pub keys : List K
  pub room : ℕ

-- rows in the order of their making, and for how many more there is room
pub record Rows (R : Type 0) : Type 0 where
  pub rows : List R
  pub room : ℕ

-- at this place there is a row with this key
pub record IsFound {R K : Type 0} (key_of : R → K) (rows : List R) (place : ℕ)
    (key : K) : Type 0 where
  pub row : R
  pub there : slice_get rows place ≡ Some row
  pub of : key_of row ≡ key
