-- Rows of numbers, one for each counter (own).
use Rattle.std.specs.Prelude.{ℕ, ◌+◌, max, List, [], ◌∷◌, replicate, slice_index, slice_set}

-- nothing at any place
abbrev pub NOTHING : List ℕ
NOTHING = replicate 8 0

-- two rows added up, place by place
abbrev pub added : List ℕ → List ℕ → List ℕ
added [] ys = ys
added (x ∷ xs) [] = x ∷ xs
added (x ∷ xs) (y ∷ ys) = (x + y) ∷ added xs ys

-- the greater number at each place
abbrev pub greatest : List ℕ → List ℕ → List ℕ
greatest [] ys = ys
greatest (x ∷ xs) [] = x ∷ xs
greatest (x ∷ xs) (y ∷ ys) = (max x y) ∷ greatest xs ys

-- one more at a place
abbrev pub raised : List ℕ → ℕ → List ℕ
raised row place = slice_set row place (slice_index row place + 1)
