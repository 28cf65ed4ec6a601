-- Names that are pairwise distinct (internal).
use Rattle.std.specs.Prelude.{ℕ, bytes_eq, List}
use Rattle.std.specs.Borrow.{Bor}
use Rattle.std.specs.List.{IsDistinct}

-- no name stands at two places
abbrev pub AreDistinct : List (Bor (List ℕ)) → Type 0
AreDistinct names = IsDistinct (λ a b. bytes_eq a.now b.now) names
