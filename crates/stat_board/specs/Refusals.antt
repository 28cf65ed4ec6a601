-- Number of the refusal of a seat without allowance, 70 (own).
use Rattle.std.specs.Prelude.{ℕ}

-- the seat has no allowance left
abbrev pub NO_ALLOWANCE : ℕ
NO_ALLOWANCE = 70
