-- Bytes in memory, and for how many there is memory (internal).
use Rattle.std.specs.Prelude.{ℕ, List}

-- these bytes, in memory for so many
pub record Stored : Type 0 where
  pub items : List ℕ
  pub size : ℕ

abbrev pub holding : List ℕ → ℕ → Stored
holding items size = record { items = items; size = size }
