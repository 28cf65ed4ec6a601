-- Number of the refusal where no slot is free, 30 (own).
use Rattle.std.specs.Prelude.{ℕ}

-- no slot is free
abbrev pub FULL : ℕ
FULL = 30
