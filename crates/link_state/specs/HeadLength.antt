-- The length field of a message (PostgreSQL manual, "Messaging Overview").
use Rattle.std.specs.Prelude.{ℕ, ◌<◌, List, drop, slice_index}
use Rattle.byteorder.specs.Endian.{big_number}

-- what stands in it, behind the type byte
abbrev pub length_in : List ℕ → ℕ
length_in bytes = big_number 4 (drop 1 bytes)

-- each is a byte
abbrev pub AreBytes : List ℕ → Type 0
AreBytes bytes = (i : ℕ) → slice_index bytes i < 256
