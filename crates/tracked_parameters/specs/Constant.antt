-- String constants with C-style escapes (PostgreSQL manual, "String Constants with C-Style
-- Escapes"), what stands between their quotes: `ReadsAs value text`. Octal and Unicode escapes, and
-- those that are one letter, are left out: a text with such an escape reads as nothing here.
use Rattle.std.specs.Prelude.{ℕ, ◌≡◌, ◌≢◌, ◌+◌, ◌*◌, ◌<◌, ◌≤◌, ◌⊎◌, List, [], ◌∷◌, ◌++◌, codes}

-- a hexadecimal digit, in either case, and its value
abbrev pub IsHexDigit : ℕ → ℕ → Type 0
IsHexDigit digit value =
    ((value < 10) × (digit ≡ 48 + value))
    ⊎ ((10 ≤ value) × (value < 16) × ((digit ≡ 87 + value) ⊎ (digit ≡ 55 + value)))

-- a backslash, `x`, and two hexadecimal digits: the byte of this value
pub record IsHexEscape (byte : ℕ) (piece : List ℕ) : Type 0 where
  pub first : ℕ
  pub second : ℕ
  pub high : ℕ
  pub low : ℕ
  pub first_is : IsHexDigit first high
  pub second_is : IsHexDigit second low
  pub byte_is : byte ≡ 16 * high + low
  pub spelled : piece ≡ codes "\\x" ++ first ∷ second ∷ []

-- what may stand for a byte: the byte itself, unless it is a quote or a backslash; two quotes for
-- one; a backslash before a quote or a backslash; the hexadecimal escape
abbrev pub IsPiece : ℕ → List ℕ → Type 0
IsPiece byte piece =
    ((byte ≢ 39) × (byte ≢ 92) × (piece ≡ byte ∷ []))
    ⊎ ((byte ≡ 39) × (piece ≡ codes "''"))
    ⊎ (((byte ≡ 39) ⊎ (byte ≡ 92)) × (piece ≡ 92 ∷ byte ∷ []))
    ⊎ IsHexEscape byte piece

-- the text stands for the value, piece by piece
abbrev pub ReadsAs : List ℕ → List ℕ → Type 0
ReadsAs [] text = text ≡ []
ReadsAs (byte ∷ value) text =
    (piece : List ℕ) × (rest : List ℕ) × IsPiece byte piece × (text ≡ piece ++ rest)
    × ReadsAs value rest
