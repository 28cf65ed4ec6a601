-- Tests on the bytes of a message (internal).
use Rattle.std.specs.Prelude.{ℕ, Bool, false, length, ◌==◌, List, [], ◌∷◌, if◌then◌else◌}
use Rattle.std.specs.List.{list_any, count_by}

-- a zero byte, which ends a string
abbrev pub is_zero : ℕ → Bool
is_zero byte = byte == 0

-- one string that a zero byte ends: its first zero byte is its last byte
abbrev pub is_one_string : List ℕ → Bool
is_one_string [] = false
is_one_string (byte ∷ rest) = if byte == 0 then (length rest == 0) else is_one_string rest

-- how many strings stand in a text, each with the zero byte that ends it
abbrev pub strings_in : List ℕ → ℕ
strings_in text = count_by is_zero text

-- one of these types
abbrev pub is_one_of : List ℕ → ℕ → Bool
is_one_of types kind = list_any (λ type. type == kind) types
