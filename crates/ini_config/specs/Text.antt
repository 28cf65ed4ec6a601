-- Blanks, pairs and numbers in a settings file (own grammar).
use Rattle.std.specs.Prelude.{ℕ, Bool, not, ◌&&◌, ◌||◌, ◌==◌, nat_lt, nat_le, if◌then◌else◌, List, [], ◌∷◌, length, filter, reverse, slice_index, Result, Ok, Err}
use Rattle.std.specs.Char.{is_ascii_digit, is_ascii_alphanumeric}
use Rattle.std.specs.List.{slice_split, before_first, after_first, list_any, list_all}
use Rattle.std.specs.Str.Parse.{digits_value}
use Rattle.ini_config.specs.declared.fault.IniCode.{IniCode}
use Rattle.ini_config.specs.declared.fault.IniCode.TheVariants.{BadLine, BadNumber, OutOfRange}

-- a space or a tab
abbrev pub is_blank : ℕ → Bool
is_blank b = (b == 32) || (b == 9)

-- without the blanks at the front
abbrev pub trim_front : List ℕ → List ℕ
trim_front [] = []
trim_front (b ∷ bs) = if is_blank b then trim_front bs else b ∷ bs

-- without the blanks at the end
abbrev pub trim_back : List ℕ → List ℕ
trim_back bs = reverse (trim_front (reverse bs))

-- without the blanks at both ends
abbrev pub trimmed : List ℕ → List ℕ
trimmed bs = trim_back (trim_front bs)

-- whether the text is empty
abbrev pub is_empty : List ℕ → Bool
is_empty bs = length bs == 0

-- the words between blanks
unfoldable pub words : List ℕ → List (List ℕ)
words bs = filter (λ w. not (is_empty w)) (slice_split is_blank bs)

-- `=`
abbrev pub is_equals : ℕ → Bool
is_equals b = b == 61

-- the text before the first `=`, and the text after it
unfoldable pub cut_at_equals : List ℕ → Result (List ℕ × List ℕ) IniCode
cut_at_equals bs = if list_any is_equals bs
    then Ok (before_first is_equals bs, after_first is_equals bs)
    else Err BadLine

-- a name and a value, neither empty
unfoldable pub pair_of : List ℕ → List ℕ → Result (List ℕ × List ℕ) IniCode
pair_of name value = if is_empty name || is_empty value then Err BadLine else Ok (name, value)

-- a letter or digit of ASCII, or `_`
abbrev pub is_key_byte : ℕ → Bool
is_key_byte b = is_ascii_alphanumeric b || (b == 95)

-- one decimal digit or more
abbrev pub is_digits : List ℕ → Bool
is_digits bs = not (is_empty bs) && list_all is_ascii_digit bs

-- decimal digits, without leading zeros
abbrev pub is_number : List ℕ → Bool
is_number bs = is_digits bs && not ((slice_index bs 0 == 48) && nat_lt 1 (length bs))

-- the number that the text is, within its range
unfoldable pub number_in : ℕ → ℕ → List ℕ → Result ℕ IniCode
number_in low high bs =
    if is_number bs
    then (if nat_le low (digits_value 10 bs) && nat_le (digits_value 10 bs) high
    then Ok (digits_value 10 bs)
    else Err OutOfRange)
    else Err BadNumber
