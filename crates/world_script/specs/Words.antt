-- Words, numbers and keys of a script (own grammar).
use Rattle.std.specs.Prelude.{ℕ, ◌^◌, Bool, ◌&&◌, ◌==◌, nat_lt, nat_le, if◌then◌else◌, List, [], length, codes, Option, Some, None}
use Rattle.std.specs.List.{slice_split}
use Rattle.std.specs.Result.{result_ok}
use Rattle.std.specs.Str.{bytes_eq}
use Rattle.std.specs.Str.Parse.{digits_value}
use Rattle.hex.specs.Hex.{decode_of, decode_sized}
use Rattle.ini_config.specs.Text.{is_digits}

-- a value is needed before what follows it
infixl 10 ◌>>=◌
abbrev pub ◌>>=◌ : {A B : Type 0} → Option A → (A → Option B) → Option B
None >>= f = None
(Some x) >>= f = f x

-- the words of a line, between single spaces (32)
abbrev pub words : List ℕ → List (List ℕ)
words line = slice_split (λ byte. byte == 32) line

-- 1 to 10 decimal digits; zeros may lead
abbrev pub is_numeral : List ℕ → Bool
is_numeral word = nat_le (length word) 10 && is_digits word

-- a number, below 2^32
unfoldable pub number_of : List ℕ → Option ℕ
number_of word = if is_numeral word && nat_lt (digits_value 10 word) (2 ^ 32)
    then Some (digits_value 10 word)
    else None

-- a number within its range
unfoldable pub number_from : ℕ → ℕ → List ℕ → Option ℕ
number_from low high word = number_of word
    >>= λ n. if nat_le low n && nat_le n high then Some n else None

-- the number of a node line
abbrev pub node_number : List ℕ → Option ℕ
node_number word = number_from 0 16383 word

-- a server's key, in 16 hexadecimal digits
abbrev pub key_of : List ℕ → Option (List ℕ)
key_of word = result_ok (decode_sized word 8)

-- at most 64 bytes, two hexadecimal digits each; none is `-`
unfoldable pub bytes_of : List ℕ → Option (List ℕ)
bytes_of word = if bytes_eq word (codes "-") then Some []
    else (if nat_lt 128 (length word) then None
    else result_ok (decode_of word))
