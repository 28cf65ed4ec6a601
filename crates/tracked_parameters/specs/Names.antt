-- The names of the parameters that are tracked (own), and when two names are one (PostgreSQL:
-- parameter names are compared without regard to the case of ASCII letters).
use Rattle.std.specs.Prelude.{ℕ, ◌≡◌, Bool, true, false, not, ◌==◌, ◌||◌, ◌&&◌, List, [], ◌∷◌, codes, if◌then◌else◌, Option, Some, None}
use Rattle.std.specs.Str.{str_eq_ignore_ascii_case}
use Rattle.std.specs.Char.{is_ascii_alphanumeric, is_ascii_digit}
use Rattle.std.specs.List.{AllByRecursion, IsDistinct, list_all, list_any}
use Rattle.tracked_parameters.specs.declared.name_error.NameError.{NameError}
use Rattle.tracked_parameters.specs.declared.name_error.NameError.TheVariants.{Form, Twice}

-- the two are names of one parameter
abbrev pub alike : List ℕ → List ℕ → Bool
alike name other = str_eq_ignore_ascii_case name other

-- the parameters that are always tracked, in this order
abbrev pub standard : List (List ℕ)
standard =
    codes "client_encoding" ∷ codes "DateStyle" ∷ codes "IntervalStyle" ∷ codes "TimeZone"
    ∷ codes "standard_conforming_strings" ∷ codes "application_name" ∷ []

-- an ASCII letter or digit, `_` or `.`
abbrev pub is_name_byte : ℕ → Bool
is_name_byte byte = is_ascii_alphanumeric byte || (byte == 95 || byte == 46)

-- a name that may be tracked: not empty, of these bytes, and not beginning with a digit
abbrev pub is_name : List ℕ → Bool
is_name [] = false
is_name (byte ∷ bytes) = not (is_ascii_digit byte) && list_all is_name_byte (byte ∷ bytes)

-- the name is that of one of these
abbrev pub is_among : List ℕ → List (List ℕ) → Bool
is_among name names = list_any (λ one. alike one name) names

-- why a further name isn't tracked beside these: the first of these reasons that is there
unfoldable pub refusal : List (List ℕ) → List ℕ → Option NameError
refusal names name =
    if not (is_name name) then Some Form
    else (if is_among name names then Some Twice else None)

-- names that may be tracked together
pub record AreNames (names : List (List ℕ)) : Type 0 where
  pub formed : AllByRecursion (λ name. is_name name ≡ true) names
  pub once : IsDistinct (λ one other. alike one other) names
