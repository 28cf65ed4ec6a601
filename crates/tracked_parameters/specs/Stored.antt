-- Names and values as they are kept, and the text that is written for them (internal).
use Rattle.std.specs.Prelude.{ℕ, ◌||◌, ◌&&◌, ◌/◌, ◌%◌, ◌+◌, Bool, true, false, ◌==◌, bytes_eq, List, [], ◌∷◌, ◌++◌, codes, map, flat_map, nat_lt, if◌then◌else◌, Option, Some, None, String}
use Rattle.std.specs.Char.{is_ascii_alphanumeric}
use Rattle.std.specs.String.{string_bytes}
use Rattle.std.specs.declared.alloc.Global.{Global}
use Rattle.startup.specs.Replies.{Report}
use Rattle.tracked_parameters.specs.declared.value.Value.{Value}

-- the names that are kept
abbrev pub all_names : List (String Global) → List (List ℕ)
all_names names = map string_bytes names

-- a value that is kept, and all of them
abbrev pub kept : Value → Option (List ℕ)
kept value = if value.known then Some value.bytes.items else None

abbrev pub all_kept : List Value → List (Option (List ℕ))
all_kept values = map kept values

-- the value that is wanted, if one is, is there
abbrev pub is_there : Option (List ℕ) → Option (List ℕ) → Bool
is_there None there = true
is_there (Some value) None = false
is_there (Some value) (Some other) = bytes_eq other value

-- each of them is
abbrev pub all_there : List (Option (List ℕ)) → List (Option (List ℕ)) → Bool
all_there [] present = true
all_there (value ∷ wanted) [] = is_there value None && all_there wanted []
all_there (value ∷ wanted) (there ∷ present) = is_there value there && all_there wanted present

-- one of the marks that stand for themselves
abbrev pub is_mark : ℕ → Bool
is_mark byte =
    byte == 32 || (byte == 44 || (byte == 45 || (byte == 46 || (byte == 47 || (byte == 58 || byte == 95)))))

-- a byte that stands for itself: a letter, a digit, or one of these marks
abbrev pub is_plain : ℕ → Bool
is_plain byte = is_ascii_alphanumeric byte || is_mark byte

-- a digit of this value
abbrev pub hex_digit : ℕ → ℕ
hex_digit value = if nat_lt value 10 then 48 + value else 87 + value

-- what is written for a byte
unfoldable pub piece : ℕ → List ℕ
piece byte =
    if is_plain byte then byte ∷ []
    else 92 ∷ 120 ∷ hex_digit (byte / 16) ∷ hex_digit (byte % 16) ∷ []

-- what is written for a setting
abbrev pub written : Report → List ℕ
written report =
    codes "SET " ++ (report.name ++ (codes " = E'" ++ (flat_map piece report.value ++ codes "'")))

-- the same with a separator, where others stand before it
abbrev pub next : List ℕ → Report → List ℕ
next [] report = written report
next (byte ∷ bytes) report = (byte ∷ bytes) ++ (codes "; " ++ written report)

-- a text with these settings behind it
abbrev pub joined : List ℕ → List Report → List ℕ
joined text [] = text
joined text (report ∷ reports) = joined (next text report) reports

-- and for several
abbrev pub all_written : List Report → List ℕ
all_written reports = joined [] reports
