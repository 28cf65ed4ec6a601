-- The `options` of a StartupMessage: arguments as on the command line of a server (PostgreSQL manual,
-- "Parameter Interaction via the Shell", and libpq's `options`). White space separates arguments; a
-- backslash makes the next byte one of its argument, whatever it is. An argument sets a parameter as
-- `-c name=value`, `-cname=value` or `--name=value`, where `-` in the name stands for `_`. Others
-- set nothing here (own).
use Rattle.std.specs.Prelude.{ℕ, ◌+◌, ◌==◌, ◌||◌, Bool, true, false, List, [], ◌∷◌, ◌++◌, map, take, drop, codes, bytes_eq, nat_eq, if◌then◌else◌, Option, Some, None}
use Rattle.std.specs.Int.{is_in_range}
use Rattle.std.specs.List.{position_from, starts_with}
use Rattle.startup.specs.Replies.{Report}

-- C's white space: tab, line feed, vertical tab, form feed, carriage return, space
abbrev pub is_space : ℕ → Bool
is_space byte = is_in_range 9 13 byte || byte == 32

-- what a byte that no backslash precedes is: none for white space between arguments
abbrev pub mark : ℕ → Option ℕ
mark byte = if is_space byte then None else Some byte

-- the bytes of arguments and what is between them; `escaped` says that a backslash precedes
abbrev pub marks : Bool → List ℕ → List (Option ℕ)
marks escaped [] = []
marks true (byte ∷ bytes) = Some byte ∷ marks false bytes
marks false (byte ∷ bytes) = if byte == 92 then marks true bytes else mark byte ∷ marks false bytes

-- an argument, unless it is empty
abbrev pub whole : List ℕ → List (List ℕ)
whole [] = []
whole (byte ∷ bytes) = (byte ∷ bytes) ∷ []

-- the arguments, of which the first has begun so
abbrev pub arguments_from : List ℕ → List (Option ℕ) → List (List ℕ)
arguments_from begun [] = whole begun
arguments_from begun (None ∷ marks) = whole begun ++ arguments_from [] marks
arguments_from begun (Some byte ∷ marks) = arguments_from (begun ++ byte ∷ []) marks

-- the arguments
abbrev pub arguments : List ℕ → List (List ℕ)
arguments text = arguments_from [] (marks false text)

-- `-` in a name stands for `_`
abbrev pub underscored : ℕ → ℕ
underscored byte = if byte == 45 then 95 else byte

abbrev pub is_equals : ℕ → Bool
is_equals byte = byte == 61

-- the setting whose `=` stands at this place, none where there is no `=`
abbrev pub assigned : List ℕ → Option ℕ → List Report
assigned text None = []
assigned text (Some place) =
    record { name = map underscored (take place text); value = drop (place + 1) text } ∷ []

-- `name=value`: the name is what stands before the first `=`
abbrev pub assignment : List ℕ → List Report
assignment text = assigned text (position_from is_equals 0 text)

-- `-cname=value` or `--name=value`
abbrev pub attached : List ℕ → List Report
attached argument =
    if starts_with nat_eq argument (codes "-c") || starts_with nat_eq argument (codes "--")
    then assignment (drop 2 argument) else []

-- the settings in arguments, in order; `awaited` says that a `-c` precedes, which takes the next one
abbrev pub settings_in : Bool → List (List ℕ) → List Report
settings_in awaited [] = []
settings_in true (argument ∷ arguments) = assignment argument ++ settings_in false arguments
settings_in false (argument ∷ arguments) =
    if bytes_eq argument (codes "-c") then settings_in true arguments
    else attached argument ++ settings_in false arguments
