-- The query that gives a server connection the values that are wanted (PostgreSQL manual, SET, and
-- "Message Formats": Query). Which parameters it sets: `differing`. What its text is: `AreSettings`.
use Rattle.std.specs.Prelude.{ℕ, ◌≡◌, ◌≢◌, ◌+◌, ◌^◌, ◌<◌, ◌≤◌, List, [], ◌∷◌, ◌++◌, codes, length, bytes_eq, if◌then◌else◌, Option, Some, None}
use Rattle.std.specs.List.{AllByRecursion}
use Rattle.startup.specs.Replies.{Report, message, zero_ended}
use Rattle.tracked_parameters.specs.Constant.{ReadsAs}

-- the setting of one parameter, if a value is wanted and another or none is there
abbrev pub difference : List ℕ → Option (List ℕ) → Option (List ℕ) → List Report
difference name None there = []
difference name (Some value) None = record { name = name; value = value } ∷ []
difference name (Some value) (Some there) =
    if bytes_eq there value then [] else record { name = name; value = value } ∷ []

-- the settings of all that differ, in the order of the names
abbrev pub differing : List (List ℕ) → List (Option (List ℕ)) → List (Option (List ℕ)) → List Report
differing [] wanted present = []
differing (name ∷ names) [] present = []
differing (name ∷ names) (value ∷ wanted) [] = []
differing (name ∷ names) (value ∷ wanted) (there ∷ present) =
    difference name value there ++ differing names wanted present

-- the text sets this parameter to this value, and its constant reads as no other. In it no quote
-- stands before the one that ends it
pub record IsSetting (setting : Report) (text : List ℕ) : Type 0 where
  pub inside : List ℕ
  pub spelled : text ≡ codes "SET " ++ (setting.name ++ (codes " = E'" ++ (inside ++ codes "'")))
  pub reads : ReadsAs setting.value inside
  pub only : (value : List ℕ) → ReadsAs value inside → value ≡ setting.value
  pub closed : AllByRecursion (λ byte. byte ≢ 39) inside

-- the text has these settings, in order, and nothing else
abbrev pub AreSettings : List Report → List ℕ → Type 0
AreSettings [] text = text ≡ []
AreSettings (setting ∷ []) text = IsSetting setting text
AreSettings (setting ∷ next ∷ settings) text =
    (front : List ℕ) × (rest : List ℕ) × IsSetting setting front
    × (text ≡ front ++ (codes "; " ++ rest)) × AreSettings (next ∷ settings) rest

-- a printable ASCII byte, which is the same in each encoding that PostgreSQL knows
abbrev pub IsPrintable : ℕ → Type 0
IsPrintable byte = (32 ≤ byte) × (byte < 127)

-- Query
abbrev pub query : List ℕ → List ℕ
query text = message 81 (zero_ended text)

-- the bytes are one Query message, whose length fits its field, which has these settings and sets nothing else
pub record IsSettingsQuery (settings : List Report) (bytes : List ℕ) : Type 0 where
  pub text : List ℕ
  pub some : settings ≢ []
  pub are : AreSettings settings text
  pub printable : AllByRecursion IsPrintable text
  pub message : bytes ≡ query text
  pub fits : 5 + length text < 2 ^ 32
