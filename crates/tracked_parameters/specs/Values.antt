-- Values of the parameters that are tracked, of each in the order of the names, or none where none
-- is known (own).
use Rattle.std.specs.Prelude.{ℕ, ◌≡◌, ◌≢◌, ◌<◌, List, [], ◌∷◌, ◌++◌, take, drop, length, get_or, slice_set, replicate, Option, Some, None, IfSome, IsNone, option_and_then}
use Rattle.std.specs.List.{AllByRecursion, position_from}
use Rattle.startup.specs.Replies.{Report}
use Rattle.tracked_parameters.specs.Names.{alike}

-- there is a place for each name
abbrev pub Fit : List (List ℕ) → List (Option (List ℕ)) → Type 0
Fit names values = length values ≡ length names

-- bytes, and none is zero
abbrev pub IsText : List ℕ → Type 0
IsText value = AllByRecursion (λ byte. (byte ≢ 0) × (byte < 256)) value

-- each value is a text
abbrev pub AreTexts : List (Option (List ℕ)) → Type 0
AreTexts values = AllByRecursion (λ value. IfSome value IsText) values

-- nothing is known
abbrev pub no_values : List (List ℕ) → List (Option (List ℕ))
no_values names = replicate (length names) None

-- the place of a name, none if it isn't tracked
abbrev pub place_of : List (List ℕ) → List ℕ → Option ℕ
place_of names name = position_from (λ one. alike one name) 0 names

-- the value of a parameter, none if none is known or it isn't tracked
abbrev pub value_of : List (List ℕ) → List (Option (List ℕ)) → List ℕ → Option (List ℕ)
value_of names values name = option_and_then (λ place. get_or values place None) (place_of names name)

-- the values with this one at this place, or as they were where there is no place
abbrev pub with_value : Option ℕ → List ℕ → List (Option (List ℕ)) → List (Option (List ℕ))
with_value None value values = values
with_value (Some place) value values = slice_set values place (Some value)

-- the values once a parameter has this value: it takes the place of the old one, and nothing else
-- changes; a parameter that isn't tracked changes nothing
abbrev pub noted : List (List ℕ) → Report → List (Option (List ℕ)) → List (Option (List ℕ))
noted names report values = with_value (place_of names report.name) report.value values

-- each value that is wanted is there; where none is wanted any may be
abbrev pub Agree : List (Option (List ℕ)) → List (Option (List ℕ)) → Type 0
Agree [] present = Unit {0}
Agree (value ∷ wanted) [] = IsNone value × Agree wanted []
Agree (value ∷ wanted) (there ∷ present) =
    IfSome value (λ v. there ≡ Some v) × Agree wanted present

-- a value that is wanted, as a connection has it, if it has one
abbrev pub adopted_one : Option (List ℕ) → Option (List ℕ) → Option (List ℕ)
adopted_one None there = None
adopted_one (Some value) None = Some value
adopted_one (Some value) (Some there) = Some there

-- the values that are wanted, as a connection has them
abbrev pub adopted : List (Option (List ℕ)) → List (Option (List ℕ)) → List (Option (List ℕ))
adopted [] present = []
adopted (value ∷ wanted) [] = value ∷ wanted
adopted (value ∷ wanted) (there ∷ present) = adopted_one value there ∷ adopted wanted present

-- the same for the first so many of them
abbrev pub adopted_first : ℕ → List (Option (List ℕ)) → List (Option (List ℕ)) → List (Option (List ℕ))
adopted_first count wanted present = take count (adopted wanted present) ++ drop count wanted
