-- Values at places.
use Rattle.std.proofs.Common.{◌≡◌, ℕ, zero, suc, ◌+◌, Bool, cond, ◌||◌, Some, List, [], ◌∷◌, map, set, refl, ap}
use Rattle.std.specs.List.{AllByRecursion, position_from, list_any}

-- what holds of each holds once one is put in place of another
pub all_set : {A : Type 0} (P : A → Type 0) (xs : List A) (place : ℕ) (x : A) → AllByRecursion P xs → P x → AllByRecursion P (set xs place x)
all_set P [] place x all p = tt
all_set P (y ∷ ys) zero x all p = (p, all.1)
all_set P (y ∷ ys) (suc place) x all p = (all.0, all_set P ys place x all.1 p)

-- the place of the first that passes, in a list and in what it was made of
pub position_from-map : {A B : Type 0} (f : A → B) (test : B → Bool) (i : ℕ) (xs : List A) → position_from (λ x. test (f x)) i xs ≡ position_from test i (map f xs)
position_from-map f test i [] = refl
position_from-map f test i (x ∷ xs) = ap (cond (test (f x)) (Some i)) (position_from-map f test (i + 1) xs)

-- whether some pass
pub list_any-map : {A B : Type 0} (f : A → B) (test : B → Bool) (xs : List A) → list_any (λ x. test (f x)) xs ≡ list_any test (map f xs)
list_any-map f test [] = refl
list_any-map f test (x ∷ xs) = ap (λ (b : Bool). test (f x) || b) (list_any-map f test xs)
