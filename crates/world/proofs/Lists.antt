-- Lists by place, once one place was written or one more thing was added.
use Rattle.std.proofs.Common.{◌≡◌, ◌≢◌, ℕ, zero, suc, ◌<◌, ◌⊎◌, inl, inr, List, [], ◌∷◌, ◌++◌, Some, length, map, refl, ap, sym, ◌∙◌, arith}
use Rattle.std.proofs.Math.ListN.{set}
use Rattle.std.specs.List.{slice_get}
use Rattle.std.proofs.lemmas.Option.{same_Some, none-some}

-- what is written at a place is there, if anything was
pub set_here : {X : Type 0} (xs : List X) (i : ℕ) (x y : X) → slice_get xs i ≡ Some x
    → slice_get (set xs i y) i ≡ Some y
set_here [] i x y h = absurd (none-some x h)
set_here (z ∷ zs) zero x y h = refl
set_here (z ∷ zs) (suc i) x y h = set_here zs i x y h

-- another place is as before
pub set_there : {X : Type 0} (xs : List X) (i j : ℕ) (y : X) → j ≢ i
    → slice_get (set xs i y) j ≡ slice_get xs j
set_there [] i j y h = refl
set_there (z ∷ zs) zero zero y h = absurd (h refl)
set_there (z ∷ zs) zero (suc j) y h = refl
set_there (z ∷ zs) (suc i) zero y h = refl
set_there (z ∷ zs) (suc i) (suc j) y h = set_there zs i j y (λ e. h (ap suc e))

-- what is at a place was there, or was written there
pub set_cases : {X : Type 0} (xs : List X) (i j : ℕ) (x y : X) → slice_get (set xs i y) j ≡ Some x
    → ((j ≢ i) × (slice_get xs j ≡ Some x)) ⊎ ((j ≡ i) × (x ≡ y))
set_cases [] i j x y h = absurd (none-some x h)
set_cases (z ∷ zs) zero zero x y h = inr (refl, sym (same_Some y x h))
set_cases (z ∷ zs) zero (suc j) x y h = inl ((λ e. absurd (omega (arith, e))), h)
set_cases (z ∷ zs) (suc i) zero x y h = inl ((λ e. absurd (omega (arith, e))), h)
set_cases (z ∷ zs) (suc i) (suc j) x y h = set_later i j (set_cases zs i j x y h)
  where
    set_later : {A B : Type 0} (i j : ℕ) → ((j ≢ i) × A) ⊎ ((j ≡ i) × B)
        → ((suc j ≢ suc i) × A) ⊎ ((suc j ≡ suc i) × B)
    set_later i j (inl h) = inl ((λ e. h.0 (omega (arith, e))), h.1)
    set_later i j (inr h) = inr (ap suc h.0, h.1)

-- what was there is there still, once one more was added
pub kept_behind : {X : Type 0} (xs ys : List X) (i : ℕ) (x : X) → slice_get xs i ≡ Some x
    → slice_get (xs ++ ys) i ≡ Some x
kept_behind [] ys i x h = absurd (none-some x h)
kept_behind (z ∷ zs) ys zero x h = h
kept_behind (z ∷ zs) ys (suc i) x h = kept_behind zs ys i x h

-- what is there was there, or is the one that was added
pub added_cases : {X : Type 0} (xs : List X) (y : X) (i : ℕ) (x : X)
    → slice_get (xs ++ y ∷ []) i ≡ Some x
    → (slice_get xs i ≡ Some x) ⊎ ((i ≡ length xs) × (x ≡ y))
added_cases [] y zero x h = inr (refl, sym (same_Some y x h))
added_cases [] y (suc i) x h = absurd (none-some x h)
added_cases (z ∷ zs) y zero x h = inl h
added_cases (z ∷ zs) y (suc i) x h = added_later i (length zs) (added_cases zs y i x h)
  where
    added_later : {A B : Type 0} (i n : ℕ) → A ⊎ ((i ≡ n) × B) → A ⊎ ((suc i ≡ suc n) × B)
    added_later i n (inl h) = inl h
    added_later i n (inr h) = inr (ap suc h.0, h.1)

-- the one that was added is last
pub added_last : {X : Type 0} (xs : List X) (y : X)
    → slice_get (xs ++ y ∷ []) (length xs) ≡ Some y
added_last [] y = refl
added_last (z ∷ zs) y = added_last zs y

-- what is there is before the end
pub before_end : {X : Type 0} (xs : List X) (i : ℕ) (x : X) → slice_get xs i ≡ Some x
    → i < length xs
before_end [] i x h = absurd (none-some x h)
before_end (z ∷ zs) zero x h = omega arith
before_end (z ∷ zs) (suc i) x h = let below = before_end zs i x h in omega (arith, below)

-- of each thing what is read of it
pub read_map : {X Y : Type 0} (f : X → Y) (xs : List X) (i : ℕ) (x : X) → slice_get xs i ≡ Some x
    → slice_get (map f xs) i ≡ Some (f x)
read_map f [] i x h = absurd (none-some x h)
read_map f (z ∷ zs) zero x h = ap (λ y. Some (f y)) (same_Some z x h)
read_map f (z ∷ zs) (suc i) x h = read_map f zs i x h

pub from_map : {X Y : Type 0} (f : X → Y) (xs : List X) (i : ℕ) (y : Y)
    → slice_get (map f xs) i ≡ Some y → (x : X) × (slice_get xs i ≡ Some x) × (f x ≡ y)
from_map f [] i y h = absurd (none-some y h)
from_map f (z ∷ zs) zero y h = (z, refl, same_Some (f z) y h)
from_map f (z ∷ zs) (suc i) y h = from_map f zs i y h

-- a write that changes nothing of what is read
pub same_map : {X Y : Type 0} (f : X → Y) (xs : List X) (i : ℕ) (x y : X) → slice_get xs i ≡ Some x
    → f y ≡ f x → map f (set xs i y) ≡ map f xs
same_map f [] i x y h e = refl
same_map f (z ∷ zs) zero x y h e =
    ap (λ k. k ∷ map f zs) (e ∙ ap f (sym (same_Some z x h)))
same_map f (z ∷ zs) (suc i) x y h e = ap (λ ks. f z ∷ ks) (same_map f zs i x y h e)

-- a write changes what is read at its place alone
pub map_write : {X Y : Type 0} (f : X → Y) (xs : List X) (i : ℕ) (y : X)
    → map f (set xs i y) ≡ set (map f xs) i (f y)
map_write f [] i y = refl
map_write f (z ∷ zs) zero y = refl
map_write f (z ∷ zs) (suc i) y = ap (λ ks. f z ∷ ks) (map_write f zs i y)

pub map_added : {X Y : Type 0} (f : X → Y) (xs : List X) (y : X)
    → map f (xs ++ y ∷ []) ≡ map f xs ++ f y ∷ []
map_added f [] y = refl
map_added f (z ∷ zs) y = ap (λ ks. f z ∷ ks) (map_added f zs y)

pub map_long : {X Y : Type 0} (f : X → Y) (xs : List X) → length (map f xs) ≡ length xs
map_long f [] = refl
map_long f (z ∷ zs) = ap suc (map_long f zs)
