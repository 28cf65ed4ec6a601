-- Lists that a loop goes over, one place further.
use Rattle.std.proofs.Common.{◌≡◌, ℕ, zero, suc, ◌+◌, ◌≤◌, List, [], ◌∷◌, ◌++◌, Bool, map, take, slice_get, None, refl, ap, sym, ◌∙◌, arith, append_assoc, add-one}
use Rattle.std.specs.List.{flat_map, filter}
use Rattle.std.specs.Option.{option_to_list}
use Rattle.std.proofs.lemmas.List.{map-append}
use Rattle.std.proofs.lemmas.List.Concat.{flat_map-append}
use Rattle.std.proofs.lemmas.List.Elements.{filter-append}

take_next : {X : Type 0} (xs : List X) (i : ℕ) → take (suc i) xs ≡ take i xs ++ option_to_list (slice_get xs i)
take_next [] zero = refl
take_next [] (suc i) = refl
take_next (x ∷ xs) zero = refl
take_next (x ∷ xs) (suc i) = ap (λ l. x ∷ l) (take_next xs i)

-- the list so far, with what is at the next place
take_more : {X : Type 0} (xs : List X) (i : ℕ) → take (i + 1) xs ≡ take i xs ++ option_to_list (slice_get xs i)
take_more xs i = ap (λ n. take n xs) (add-one i) ∙ take_next xs i

-- nothing follows where nothing is at a place
pub take_end : {X : Type 0} (xs : List X) (i n : ℕ) → slice_get xs i ≡ None → i ≤ n → take i xs ≡ take n xs
take_end [] zero zero e h = refl
take_end [] zero (suc n) e h = refl
take_end [] (suc i) zero e h = refl
take_end [] (suc i) (suc n) e h = refl
take_end (x ∷ xs) zero n e h = cc
take_end (x ∷ xs) (suc i) zero e h = let never : ⊥ = omega arith in absurd never
take_end (x ∷ xs) (suc i) (suc n) e h = ap (λ l. x ∷ l) (take_end xs i n e (omega arith))

-- the lists of all entries so far, with that of the next one
pub flat_map_next : {X Y : Type 0} (f : X → List Y) (xs : List X) (i : ℕ) → flat_map f (take (i + 1) xs) ≡ flat_map f (take i xs) ++ flat_map f (option_to_list (slice_get xs i))
flat_map_next f xs i = ap (flat_map f) (take_more xs i) ∙ flat_map-append f (take i xs) (option_to_list (slice_get xs i))

-- of the entries so far those that pass, with the next one if it does
pub filter_next : {X : Type 0} (p : X → Bool) (xs : List X) (i : ℕ) → filter p (take (i + 1) xs) ≡ filter p (take i xs) ++ filter p (option_to_list (slice_get xs i))
filter_next p xs i = ap (filter p) (take_more xs i) ∙ filter-append p (take i xs) (option_to_list (slice_get xs i))

-- what stands for a list so far, with what stands for the next part
pub joined : {X Y : Type 0} (f : X → Y) (start before after : List Y) (xs next all : List X) → before ≡ start ++ map f xs → after ≡ before ++ map f next → all ≡ xs ++ next → after ≡ start ++ map f all
joined f start before after xs next all was is parts =
    is ∙ ap (λ l. l ++ map f next) was ∙ append_assoc start (map f xs) (map f next)
    ∙ ap (λ l. start ++ l) (sym (map-append f xs next) ∙ ap (map f) (sym parts))
