-- Calls at their places in a history.
use Rattle.std.proofs.Common.{◌≡◌, ℕ, zero, suc, ◌+◌, ◌<◌, ◌≤◌, List, [], ◌∷◌, ◌++◌, length, drop, Some, All, AllPairs, refl, sym, ap, ◌∙◌, subst, arith}
use Rattle.std.specs.Prelude.{slice_get}
use Rattle.std.proofs.lemmas.Option.{slice_get_within}
use Rattle.node_core.specs.declared.exchange.Exchange.{Exchange}
use Rattle.locked_node.specs.Lock.{Placed}

-- what a list has, a longer one has
get_longer : (calls : List Exchange) (call : Exchange) (place : ℕ) (at : Exchange) → slice_get calls place ≡ Some at → slice_get (calls ++ call ∷ []) place ≡ Some at
get_longer [] call place at e = absurd (let h = slice_get_within [] place at e in omega (arith, h))
get_longer (c ∷ cs) call zero at e = e
get_longer (c ∷ cs) call (suc place) at e = get_longer cs call place at e

pub get_last : (calls : List Exchange) (call : Exchange) → slice_get (calls ++ call ∷ []) (length calls) ≡ Some call
get_last [] call = refl
get_last (c ∷ cs) call = get_last cs call

pub placed_longer : (calls : List Exchange) (call : Exchange) (places : List ℕ) (made : List Exchange) → Placed calls places made → Placed (calls ++ call ∷ []) places made
placed_longer calls call [] [] p = tt
placed_longer calls call [] (c ∷ made) p = absurd p
placed_longer calls call (place ∷ places) [] p = absurd p
placed_longer calls call (place ∷ places) (c ∷ made) p = (get_longer calls call place c p.0, placed_longer calls call places made p.1)

-- two lists of calls at their places
pub placed_both : (calls : List Exchange) (places : List ℕ) (made : List Exchange) (more_places : List ℕ) (more : List Exchange) → Placed calls places made → Placed calls more_places more
    → Placed calls (places ++ more_places) (made ++ more)
placed_both calls [] [] more_places more p q = q
placed_both calls [] (c ∷ made) more_places more p q = absurd p
placed_both calls (place ∷ places) [] more_places more p q = absurd p
placed_both calls (place ∷ places) (c ∷ made) more_places more p q = (p.0, placed_both calls places made more_places more p.1 q)

-- one more call, at the end
pub placed_push : (calls : List Exchange) (call : Exchange) (places : List ℕ) (made : List Exchange) (place : ℕ) → place ≡ length calls → Placed calls places made
    → Placed (calls ++ call ∷ []) (places ++ place ∷ []) (made ++ call ∷ [])
placed_push calls call places made place is p =
    placed_both (calls ++ call ∷ []) places made (place ∷ []) (call ∷ []) (placed_longer calls call places made p)
    (subst (λ (n : ℕ). slice_get (calls ++ call ∷ []) n ≡ Some call) (sym is) (get_last calls call), tt)

-- each place is below the end
pub placed_below : (calls : List Exchange) (places : List ℕ) (made : List Exchange) → Placed calls places made → All (λ (place : ℕ). place < length calls) places
placed_below calls [] [] p k d h = absurd (omega (arith, h))
placed_below calls [] (c ∷ made) p k d h = absurd p
placed_below calls (place ∷ places) [] p k d h = absurd p
placed_below calls (place ∷ places) (c ∷ made) p zero d h = slice_get_within calls place c p.0
placed_below calls (place ∷ places) (c ∷ made) p (suc k) d h = placed_below calls places made p.1 k d (omega (arith, h))

-- numbers that rise have room below what they are below
rising_room : (most place : ℕ) (places : List ℕ) → AllPairs (λ (a b : ℕ). a < b) (place ∷ places) → All (λ (p : ℕ). p < most) (place ∷ places) → place + length (place ∷ places) ≤ most
rising_room most place [] rise below = let h = below 0 0 (omega arith) in omega (arith, h)
rising_room most place (next ∷ places) rise below =
    let rest = rising_room most next places (λ i j d a b. rise (suc i) (suc j) d (omega (arith, a)) (omega (arith, b))) (λ k d h. below (suc k) d (omega (arith, h))) in
    let step = rise 0 1 0 (omega arith) (omega arith) in
    omega (arith, rest, step)

-- a list from one of its elements on
drop_get : (calls : List Exchange) (place : ℕ) (call : Exchange) → slice_get calls place ≡ Some call → drop place calls ≡ call ∷ drop (suc place) calls
drop_get [] place call e = absurd (let h = slice_get_within [] place call e in omega (arith, h))
drop_get (c ∷ cs) zero call e = cc
drop_get (c ∷ cs) (suc place) call e = drop_get cs place call e

drop_end : (calls : List Exchange) (n : ℕ) → length calls ≤ n → drop n calls ≡ []
drop_end [] zero h = refl
drop_end [] (suc n) h = refl
drop_end (c ∷ cs) zero h = absurd (omega (arith, h))
drop_end (c ∷ cs) (suc n) h = drop_end cs n (omega (arith, h))

-- calls at rising places are all the rest of a history that has no more
rises_from : (calls : List Exchange) (first : ℕ) (places : List ℕ) (made : List Exchange) → Placed calls places made → AllPairs (λ (a b : ℕ). a < b) places
    → All (λ (p : ℕ). first ≤ p) places → first + length made ≡ length calls → drop first calls ≡ made
rises_from calls first [] [] p rise after all = drop_end calls first (omega (arith, all))
rises_from calls first [] (c ∷ made) p rise after all = absurd p
rises_from calls first (place ∷ places) [] p rise after all = absurd p
rises_from calls first (place ∷ places) (c ∷ made) p rise after all =
    let room = rising_room (length calls) place places rise (placed_below calls (place ∷ places) (c ∷ made) p) in
    let long = same_length calls places made p.1 in
    let least = after 0 0 (omega arith) in
    let is : place ≡ first = omega (arith, room, long, least, all) in
    let rest = rises_from calls (suc first) places made p.1 (λ i j d a b. rise (suc i) (suc j) d (omega (arith, a)) (omega (arith, b)))
    (λ k d h. let r = rise 0 (suc k) d (omega arith) (omega (arith, h)) in omega (arith, r, is)) (omega (arith, all)) in
    drop_get calls first c (subst (λ (n : ℕ). slice_get calls n ≡ Some c) is p.0) ∙ ap (λ (l : List Exchange). c ∷ l) rest
  where
    same_length : (calls : List Exchange) (places : List ℕ) (made : List Exchange) → Placed calls places made → length places ≡ length made
    same_length calls [] [] p = refl
    same_length calls [] (c ∷ made) p = absurd p
    same_length calls (place ∷ places) [] p = absurd p
    same_length calls (place ∷ places) (c ∷ made) p = let r = same_length calls places made p.1 in omega (arith, r)

-- who made as many calls as there are, at rising places, made them in their order
pub rises_all : (calls : List Exchange) (places : List ℕ) (made : List Exchange) → Placed calls places made → AllPairs (λ (a b : ℕ). a < b) places → length made ≡ length calls → calls ≡ made
rises_all calls places made p rise all = rises_from calls 0 places made p rise (λ k d h. omega arith) (omega (arith, all))
