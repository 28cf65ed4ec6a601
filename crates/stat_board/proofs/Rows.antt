-- Rows of numbers, by their places.
use Rattle.std.proofs.Common.{◌≡◌, ◌≢◌, ℕ, zero, suc, ◌+◌, ◌<◌, ◌≤◌, List, [], ◌∷◌, length, set, refl, sym, ap, ◌∙◌, subst, ⊎_elim, arith, length-set}
use Rattle.std.specs.Prelude.{max, replicate, sum, slice_index}
use Rattle.std.proofs.lemmas.Bool.{cases_eq}
use Rattle.std.proofs.lemmas.Grind.{same_number_lists}
use Rattle.std.proofs.lemmas.List.{get_or-set_same, get_or-set_other}
use Rattle.std.proofs.lemmas.List.Sums.{sum_by-cons, sum_by-set}
use mathlib.Core.Option.{some, some-injective, some-ne-none}
use lib.ListN.{get_elem?}
use Rattle.stat_board.specs.Rows.{NOTHING, added, greatest, raised}

-- a sum from its first number on
pub sum_first : (x : ℕ) (xs : List ℕ) → sum (x ∷ xs) ≡ x + sum xs
sum_first x xs = sum_by-cons (λ y. y) x xs

pub at_added : (xs ys : List ℕ) (place : ℕ) → slice_index (added xs ys) place ≡ slice_index xs place + slice_index ys place
at_added [] ys place = omega arith
at_added (x ∷ xs) [] place = omega arith
at_added (x ∷ xs) (y ∷ ys) zero = refl
at_added (x ∷ xs) (y ∷ ys) (suc place) = at_added xs ys place

pub sum_added : (xs ys : List ℕ) → sum (added xs ys) ≡ sum xs + sum ys
sum_added [] ys = omega arith
sum_added (x ∷ xs) [] = omega arith
sum_added (x ∷ xs) (y ∷ ys) =
    let a = sum_first (x + y) (added xs ys) in let b = sum_first x xs in let c = sum_first y ys in let r = sum_added xs ys in omega (arith, a, b, c, r)

pub length_added : (xs ys : List ℕ) → length xs ≡ length ys → length (added xs ys) ≡ length xs
length_added [] ys e = omega arith
length_added (x ∷ xs) [] e = refl
length_added (x ∷ xs) (y ∷ ys) e = let r = length_added xs ys (omega arith) in omega (arith, r)

pub at_greatest : (xs ys : List ℕ) (place : ℕ) → length xs ≡ length ys → slice_index (greatest xs ys) place ≡ max (slice_index xs place) (slice_index ys place)
at_greatest [] [] place e = omega arith
at_greatest [] (y ∷ ys) place e = absurd (omega arith)
at_greatest (x ∷ xs) [] place e = absurd (omega arith)
at_greatest (x ∷ xs) (y ∷ ys) zero e = refl
at_greatest (x ∷ xs) (y ∷ ys) (suc place) e = at_greatest xs ys place (omega arith)

pub length_greatest : (xs ys : List ℕ) → length xs ≡ length ys → length (greatest xs ys) ≡ length xs
length_greatest [] ys e = omega arith
length_greatest (x ∷ xs) [] e = refl
length_greatest (x ∷ xs) (y ∷ ys) e = let r = length_greatest xs ys (omega arith) in omega (arith, r)

-- a bound on both rows is one on the greater of them
pub under_greatest : (xs ys : List ℕ) (place most : ℕ) → slice_index xs place ≤ most → slice_index ys place ≤ most → slice_index (greatest xs ys) place ≤ most
under_greatest [] ys place most p q = q
under_greatest (x ∷ xs) [] place most p q = p
under_greatest (x ∷ xs) (y ∷ ys) zero most p q = omega (arith, p, q)
under_greatest (x ∷ xs) (y ∷ ys) (suc place) most p q = under_greatest xs ys place most p q

at_zeros : (n place : ℕ) → slice_index (replicate n zero) place ≡ zero
at_zeros zero place = refl
at_zeros (suc n) zero = refl
at_zeros (suc n) (suc place) = at_zeros n place

pub at_nothing : (place : ℕ) → slice_index NOTHING place ≡ 0
at_nothing place = at_zeros 8 place

pub at_raised : (row : List ℕ) (place : ℕ) → place < length row → slice_index (raised row place) place ≡ slice_index row place + 1
at_raised row place within = get_or-set_same row place (slice_index row place + 1) 0 within

pub at_other : (row : List ℕ) (place other : ℕ) → other ≢ place → slice_index (raised row place) other ≡ slice_index row other
at_other row place other apart = get_or-set_other row place other (slice_index row place + 1) 0 apart

pub sum_raised : (row : List ℕ) (place : ℕ) → place < length row → sum (raised row place) ≡ sum row + 1
sum_raised row place within = let s = sum_by-set (λ y. y) row place (slice_index row place + 1) 0 within in omega (arith, s)

-- a row that is nowhere above another has no greater sum
pub sum_below : (xs ys : List ℕ) → ((place : ℕ) → slice_index xs place ≤ slice_index ys place) → sum xs ≤ sum ys
sum_below [] ys below = omega arith
sum_below (x ∷ xs) [] below =
    let a = sum_first x xs in let here : x ≤ 0 = below 0 in let r = sum_below xs [] (λ place. below (suc place)) in omega (arith, a, here, r)
sum_below (x ∷ xs) (y ∷ ys) below =
    let a = sum_first x xs in let b = sum_first y ys in let here : x ≤ y = below 0 in let r = sum_below xs ys (λ place. below (suc place)) in omega (arith, a, b, here, r)

-- a row of the same length that is nowhere above another, and has no smaller sum, is that row
pub same_row : (xs ys : List ℕ) → length xs ≡ length ys → ((place : ℕ) → slice_index xs place ≤ slice_index ys place) → sum ys ≤ sum xs → ys ≡ xs
same_row [] [] long below most = refl
same_row [] (y ∷ ys) long below most = absurd (omega arith)
same_row (x ∷ xs) [] long below most = absurd (omega arith)
same_row (x ∷ xs) (y ∷ ys) long below most =
    let a = sum_first x xs in let b = sum_first y ys in let here : x ≤ y = below 0 in
    let later = λ (place : ℕ). below (suc place) in
    let under = sum_below xs ys later in
    let first : y ≡ x = omega (arith, a, b, here, under, most) in
    let rest = same_row xs ys (omega arith) later (omega (arith, a, b, here, under, most)) in
    ap (λ h. h ∷ ys) first ∙ ap (λ l. x ∷ l) rest

-- two rows are joined by f up to a place, and from there on the first one stands
pub record IsJoined (f : ℕ → ℕ → ℕ) (one other row : List ℕ) (end : ℕ) : Type 0 where
  pub long : length row ≡ 8
  pub done : (k : ℕ) → k < end → slice_index row k ≡ f (slice_index one k) (slice_index other k)
  pub left : (k : ℕ) → end ≤ k → slice_index row k ≡ slice_index one k

pub joined_more : (f : ℕ → ℕ → ℕ) (one other row : List ℕ) (end n : ℕ) → end < 8 → n ≡ f (slice_index row end) (slice_index other end)
    → IsJoined f one other row end → IsJoined f one other (set row end n) (end + 1)
joined_more f one other row end n within is j = record {
  long = length-set row end n ∙ j.long;
  done = λ k below. ⊎_elim
      (λ (e : k ≡ end). subst (λ (p : ℕ). slice_index (set row end n) p ≡ f (slice_index one p) (slice_index other p)) (sym e)
      (here ∙ (is ∙ ap (λ (x : ℕ). f x (slice_index other end)) (j.left end (omega arith)))))
      (λ (ne : k ≢ end). there k ne ∙ j.done k (omega (arith, below, ne)))
      (cases_eq k end);
  left = λ k above. there k (λ e. omega (arith, above, e)) ∙ j.left k (omega (arith, above));
}
  where
    here : slice_index (set row end n) end ≡ n
    here = let l = j.long in get_or-set_same row end n 0 (omega (arith, l, within))

    there : (k : ℕ) → k ≢ end → slice_index (set row end n) k ≡ slice_index row k
    there k ne = get_or-set_other row end k n 0 ne

-- the rows are joined to the end
pub joined_all : (f : ℕ → ℕ → ℕ) (one other row whole : List ℕ) (end : ℕ) → 8 ≤ end → length whole ≡ 8
    → ((k : ℕ) → slice_index whole k ≡ f (slice_index one k) (slice_index other k)) → IsJoined f one other row end → row ≡ whole
joined_all f one other row whole end past long at j =
    let l = j.long in same_number_lists row whole (l ∙ sym long) (λ k below. j.done k (omega (arith, below, past, l)) ∙ sym (at k))

-- an element by its place
at_is : (l : List ℕ) (k x : ℕ) → get_elem? l k ≡ some x → slice_index l k ≡ x
at_is [] k x e = absurd (some-ne-none x (sym e))
at_is (y ∷ ys) zero x e = some-injective y x e
at_is (y ∷ ys) (suc k) x e = at_is ys k x e

-- numbers that were read one by one
pub all_read : (items words : List ℕ) (end : ℕ) → length items ≡ 8 → length words ≡ 8 → 8 ≤ end
    → ((k : ℕ) → k < end → get_elem? items k ≡ some (slice_index words k)) → words ≡ items
all_read items words end many long past each =
    same_number_lists words items (long ∙ sym many) (λ k below. sym (at_is items k (slice_index words k) (each k (omega (arith, below, long, past)))))
