-- Names in order, of which no two neighbours are the same, are distinct.
use Rattle.std.proofs.Common.{◌≡◌, ℕ, ◌+◌, ◌<◌, Bool, true, false, List, length, get_or, Bor, refl, sym, ap, ◌∙◌, arith}
use Rattle.std.proofs.lemmas.Bool.{false≢true}
use Rattle.std.specs.Str.{bytes_eq}
use Rattle.std.specs.Cmp.{IsTotalOrder}
use Rattle.std.specs.Cmp.Lexicographic.{slice_cmp}
use Rattle.std.specs.Ordering.{nat_cmp, is_lt, is_eq, ordering_reverse}
use Rattle.std.specs.declared.cmp.Ordering.{Ordering}
use Rattle.std.specs.declared.cmp.Ordering.TheVariants.{Less, Equal, Greater}
use Rattle.std.specs.List.Sorted.{IsSorted, IsPermutation}
use Rattle.std.proofs.lemmas.Cmp.{nat_list_cmp_total, nat_list_eq_equiv, on_total}
use Rattle.std.proofs.lemmas.List.Sorted.{IsPermutation-sym}
use Rattle.std.proofs.lemmas.Map.Keys.{sorted_from_all_adjacent, Less-from_sorted, IsDistinct-from_apart, IsDistinct-IsPermutation, apart_from_distinct}
use Rattle.std.proofs.lemmas.Map.Text.{is_eq-slice_cmp}
use Rattle.startup.specs.Names.{AreDistinct}

abbrev Name : Type 0
Name = Bor (List ℕ)

-- the order of names is that of their bytes
abbrev by_bytes : Name → Name → Ordering
by_bytes a b = slice_cmp nat_cmp a.now b.now

abbrev same : Name → Name → Bool
same a b = bytes_eq a.now b.now

total : IsTotalOrder by_bytes
total = on_total (λ (n : Name). n.now) nat_list_cmp_total

-- neither above nor equal is below
less : (o p : Ordering) → o ≡ ordering_reverse p → is_lt p ≡ false → is_eq o ≡ false → o ≡ Less
less Less p back above equal = refl
less Equal p back above equal = absurd (false≢true (sym equal))
less Greater Less back above equal = absurd (false≢true (sym above))
less Greater Equal back above equal = cc
less Greater Greater back above equal = cc

in_order : (names : List Name) (d : Name) → IsSorted by_bytes names → ((k : ℕ) → k + 1 < length names → same (get_or names k d) (get_or names (k + 1) d) ≡ false) → AreDistinct names
in_order names d sorted apart =
    let rising = sorted_from_all_adjacent total names d (λ k within.
    less _ _ (total.antisymm (get_or names k d) (get_or names (k + 1) d)) (sorted k d (omega arith) within)
    (is_eq-slice_cmp (get_or names k d).now (get_or names (k + 1) d).now ∙ apart k within)) in
    IsDistinct-from_apart same names (λ i j e below within.
    sym (is_eq-slice_cmp (get_or names i e).now (get_or names j e).now) ∙ ap is_eq (Less-from_sorted by_bytes names i j e rising below within))

flips : (a b : Name) → same a b ≡ same b a
flips a b = nat_list_eq_equiv.symm a.now b.now

-- of a list and of the same in order
pub distinct_once_sorted : (names sorted : List Name) (d : Name) → IsPermutation names sorted → IsSorted by_bytes sorted → ((k : ℕ) → k + 1 < length sorted → same (get_or sorted k d) (get_or sorted (k + 1) d) ≡ false) → AreDistinct names
distinct_once_sorted names sorted d moved up apart =
    IsDistinct-IsPermutation same flips sorted names (IsPermutation-sym names sorted moved) (in_order sorted d up apart)

pub repeated_once_sorted : (names sorted : List Name) (d : Name) (i : ℕ) → IsPermutation names sorted → i + 1 < length sorted → same (get_or sorted i d) (get_or sorted (i + 1) d) ≡ true → AreDistinct names → ⊥
repeated_once_sorted names sorted d i moved within twice distinct =
    false≢true (sym (apart_from_distinct same sorted i (i + 1) d (IsDistinct-IsPermutation same flips names sorted moved distinct) (omega arith) within) ∙ twice)
