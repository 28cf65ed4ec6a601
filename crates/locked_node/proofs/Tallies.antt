-- Tallies without calls, with one call more, and added up.
use Rattle.std.proofs.Common.{◌≡◌, ◌≢◌, ℕ, zero, suc, ◌+◌, ◌%◌, ◌^◌, ◌<◌, ◌≤◌, inl, inr, Bool, true, false, cond, eqb, List, [], ◌∷◌, length, get_or, replicate, set, refl, sym, ap, ◌∙◌, subst, ⊎_elim, arith, eq-eqb, ne_eqb, get_or-set_same, get_or-set_other}
use Rattle.std.proofs.lemmas.Bool.{cases_eq, cases_lt}
use Rattle.std.proofs.lemmas.List.{get_or_past}
use Rattle.std.proofs.lemmas.List.Sums.{sum_by-cons}
use Rattle.std.proofs.Math.Nat.{mod-eq_of_lt}
use Rattle.std.specs.Prelude.{sum_by}
use Rattle.node_core.specs.declared.exchange.Exchange.{Exchange}
use Rattle.locked_node.specs.declared.tally.Tally.{Tally}
use Rattle.locked_node.specs.declared.tally.TheConstants.{START}
use Rattle.locked_node.specs.CallNumbers.{kind_of, index_of, numbers_of}
use Rattle.locked_node.specs.Adding.{AddedTo}
use Rattle.locked_node.specs.Totals.{Row, rows, all_calls, calls_at, sum_at, number_at, Counts, IsEmpty, AddsUp, SameSum}
use Rattle.locked_node.proofs.Sums.{same_reduced, same_equal}
use Rattle.locked_node.proofs.Cells.{ROOMS, no_row, next, behind, start_few, length-rows, calls_there, calls_lie, sums_lie, calls_le}
use Rattle.locked_node.proofs.Widths.{narrow}

-- the calls of rows that count none, of rows of which one counts one more, and of rows that are
-- added up
none_counted : (rows : List Row) → ((kind : ℕ) → (get_or rows kind no_row).calls ≡ 0) → sum_by (λ (r : Row). r.calls) rows ≡ 0
none_counted [] each = refl
none_counted (row ∷ rows) each =
    let c = sum_by-cons (λ (r : Row). r.calls) row rows in
    let first = each 0 in
    let rest = none_counted rows (λ kind. each (suc kind)) in
    omega (arith, c, first, rest)

same_counted : (old new : List Row) → length new ≡ length old → ((kind : ℕ) → (get_or new kind no_row).calls ≡ (get_or old kind no_row).calls)
    → sum_by (λ (r : Row). r.calls) new ≡ sum_by (λ (r : Row). r.calls) old
same_counted [] [] a each = refl
same_counted [] (y ∷ new) a each = absurd (omega (arith, a))
same_counted (x ∷ old) [] a each = absurd (omega (arith, a))
same_counted (x ∷ old) (y ∷ new) a each =
    let cx = sum_by-cons (λ (r : Row). r.calls) x old in
    let cy = sum_by-cons (λ (r : Row). r.calls) y new in
    let first = each 0 in
    let rest = same_counted old new (omega (arith, a)) (λ kind. each (suc kind)) in
    omega (arith, cx, cy, first, rest)

one_counted : (old new : List Row) (kind : ℕ) → length new ≡ length old → kind < length old
    → (get_or new kind no_row).calls ≡ (get_or old kind no_row).calls + 1
    → ((k : ℕ) → k ≢ kind → (get_or new k no_row).calls ≡ (get_or old k no_row).calls)
    → sum_by (λ (r : Row). r.calls) new ≡ sum_by (λ (r : Row). r.calls) old + 1
one_counted [] new kind a h one others = absurd (omega (arith, h))
one_counted (x ∷ old) [] kind a h one others = absurd (omega (arith, a))
one_counted (x ∷ old) (y ∷ new) zero a h one others =
    let cx = sum_by-cons (λ (r : Row). r.calls) x old in
    let cy = sum_by-cons (λ (r : Row). r.calls) y new in
    let rest = same_counted old new (omega (arith, a)) (λ k. others (suc k) (λ (e : suc k ≡ 0). absurd (omega (arith, e)))) in
    omega (arith, cx, cy, one, rest)
one_counted (x ∷ old) (y ∷ new) (suc kind) a h one others =
    let cx = sum_by-cons (λ (r : Row). r.calls) x old in
    let cy = sum_by-cons (λ (r : Row). r.calls) y new in
    let first : y.calls ≡ x.calls = others 0 (λ (e : 0 ≡ suc kind). absurd (omega (arith, e))) in
    let rest = one_counted old new kind (omega (arith, a)) (omega (arith, h)) one (λ k ne. others (suc k) (λ (e : suc k ≡ suc kind). ne (omega (arith, e)))) in
    omega (arith, cx, cy, first, rest)

all_counted : (one other both : List Row) → length one ≡ length both → length other ≡ length both
    → ((kind : ℕ) → (get_or both kind no_row).calls ≡ (get_or one kind no_row).calls + (get_or other kind no_row).calls)
    → sum_by (λ (r : Row). r.calls) both ≡ sum_by (λ (r : Row). r.calls) one + sum_by (λ (r : Row). r.calls) other
all_counted [] [] [] a b each = omega arith
all_counted [] other (z ∷ both) a b each = absurd (omega (arith, a))
all_counted (x ∷ one) other [] a b each = absurd (omega (arith, a))
all_counted one [] (z ∷ both) a b each = absurd (omega (arith, b))
all_counted one (y ∷ other) [] a b each = absurd (omega (arith, b))
all_counted (x ∷ one) (y ∷ other) (z ∷ both) a b each =
    let cx = sum_by-cons (λ (r : Row). r.calls) x one in
    let cy = sum_by-cons (λ (r : Row). r.calls) y other in
    let cz = sum_by-cons (λ (r : Row). r.calls) z both in
    let first = each 0 in
    let rest = all_counted one other both (omega (arith, a)) (omega (arith, b)) (λ kind. each (suc kind)) in
    omega (arith, cx, cy, cz, first, rest)

-- a tally whose cells are zero counts no call
pub empty_cells : (n : ℕ) → IsEmpty (record { cells = replicate n 0 })
empty_cells n = record {
  calls = counts;
  sums = λ kind p. ⊎_elim (λ s. s.2 none ∙ zero_at n _) (λ s. s.1 none) (sums_lie kind p);
  all = none_counted (rows none) counts;
}
  where
    none : Tally
    none = record { cells = replicate n 0 }

    zero_at : (m p : ℕ) → get_or (replicate {A = ℕ} m 0) p 0 ≡ 0
    zero_at zero p = refl
    zero_at (suc m) zero = refl
    zero_at (suc m) (suc p) = zero_at m p

    counts : (kind : ℕ) → calls_at none kind ≡ 0
    counts kind = ⊎_elim (λ s. s.1 none ∙ zero_at n _) (λ s. s.1 none) (calls_lie kind)

-- numbers are added to the cells from a place on
pub added_none : (from : ℕ) (old numbers : List ℕ) → AddedTo from 0 old numbers old
added_none from old numbers = record { inside = λ k h. absurd (omega (arith, h)); beside = λ p h. refl }

pub added_more : (from i : ℕ) (old numbers now : List ℕ) (sum : ℕ) → from + i < length now → AddedTo from i old numbers now
    → sum ≡ (get_or now (from + i) 0 + get_or numbers i 0) % 2 ^ 128 → AddedTo from (i + 1) old numbers (set now (from + i) sum)
added_more from i old numbers now sum within s is = record {
  inside = λ k h. ⊎_elim
      (λ (e : k ≡ i). subst (λ (j : ℕ). get_or (set now (from + i) sum) (from + j) 0 ≡ (get_or old (from + j) 0 + get_or numbers j 0) % 2 ^ 128) (sym e)
      (get_or-set_same now (from + i) sum 0 within ∙ (is ∙ ap (λ (n : ℕ). (n + get_or numbers i 0) % 2 ^ 128) (s.beside (from + i) (inr (omega arith))))))
      (λ (ne : k ≢ i). get_or-set_other now (from + i) (from + k) sum 0 (λ (e : from + k ≡ from + i). ne (omega (arith, e))) ∙ s.inside k (omega (arith, h, ne)))
      (cases_eq k i);
  beside = λ p h. ⊎_elim
      (λ (b : p < from). get_or-set_other now (from + i) p sum 0 (λ (e : p ≡ from + i). absurd (omega (arith, b, e))) ∙ s.beside p (inl b))
      (λ (b : from + (i + 1) ≤ p). get_or-set_other now (from + i) p sum 0 (λ (e : p ≡ from + i). absurd (omega (arith, b, e))) ∙ s.beside p (inr (omega (arith, b))))
      h;
}

-- then the tallies are added up
pub added_all : (old other now : Tally) → length old.cells ≡ 479 → length other.cells ≡ 479
    → AddedTo 0 479 old.cells other.cells now.cells → all_calls old + all_calls other < 2 ^ 128 → AddsUp old other now
added_all old other now long same s few = record {
  calls = counts;
  sums = λ kind p. ⊎_elim
      (λ l. let x = l.2 old in let y = l.2 other in let z = l.2 now in same_reduced _ _ (z ∙ (each _ ∙ ap (λ (n : ℕ). n % 2 ^ 128) (omega (arith, x, y)))))
      (λ l. let x = l.1 old in let y = l.1 other in let z = l.1 now in same_equal _ _ (omega (arith, x, y, z)))
      (sums_lie kind p);
  all = all_counted (rows old) (rows other) (rows now) (length-rows old ∙ sym (length-rows now)) (length-rows other ∙ sym (length-rows now)) counts;
}
  where
    each : (p : ℕ) → get_or now.cells p 0 ≡ (get_or old.cells p 0 + get_or other.cells p 0) % 2 ^ 128
    each p = ⊎_elim
        (λ (h : p < 479). let e : 0 + p ≡ p = omega arith in
        subst (λ (q : ℕ). get_or now.cells q 0 ≡ (get_or old.cells q 0 + get_or other.cells p 0) % 2 ^ 128) e (s.inside p h))
        (λ (h : 479 ≤ p).
        let a = get_or_past old.cells p 0 (omega (arith, long, h)) in
        let b = get_or_past other.cells p 0 (omega (arith, same, h)) in
        let none : 0 ≡ get_or old.cells p 0 + get_or other.cells p 0 = omega (arith, a, b) in
        s.beside p (inr (omega (arith, h))) ∙ (a ∙ ap (λ (n : ℕ). n % 2 ^ 128) none))
        (cases_lt p 479)

    counts : (kind : ℕ) → calls_at now kind ≡ calls_at old kind + calls_at other kind
    counts kind = ⊎_elim
        (λ l.
        let x = l.1 old in let y = l.1 other in let z = l.1 now in
        let a = calls_le old kind l.0 in let b = calls_le other kind l.0 in
        let small : get_or old.cells (get_or START kind 0) 0 + get_or other.cells (get_or START kind 0) 0 < 2 ^ 128 = omega (arith, a, b, x, y, few) in
        let sum = mod-eq_of_lt small in
        let e = each (get_or START kind 0) in
        omega (arith, x, y, z, e, sum))
        (λ l. let x = l.1 old in let y = l.1 other in let z = l.1 now in omega (arith, x, y, z))
        (calls_lie kind)

-- while numbers are added behind the count of a kind, that stays what it was
pub count_left : (tally : Tally) (kind i : ℕ) (numbers now : List ℕ) → kind < 96 → AddedTo (get_or START kind 0 + 1) i tally.cells numbers now
    → get_or now (get_or START kind 0) 0 ≡ calls_at tally kind
count_left tally kind i numbers now h added = added.beside (get_or START kind 0) (inl (omega arith)) ∙ sym (calls_there tally kind h)

-- the numbers of a call are added to the sums of its kind, which counts one call more
pub counts_call : (old new : Tally) (more : List ℕ) (kind : ℕ) (call : Exchange) → length more ≡ 479 → kind < 96 → kind ≡ index_of (kind_of call)
    → AddedTo (get_or START kind 0 + 1) (length (numbers_of call)) old.cells (numbers_of call) more
    → new.cells ≡ set more (get_or START kind 0) (get_or more (get_or START kind 0) 0 + 1)
    → Counts old call new
counts_call old new more kind call long h is added cells = record {
  calls = λ k. ⊎_elim
      (λ (e : k ≡ kind). subst (λ (j : ℕ). calls_at new j ≡ calls_at old j + cond (eqb (index_of (kind_of call)) j) 1 0) (sym e)
      (let marked = ap {B = ℕ} (λ (b : Bool). cond b 1 0) yes in let more = one in omega (arith, marked, more)))
      (λ (ne : k ≢ kind). let marked = ap {B = ℕ} (λ (b : Bool). cond b 1 0) (no k ne) in let same = others k ne in omega (arith, marked, same))
      (cases_eq k kind);
  sums = λ k p. ⊎_elim
      (λ (e : k ≡ kind). subst (λ (j : ℕ). SameSum (sum_at new j p) (sum_at old j p + number_at j p call)) (sym e) (⊎_elim
      (λ l. let x = l.2 old in let z = l.2 new in same_equal _ _ z ∙ (inside p ∙ same_equal _ _ (omega (arith, x, of_it p))))
      (λ l. let x = l.1 old in let z = l.1 new in let past = get_or_past numbers p 0 (let few = fits in let w = l.0 h in omega (arith, few, w)) in same_equal _ _ (omega (arith, x, z, past, of_it p)))
      (sums_lie kind p)))
      (λ (ne : k ≢ kind). ⊎_elim
      (λ l. let x = l.2 old in let z = l.2 new in let n = next k l.0 in let w = l.1 in let same = apart k ne l.0 (get_or START k 0 + 1 + p) (omega arith) (omega (arith, n, w)) in same_equal _ _ (omega (arith, x, z, same, of_others k ne p)))
      (λ l. let x = l.1 old in let z = l.1 new in same_equal _ _ (omega (arith, x, z, of_others k ne p)))
      (sums_lie k p))
      (cases_eq k kind);
  all = one_counted (rows old) (rows new) kind (length-rows new ∙ sym (length-rows old)) (let many = length-rows old in omega (arith, h, many)) one others;
}
  where
    numbers : List ℕ
    numbers = numbers_of call

    at : ℕ
    at = get_or START kind 0

    fits : length numbers ≤ get_or ROOMS kind 0
    fits = subst (λ (n : ℕ). length numbers ≤ get_or ROOMS n 0) (sym is) (narrow call)

    -- one more in the count, the numbers behind it, and nothing else
    here : get_or new.cells at 0 ≡ get_or old.cells at 0 + 1
    here =
        let few = start_few kind h in
        ap (λ (l : List ℕ). get_or l at 0) cells ∙ (get_or-set_same more at (get_or more at 0 + 1) 0 (omega (arith, few, long))
        ∙ ap (λ (n : ℕ). n + 1) (added.beside at (inl (omega arith))))

    beside : (q : ℕ) → q ≢ at → get_or new.cells q 0 ≡ get_or more q 0
    beside q ne = ap (λ (l : List ℕ). get_or l q 0) cells ∙ get_or-set_other more at q (get_or more at 0 + 1) 0 ne

    inside : (p : ℕ) → SameSum (get_or new.cells (at + 1 + p) 0) (get_or old.cells (at + 1 + p) 0 + get_or numbers p 0)
    inside p = ⊎_elim
        (λ (w : p < length numbers). same_reduced _ _ (beside (at + 1 + p) (omega arith) ∙ added.inside p w))
        (λ (w : length numbers ≤ p). let none = get_or_past numbers p 0 w in let same = beside (at + 1 + p) (omega arith) ∙ added.beside (at + 1 + p) (inr (omega (arith, w))) in
        same_equal _ _ (omega (arith, same, none)))
        (cases_lt p (length numbers))

    apart : (k : ℕ) → k ≢ kind → k < 96 → (q : ℕ) → get_or START k 0 ≤ q → q < get_or START (k + 1) 0 → get_or new.cells q 0 ≡ get_or old.cells q 0
    apart k ne few q from to = ⊎_elim
        (λ (b : k < kind). let order = behind k kind b (omega (arith, h)) in
        beside q (omega (arith, to, order)) ∙ added.beside q (inl (omega (arith, to, order))))
        (λ (b : kind ≤ k). let order = behind kind k (omega (arith, b, ne)) (omega (arith, few)) in let n = next kind h in let narrow = fits in
        beside q (omega (arith, from, order, n)) ∙ added.beside q (inr (omega (arith, from, order, n, narrow))))
        (cases_lt k kind)

    yes : eqb (index_of (kind_of call)) kind ≡ true
    yes = eq-eqb (index_of (kind_of call)) kind (sym is)

    no : (k : ℕ) → k ≢ kind → eqb (index_of (kind_of call)) k ≡ false
    no k ne = ne_eqb (index_of (kind_of call)) k (λ e. ne (sym e ∙ sym is))

    of_it : (p : ℕ) → number_at kind p call ≡ get_or numbers p 0
    of_it p = ap (λ (b : Bool). cond b (get_or numbers p 0) 0) yes

    of_others : (k : ℕ) → k ≢ kind → (p : ℕ) → number_at k p call ≡ 0
    of_others k ne p = ap (λ (b : Bool). cond b (get_or numbers p 0) 0) (no k ne)

    one : calls_at new kind ≡ calls_at old kind + 1
    one = let x = calls_there old kind h in let z = calls_there new kind h in let more = here in omega (arith, x, z, more)

    others : (k : ℕ) → k ≢ kind → calls_at new k ≡ calls_at old k
    others k ne = ⊎_elim
        (λ l. let x = l.1 old in let z = l.1 new in let n = next k l.0 in let same = apart k ne l.0 (get_or START k 0) (omega arith) (omega (arith, n)) in omega (arith, x, z, same))
        (λ l. let x = l.1 old in let z = l.1 new in omega (arith, x, z))
        (calls_lie k)
