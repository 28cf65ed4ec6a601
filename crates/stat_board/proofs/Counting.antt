-- The steps on a board keep its rule.
use Rattle.std.proofs.Common.{◌≡◌, ◌≢◌, ℕ, zero, suc, ◌+◌, ◌%◌, ◌^◌, ◌<◌, ◌≤◌, List, [], ◌∷◌, length, set, refl, sym, ap, ◌∙◌, subst, ⊎_elim, arith, length-set}
use Rattle.std.proofs.Math.Nat.{mod-eq_of_lt}
use Rattle.std.specs.Prelude.{sum, sum_by, slice_index}
use Rattle.std.proofs.lemmas.Bool.{cases_eq}
use Rattle.std.proofs.lemmas.List.{get_or-set_same, get_or-set_other}
use Rattle.std.proofs.lemmas.List.Sums.{sum_by-cons, sum_by_push, sum_by-set, get_or-le-sum_by}
use lib.Seq.{set-get_or}
use mathlib.Core.Option.{some, some-injective, some-ne-none}
use lib.ListN.{get_elem?}
use Rattle.atomic_table.specs.Table.{State, Me, Step, keeps, stepped, opening, Allows, Splits, Joins}
use Rattle.atomic_table.proofs.Lists.{at_set, at_snoc, set_else}
use Rattle.stat_board.specs.declared.note.Note.{Note}
use Rattle.stat_board.specs.Rows.{NOTHING}
use Rattle.stat_board.specs.Counts.{BOARD_LIMIT, IsCounted, IsWithin, first_note, counted_at, noted, handing, handed, united, nobody, raising, Looks, weighing}
use Rattle.stat_board.proofs.Rows.{at_added, at_nothing, at_raised, at_other, sum_below, under_greatest, same_row}

-- one element of a list is another
sum_change : {A : Type 0} (g : A → ℕ) (l : List A) (id : ℕ) (v w : A) → get_elem? l id ≡ some v → sum_by g (set l id w) + g v ≡ sum_by g l + g w
sum_change g [] id v w at = absurd (some-ne-none v (sym at))
sum_change g (x ∷ xs) zero v w at = let a = sum_by-cons g w xs in let b = sum_by-cons g x xs in let c = ap g (some-injective x v at) in omega (arith, a, b, c)
sum_change g (x ∷ xs) (suc id) v w at = let a = sum_by-cons g x (set xs id w) in let b = sum_by-cons g x xs in let r = sum_change g xs id v w at in omega (arith, a, b, r)

-- no element is above the sum
le_sum : {A : Type 0} (g : A → ℕ) (l : List A) (id : ℕ) (v : A) → get_elem? l id ≡ some v → g v ≤ sum_by g l
le_sum g [] id v at = absurd (some-ne-none v (sym at))
le_sum g (x ∷ xs) zero v at = let b = sum_by-cons g x xs in let c = ap g (some-injective x v at) in omega (arith, b, c)
le_sum g (x ∷ xs) (suc id) v at = let b = sum_by-cons g x xs in let r = le_sum g xs id v at in omega (arith, b, r)

abbrev count_at : ℕ → Note → ℕ
count_at place seat = slice_index seat.counts place

abbrev allowed : Note → ℕ
allowed seat = seat.allowance

-- what a seat read is nowhere above these words
abbrev Under : List ℕ → Note → Type 0
Under words seat = (place : ℕ) → slice_index seat.readings place ≤ slice_index words place

-- where one seat is another, of which the same holds, it holds of all
each_set : (P : Note → Type 0) (l : List Note) (id : ℕ) (w : Note) → P w → ((i : ℕ) (u : Note) → get_elem? l i ≡ some u → P u)
    → (i : ℕ) (u : Note) → get_elem? (set l id w) i ≡ some u → P u
each_set P l id w good each i u at = ⊎_elim (λ (t : (i ≡ id) × (w ≡ u)). subst P t.1 good) (λ (t : (i ≢ id) × (get_elem? l i ≡ some u)). each i u t.1) (at_set l id i w u at)

module _ {S : Type 0} where
  -- what a seat knows of the words
  pub counted_below : (s : State S Note) → IsCounted s → (id : ℕ) (v : Note) → get_elem? s.views id ≡ some v → (place : ℕ) → slice_index v.counts place ≤ slice_index s.words place
  counted_below s r id v at place = let le = le_sum (count_at place) s.views id v at in let e = r.counted place in omega (arith, le, e)

  pub is_within : (s : State S Note) → IsCounted s → (id : ℕ) (v : Note) → get_elem? s.views id ≡ some v → IsWithin v
  is_within s r id v at = let a = le_sum allowed s.views id v at in let b = sum_below v.counts s.words (counted_below s r id v at) in let w = r.whole in omega (arith, a, b, w)

  -- a word leaves room for what a seat may count
  pub leaves_room : (s : State S Note) → IsCounted s → (id : ℕ) (v : Note) → get_elem? s.views id ≡ some v → (place : ℕ) → place < 8 → slice_index s.words place + v.allowance ≤ BOARD_LIMIT
  leaves_room s r id v at place within =
      let a = le_sum allowed s.views id v at in let l = r.words in
      let b = get_or-le-sum_by (λ (x : ℕ). x) s.words place 0 (omega (arith, l, within)) in let w = r.whole in omega (arith, a, b, w)

  -- the board is made
  pub opens : IsCounted (opening {S = S} NOTHING [] first_note)
  opens = record {
    words = refl;
    counted = λ place. omega arith;
    whole = refl;
    read = λ id seat at place. each_one id seat at place;
  }
    where
      each_one : (id : ℕ) (seat : Note) → get_elem? (first_note ∷ []) id ≡ some seat → Under NOTHING seat
      each_one zero seat at = subst (Under NOTHING) (some-injective first_note seat at) (λ place. omega arith)
      each_one (suc id) seat at = absurd (some-ne-none seat (sym at))

  -- a word is raised
  is_raised : (s : State S Note) (r : IsCounted s) (id : ℕ) (v : Note) (cs : List (ℕ × S)) (place n : ℕ) → get_elem? s.views id ≡ some v → 0 < v.allowance → place < 8 → length v.counts ≡ 8
      → n ≡ slice_index s.words place + 1 → IsCounted (stepped s place n id cs (counted_at v place) keeps)
  is_raised s r id v cs place n at may within long is = let w : Note = counted_at v place in let lw = r.words in
      let here : place < length s.words = omega (arith, lw, within) in
      let mine : place < length v.counts = omega (arith, long, within) in
      let now : slice_index (set s.words place n) place ≡ n = get_or-set_same s.words place n 0 here in
      let word : (other : ℕ) → slice_index s.words other ≤ slice_index (set s.words place n) other =
      λ other. ⊎_elim
      (λ (e : other ≡ place). subst (λ (p : ℕ). slice_index s.words p ≤ slice_index (set s.words place n) p) (sym e) (omega (arith, now, is)))
      (λ (ne : other ≢ place). let same = get_or-set_other s.words place other n 0 ne in omega (arith, same))
      (cases_eq other place) in
      record {
        words = length-set s.words place n ∙ lw;
        counted = λ other. let c = sum_change (count_at other) s.views id v w at in let old = r.counted other in ⊎_elim
            (λ (e : other ≡ place). subst (λ (p : ℕ). slice_index (set s.words place n) p ≡ sum_by (count_at p) (set s.views id w)) (sym e)
            (let d = sum_change (count_at place) s.views id v w at in let o = r.counted place in let up = at_raised v.counts place mine in omega (arith, d, o, up, now, is)))
            (λ (ne : other ≢ place). let same = get_or-set_other s.words place other n 0 ne in let up = at_other v.counts place other ne in omega (arith, c, old, same, up))
            (cases_eq other place);
        whole = let c = sum_change allowed s.views id v w at in let m = sum_by-set (λ (x : ℕ). x) s.words place n 0 here in let o = r.whole in omega (arith, c, m, o, is, may);
        read = λ i u there other.
            let old : slice_index u.readings other ≤ slice_index s.words other =
            each_set (λ (x : Note). slice_index x.readings other ≤ slice_index s.words other) s.views id w (r.read id v at other) (λ j x t. r.read j x t other) i u there in
            let up = word other in omega (arith, old, up);
      }

  -- the step that counts
  pub board_raises : (slots id : ℕ) (me : Me S Note) (place : ℕ) (st : Step S) → st.word ≡ place → 0 < me.0.allowance → place < 8 → length me.0.counts ≡ 8
      → Allows IsCounted slots id me place (λ n. (n + 1) % 2 ^ 64) (raising st me)
  board_raises slots id me place st same may within long s r _ at _ =
      let room = leaves_room s r id me.0 at place within in
      let n : ℕ = slice_index s.words place in
      let fits : (n + 1) % 2 ^ 64 ≡ n + 1 = mod-eq_of_lt (omega (arith, room, may)) in (
        counted_at me.0 place,
        keeps,
        tt,
        is_raised s r id me.0 me.1 place ((n + 1) % 2 ^ 64) at may within long fits,
        ap (λ (p : ℕ). (counted_at me.0 p, me.1)) (sym same),
      )

  -- nothing but what seats know of readings changes
  is_noted : (s : State S Note) (r : IsCounted s) (id : ℕ) (v w : Note) → get_elem? s.views id ≡ some v → w.allowance ≡ v.allowance → w.counts ≡ v.counts → Under s.words w
      → IsCounted (record { words = s.words; homes = s.homes; views = set s.views id w })
  is_noted s r id v w at allowance counts under = record {
    words = r.words;
    counted = λ place. let c = sum_change (count_at place) s.views id v w at in let o = r.counted place in let e = ap (λ (l : List ℕ). slice_index l place) counts in omega (arith, c, o, e);
    whole = let c = sum_change allowed s.views id v w at in let o = r.whole in omega (arith, c, o, allowance);
    read = λ i u there. each_set (Under s.words) s.views id w under r.read i u there;
  }

  -- the same, as a step that leaves the word
  stays : (s : State S Note) (id place : ℕ) (cs : List (ℕ × S)) (w : Note) → IsCounted (record { words = s.words; homes = s.homes; views = set s.views id w })
      → IsCounted (stepped s place (slice_index s.words place) id cs w keeps)
  stays s id place cs w good = subst (λ (ws : List ℕ). IsCounted record { words = ws; homes = s.homes; views = set s.views id w }) (sym (set-get_or s.words place 0)) good

  -- the step that reads
  pub board_reads : (slots id : ℕ) (me : Me S Note) (place : ℕ) (st : Step S) → st.word ≡ place → place < 8 → length me.0.readings ≡ 8
      → Allows IsCounted slots id me place (λ n. n) (Looks st me)
  board_reads slots id me place st same within long s r _ at _ =
      let n : ℕ = slice_index s.words place in
      let v : Note = me.0 in
      let w : Note = noted v place n in
      let mine : place < length v.readings = omega (arith, long, within) in
      let under : Under s.words w = λ other. ⊎_elim
      (λ (e : other ≡ place). subst (λ (p : ℕ). slice_index (set v.readings place n) p ≤ slice_index s.words p) (sym e) (let now = get_or-set_same v.readings place n 0 mine in omega (arith, now)))
      (λ (ne : other ≢ place). let now = get_or-set_other v.readings place other n 0 ne in let o = r.read id v at other in omega (arith, now, o))
      (cases_eq other place) in (
        w,
        keeps,
        tt,
        stays s id place me.1 w (is_noted s r id v w at refl refl under),
        subst (λ (p : ℕ). (t : Step S) → t.word ≡ p → Looks t me n (noted me.0 p n, me.1)) refl (λ t e. record {
          noted = ap (λ (p : ℕ). (noted me.0 p n, me.1)) (sym e);
          counted = subst (λ (p : ℕ). slice_index v.counts p ≤ n) (sym e) (counted_below s r id v at place);
          read = subst (λ (p : ℕ). slice_index v.readings p ≤ n) (sym e) (r.read id v at place);
          most = leaves_room s r id v at place within;
        }) st same,
      )

  -- the step that weighs
  pub board_weighs : (slots id : ℕ) (me : Me S Note) (st : Step S) → Allows IsCounted slots id me 0 (λ n. n) (weighing st me)
  board_weighs slots id me st s r _ at _ = (
    me.0,
    keeps,
    tt,
    stays s id 0 me.1 me.0 (is_noted s r id me.0 me.0 at refl refl (r.read id me.0 at)),
    (refl, is_within s r id me.0 at),
  )

  -- a seat is halved
  pub board_splits : (id : ℕ) (v : Note) → Splits {S = S} IsCounted id v (handing v) (handed v)
  board_splits id v s r at =
      let left : Note = handing v in let right : Note = handed v in let vs : List Note = set s.views id left in record {
        words = r.words;
        counted = λ place. let p = sum_by_push (count_at place) vs right in let c = sum_change (count_at place) s.views id v left at in let z = at_nothing place in let o = r.counted place in omega (arith, p, c, z, o);
        whole = let p = sum_by_push allowed vs right in let c = sum_change allowed s.views id v left at in let o = r.whole in omega (arith, p, c, o);
        read = λ i u there. ⊎_elim
            (λ (t : get_elem? vs i ≡ some u). each_set (Under s.words) s.views id left (r.read id v at) r.read i u t)
            (λ (t : right ≡ u). subst (Under s.words) t (r.read id v at))
            (at_snoc vs right u i there);
      }

  -- two seats are one
  pub board_joins : (id : ℕ) (v : Note) (other : ℕ) (w : Note) → Joins {S = S} IsCounted id v other w (united v w) nobody
  board_joins id v other w s r at ne there =
      let both : Note = united v w in let vs : List Note = set s.views id both in
      let here : get_elem? s.views other ≡ some w = sym (set_else s.views id other both ne) ∙ there in record {
        words = r.words;
        counted = λ place. let c = sum_change (count_at place) s.views id v both at in let d = sum_change (count_at place) vs other w nobody there in
            let a = at_added v.counts w.counts place in let z = at_nothing place in let o = r.counted place in omega (arith, c, d, a, z, o);
        whole = let c = sum_change allowed s.views id v both at in let d = sum_change allowed vs other w nobody there in let o = r.whole in omega (arith, c, d, o);
        read = each_set (Under s.words) vs other nobody (λ place. let z = at_nothing place in omega (arith, z))
            (each_set (Under s.words) s.views id both (λ place. under_greatest v.readings w.readings place _ (r.read id v at place) (r.read other w here place)) r.read);
      }

  -- where a seat has everything, it has counted everything
  pub all_counted : (s : State S Note) → IsCounted s → (id : ℕ) (v : Note) → get_elem? s.views id ≡ some v → length v.counts ≡ 8 → v.allowance + sum v.counts ≡ BOARD_LIMIT → s.words ≡ v.counts
  all_counted s r id v at long whole =
      let a = le_sum allowed s.views id v at in let w = r.whole in
      same_row v.counts s.words (long ∙ sym r.words) (counted_below s r id v at) (omega (arith, a, w, whole))

  -- what was counted at all leaves room for what a seat may count
  pub all_within : (s : State S Note) → IsCounted s → (id : ℕ) (v : Note) → get_elem? s.views id ≡ some v → v.allowance + sum s.words ≤ BOARD_LIMIT
  all_within s r id v at = let a = le_sum allowed s.views id v at in let w = r.whole in omega (arith, a, w)
