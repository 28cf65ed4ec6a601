-- The steps on the lock keep its rule: it is made, taken, looked at, split and joined.
use Rattle.std.proofs.Common.{◌≡◌, ◌≢◌, ℕ, zero, suc, ◌+◌, ◌*◌, ◌<◌, ◌≤◌, List, [], ◌∷◌, ◌++◌, length, set, Option, Some, None, refl, sym, ap, ◌∙◌, subst, inl, inr, ⊎_elim, arith, length-set, get_or-set_same, get_or-set_other}
use Rattle.std.proofs.Math.Nat.{mul-le-mul_right}
use Rattle.std.specs.Prelude.{sum_by, slice_index, if◌then◌else◌}
use Rattle.std.proofs.lemmas.Bool.{cases_lt, cases_eq}
use Rattle.std.proofs.lemmas.Option.{same_Some}
use Rattle.std.proofs.lemmas.List.{length-append}
use Rattle.std.proofs.lemmas.List.Sums.{sum_by_push, sum_by-append}
use mathlib.Core.Option.{some, none, some-injective, some-ne-none}
use lib.ListN.{get_elem?}
use lib.Seq.{set-get_or}
use Rattle.atomic_table.specs.Table.{State, Me, Step, keeps, takes, gives, stepped, opening, Allows, Splits, Joins}
use Rattle.atomic_table.proofs.Lists.{at_set, set_here, set_else, set_again, at_longer, at_snoc}
use Rattle.node_core.specs.declared.exchange.Exchange.{Exchange}
use Rattle.locked_node.specs.declared.rule.Share.{Share}
use Rattle.locked_node.specs.Replay.{fixed_of}
use Rattle.locked_node.specs.Totals.{is_of, calls_in, calls_at, all_calls}
use Rattle.locked_node.specs.Journal.{JournalView, CALL_LIMIT}
use Rattle.locked_node.specs.Lock.{Accounts, IsShare, IsFree, IsTaken, IsLocked, Took, Takes, Holds, HANDED, stake, Placed, first_share, handing, handed, joined, nobody, share_calls, taking, looking, resting, returning}
use Rattle.locked_node.proofs.Orders.{placed_both}
use Rattle.locked_node.proofs.Sums.{same_equal}
use Rattle.locked_node.proofs.Shares.{sum_change, sum_same, le_sum, each_set}

abbrev pub allowed : Share → ℕ
allowed v = v.allowance

abbrev pub began : Share → ℕ
began v = length v.begun

abbrev pub counted : Share → ℕ
counted v = length v.made

abbrev pub weighed : (Exchange → ℕ) → Share → ℕ
weighed f v = sum_by f v.made

-- other shares with the same calls account for the journal too
pub accounts_as : (start journal : JournalView) (vs ws : List Share) → ((f : Exchange → ℕ) → sum_by (weighed f) ws ≡ sum_by (weighed f) vs)
    → sum_by counted ws ≡ sum_by counted vs
    → ((calls : List Exchange) → ((id : ℕ) (v : Share) → get_elem? vs id ≡ some v → Placed calls v.places v.made) → (id : ℕ) (v : Share) → get_elem? ws id ≡ some v → Placed calls v.places v.made)
    → Accounts start vs journal → Accounts start ws journal
accounts_as start journal vs ws same many placed k = record {
  calls = k.calls;
  replay = k.replay;
  same = λ f. k.same f ∙ sym (same f);
  many = k.many ∙ sym many;
  counts = k.counts;
  sums = k.sums;
  all = k.all;
  fixed = k.fixed;
  placed = placed k.calls k.placed;
}

-- what a share knows doesn't depend on the journal that it found
pub share_as : (start : JournalView) (v : Share) (found : Option JournalView) → IsShare start v → IsShare start (record v { found = found })
share_as start v found is = record { knows = is.knows; has = is.has; alike = is.alike }

-- the lock is made
pub opens : (start : JournalView) (words : List ℕ) → all_calls start.log.totals ≤ CALL_LIMIT → 0 < length words → slice_index words 0 ≡ 0
    → IsLocked start (opening words (start ∷ []) (first_share start))
opens start words room long free = record {
  word = long;
  journal = start;
  accounts = record {
    calls = [];
    replay = refl;
    same = λ f. refl;
    many = refl;
    counts = λ k. omega arith;
    sums = λ k p. same_equal _ _ (omega arith);
    all = omega arith;
    fixed = refl;
    placed = placed;
  };
  fits = omega arith;
  one_start = refl;
  each = each;
  place = inl record { word = free; home = refl; idle = idle };
}
  where
    each : (id : ℕ) (v : Share) → get_elem? (first_share start ∷ []) id ≡ some v → IsShare start v
    each zero v at = subst (IsShare start) (some-injective (first_share start) v at) record { knows = λ _. refl; has = λ _. omega arith; alike = λ f. omega arith }
    each (suc id) v at = absurd (some-ne-none v (sym at))

    placed : (id : ℕ) (v : Share) → get_elem? (first_share start ∷ []) id ≡ some v → Placed [] v.places v.made
    placed zero v at = subst (λ (u : Share). Placed [] u.places u.made) (some-injective (first_share start) v at) tt
    placed (suc id) v at = absurd (some-ne-none v (sym at))

    idle : (id : ℕ) (v : Share) → get_elem? (first_share start ∷ []) id ≡ some v → v.found ≡ None
    idle zero v at = subst (λ (u : Share). u.found ≡ None) (some-injective (first_share start) v at) refl
    idle (suc id) v at = absurd (some-ne-none v (sym at))

-- the word becomes another, where the lock stays taken
stays_taken : (start : JournalView) (s : State JournalView Share) (r : IsLocked start s) (p : IsTaken r.journal s) (id n : ℕ) (v : Share) (cs : List (ℕ × JournalView))
    → get_elem? s.views id ≡ some v → n ≢ 0 → IsLocked start (stepped s 0 n id cs v keeps)
stays_taken start s r p id n v cs at not =
    subst (λ (vs : List Share). IsLocked start record { words = set s.words 0 n; homes = s.homes; views = vs }) (sym (set_again s.views id v at)) record {
      word = let l = length-set s.words 0 n in let w = r.word in omega (arith, l, w);
      journal = r.journal;
      accounts = r.accounts;
      fits = r.fits;
      one_start = r.one_start;
      each = r.each;
      place = inr record {
        word = λ e. not (sym (get_or-set_same s.words 0 n 0 r.word) ∙ e);
        home = p.home;
        taker = p.taker;
        share = p.share;
        there = p.there;
        found = p.found;
        has = p.has;
        others = p.others;
      };
    }

-- a free lock is taken
is_taken : (start : JournalView) (s : State JournalView Share) (r : IsLocked start s) (p : IsFree r.journal s) (id n : ℕ) (v : Share) (cs : List (ℕ × JournalView))
    → get_elem? s.views id ≡ some v → n ≢ 0 → 0 < stake v → id < length s.views → IsLocked start (stepped s 0 n id cs (record v { found = Some r.journal }) (takes 0 r.journal))
is_taken start s r p id n v cs at not has within = let w : Share = record v { found = Some r.journal } in record {
  word = let l = length-set s.words 0 n in let w = r.word in omega (arith, l, w);
  journal = r.journal;
  accounts = accounts_as start r.journal s.views (set s.views id w) (λ f. sum_same (weighed f) s.views id v w at refl) (sum_same counted s.views id v w at refl)
      (λ calls each. each_set (λ (z : Share). Placed calls z.places z.made) s.views id w (each id v at) each) r.accounts;
  fits = let e = sum_same allowed s.views id v w at refl in let f = r.fits in omega (arith, e, f);
  one_start = sum_same began s.views id v w at refl ∙ r.one_start;
  each = each_set (IsShare start) s.views id w (share_as start v (Some r.journal) (r.each id v at)) r.each;
  place = inr record {
    word = λ e. not (sym (get_or-set_same s.words 0 n 0 r.word) ∙ e);
    home = ap (λ h. set h 0 none) p.home;
    taker = id;
    share = w;
    there = set_here s.views id w within;
    found = refl;
    has = has;
    others = λ i u here ne. ⊎_elim (λ (t : (i ≡ id) × (w ≡ u)). absurd (ne t.0)) (λ (t : (i ≢ id) × (get_elem? s.views i ≡ some u)). p.idle i u t.1) (at_set s.views id i w u here);
  };
}

-- where there is an element
pub at_within : {A : Type 0} (l : List A) (i : ℕ) (a : A) → get_elem? l i ≡ some a → i < length l
at_within [] i a at = absurd (some-ne-none a (sym at))
at_within (x ∷ xs) zero a at = omega arith
at_within (x ∷ xs) (suc i) a at = let r = at_within xs i a at in omega (arith, r)

-- who has what the lock began with has it once
pub begun_once : (start : JournalView) (s : State JournalView Share) (r : IsLocked start s) (id : ℕ) (v : Share) → get_elem? s.views id ≡ some v
    → (f : JournalView → ℕ) → sum_by f v.begun ≤ f start
begun_once start s r id v at f =
    let x : ℕ = f start in let n : ℕ = length v.begun in
    let some_is = le_sum began s.views id v at in let one = r.one_start in
    let at_most : n ≤ 1 = omega (arith, some_is, one) in
    let times : n * x ≤ 1 * x = mul-le-mul_right x at_most in
    let same : sum_by f v.begun ≡ n * x = (r.each id v at).alike f in
    omega (arith, times, same)

-- a caller's calls are among the journal's
pub calls_among : (start : JournalView) (s : State JournalView Share) (r : IsLocked start s) (id : ℕ) (v : Share) → get_elem? s.views id ≡ some v
    → (kind : ℕ) → share_calls v kind ≤ calls_at r.journal.log.totals kind
calls_among start s r id v at kind =
    let is : Exchange → ℕ = λ call. if is_of kind call then 1 else 0 in
    let begun = begun_once start s r id v at (λ j. calls_at j.log.totals kind) in
    let made : calls_in kind v.made ≤ sum_by (weighed is) s.views = le_sum (weighed is) s.views id v at in
    let same : calls_in kind r.accounts.calls ≡ sum_by (weighed is) s.views = r.accounts.same is in
    let all = r.accounts.counts kind in
    omega (arith, begun, made, same, all)

-- the exchange that takes the lock
pub lock_takes : (start : JournalView) (slots id : ℕ) (me : Me JournalView Share) (f : ℕ → ℕ) (st : Step JournalView) → ((n : ℕ) → f n ≢ 0) → 0 < stake me.0
    → Allows (IsLocked start) slots id me 0 f (taking st me)
lock_takes start slots id me f st not has s r _ at _ = ⊎_elim
    (λ (p : IsFree r.journal s). (
      record me.0 { found = Some r.journal },
      takes 0 r.journal,
      subst (λ h. get_elem? h 0 ≡ some (some r.journal)) (sym p.home) refl,
      is_taken start s r p id (f (slice_index s.words 0)) me.0 me.1 at (not (slice_index s.words 0)) has (at_within s.views id me.0 at),
      (
        (λ _. record {
          journal = r.journal;
          view = refl;
          slot = refl;
          room = let le = le_sum allowed s.views id me.0 at in let e = r.fits in omega (arith, le, e);
          fixed = r.accounts.fixed ∙ ap (λ (j : JournalView). fixed_of j.view) (sym ((r.each id me.0 at).knows has));
          counts = calls_among start s r id me.0 at;
        }),
        (λ ne. absurd (ne p.word)),
      ),
    ))
    (λ (p : IsTaken r.journal s). (
      me.0,
      keeps,
      tt,
      stays_taken start s r p id (f (slice_index s.words 0)) me.0 me.1 at (not (slice_index s.words 0)),
      ((λ zero_is. absurd (p.word zero_is)), (λ _. refl)),
    ))
    r.place

-- and its calls once
pub begun_within : (start : JournalView) (s : State JournalView Share) (r : IsLocked start s) (id : ℕ) (v : Share) → get_elem? s.views id ≡ some v
    → sum_by (λ (j : JournalView). all_calls j.log.totals) v.begun ≤ all_calls start.log.totals
begun_within start s r id v at = begun_once start s r id v at (λ j. all_calls j.log.totals)

-- a look
pub lock_looks : (start : JournalView) (slots id : ℕ) (me : Me JournalView Share) (st : Step JournalView) → 0 < stake me.0
    → Allows (IsLocked start) slots id me 0 (λ n. n) (looking st me)
lock_looks start slots id me st some_is s r _ at _ = (
  me.0,
  keeps,
  tt,
  subst (λ (ws : List ℕ). IsLocked start record { words = ws; homes = s.homes; views = set s.views id me.0 }) (sym (set-get_or s.words 0 0))
      (subst (λ (vs : List Share). IsLocked start record { words = s.words; homes = s.homes; views = vs }) (sym (set_again s.views id me.0 at)) r),
  (
    refl,
    (let a = le_sum allowed s.views id me.0 at in
        let b = le_sum counted s.views id me.0 at in
        let c = begun_within start s r id me.0 at in
        let fits = r.fits in
        let many = r.accounts.many in
        let all = r.accounts.all in
        omega (arith, a, b, c, fits, many, all)),
  ),
)

-- a step on another word than the lock's
pub lock_rests : (start : JournalView) (slots id : ℕ) (me : Me JournalView Share) (word : ℕ) (f : ℕ → ℕ) (st : Step JournalView) → word ≢ 0
    → Allows (IsLocked start) slots id me word f (resting st me)
lock_rests start slots id me word f st another s r _ at _ = (me.0, keeps, tt, rests, refl)
  where
    n : ℕ
    n = f (slice_index s.words word)

    first : slice_index (set s.words word n) 0 ≡ slice_index s.words 0
    first = get_or-set_other s.words word 0 n 0 (λ e. another (sym e))

    rests : IsLocked start (stepped s word n id me.1 me.0 keeps)
    rests = subst (λ (vs : List Share). IsLocked start record { words = set s.words word n; homes = s.homes; views = vs }) (sym (set_again s.views id me.0 at)) record {
      word = let l = length-set s.words word n in let w = r.word in omega (arith, l, w);
      journal = r.journal;
      accounts = r.accounts;
      fits = r.fits;
      one_start = r.one_start;
      each = r.each;
      place = ⊎_elim
          (λ (p : IsFree r.journal s). inl record { word = first ∙ p.word; home = p.home; idle = p.idle })
          (λ (p : IsTaken r.journal s). inr record {
            word = λ e. p.word (sym first ∙ e);
            home = p.home;
            taker = p.taker;
            share = p.share;
            there = p.there;
            found = p.found;
            has = p.has;
            others = p.others;
          })
          r.place;
    }

-- the lock is given back as it was taken
is_returned : (start : JournalView) (s : State JournalView Share) (r : IsLocked start s) (p : IsTaken r.journal s) (id : ℕ) (v : Share)
    → get_elem? s.views id ≡ some v → id ≡ p.taker → IsLocked start (stepped s 0 0 id ((0, r.journal) ∷ []) (record v { found = None }) gives)
is_returned start s r p id v at same = let w : Share = record v { found = None } in record {
  word = let l = length-set s.words 0 0 in let w = r.word in omega (arith, l, w);
  journal = r.journal;
  accounts = accounts_as start r.journal s.views (set s.views id w) (λ f. sum_same (weighed f) s.views id v w at refl) (sum_same counted s.views id v w at refl)
      (λ calls each. each_set (λ (z : Share). Placed calls z.places z.made) s.views id w (each id v at) each) r.accounts;
  fits = let e = sum_same allowed s.views id v w at refl in let f = r.fits in omega (arith, e, f);
  one_start = sum_same began s.views id v w at refl ∙ r.one_start;
  each = each_set (IsShare start) s.views id w (share_as start v None (r.each id v at)) r.each;
  place = inl record {
    word = get_or-set_same s.words 0 0 0 r.word;
    home = ap (λ h. set h 0 (some r.journal)) p.home;
    idle = λ i u here. ⊎_elim (λ (t : (i ≡ id) × (w ≡ u)). subst (λ (z : Share). z.found ≡ None) t.1 refl) (λ (t : (i ≢ id) × (get_elem? s.views i ≡ some u)). p.others i u t.1 (λ e. t.0 (e ∙ sym same))) (at_set s.views id i w u here);
  };
}

-- the exchange that gives the lock back, from a caller that made no call
pub lock_returns : (start : JournalView) (slots id : ℕ) (me : Me JournalView Share) (journal : JournalView) (st : Step JournalView)
    → me.0.found ≡ Some journal → me.1 ≡ (0, journal) ∷ [] → Allows (IsLocked start) slots id me 0 (λ _. 0) (returning st me)
lock_returns start slots id me journal st found held =
    subst (λ (cs : List (ℕ × JournalView)). Allows (IsLocked start) slots id (me.0, cs) 0 (λ _. 0) (returning st (me.0, cs))) (sym held) (λ s r _ at _. ⊎_elim
    (λ (p : IsFree r.journal s). let f = p.idle id me.0 at in cc (f, found))
    (λ (p : IsTaken r.journal s). ⊎_elim
    (λ (e : id ≡ p.taker).
    let same : me.0 ≡ p.share = some-injective me.0 p.share (sym at ∙ (ap (get_elem? s.views) e ∙ p.there)) in
    let is : r.journal ≡ journal = sym (same_Some journal r.journal (sym found ∙ (ap (λ (z : Share). z.found) same ∙ p.found))) in (
      record me.0 { found = None },
      gives,
      tt,
      subst (λ (j : JournalView). IsLocked start (stepped s 0 0 id ((0, j) ∷ []) (record me.0 { found = None }) gives)) is (is_returned start s r p id me.0 at e),
      refl,
    ))
    (λ (ne : id ≢ p.taker). let f = p.others id me.0 at ne in cc (f, found))
    (cases_eq id p.taker))
    r.place)

-- a part of the allowance is handed over
pub lock_splits : (start : JournalView) (id : ℕ) (v : Share) → HANDED < v.allowance → v.found ≡ None → Splits (IsLocked start) id v (handing v) (handed v)
lock_splits start id v more idle s r at =
    let left : Share = handing v in let right : Share = handed v in
    let vs : List Share = set s.views id left in
    let same : (f : Exchange → ℕ) → sum_by (weighed f) (vs ++ right ∷ []) ≡ sum_by (weighed f) s.views =
    λ f. let p = sum_by_push (weighed f) vs right in let q = sum_same (weighed f) s.views id v left at refl in omega (arith, p, q) in
    let many : sum_by counted (vs ++ right ∷ []) ≡ sum_by counted s.views =
    let p = sum_by_push counted vs right in let q = sum_same counted s.views id v left at refl in omega (arith, p, q) in
    let mine : IsShare start v = r.each id v at in
    let one : IsShare start left = record { knows = λ h. mine.knows (omega arith); has = λ h. omega arith; alike = mine.alike } in
    let other : IsShare start right = record { knows = λ h. mine.knows (omega arith); has = λ h. absurd (omega arith); alike = λ f. omega arith } in
    record {
      word = r.word;
      journal = r.journal;
      accounts = accounts_as start r.journal s.views (vs ++ right ∷ []) same many
          (λ calls each i u here. ⊎_elim (λ (t : get_elem? vs i ≡ some u). each_set (λ (z : Share). Placed calls z.places z.made) s.views id left (each id v at) each i u t) (λ (t : right ≡ u). subst (λ (z : Share). Placed calls z.places z.made) t tt) (at_snoc vs right u i here)) r.accounts;
      fits = let p = sum_by_push allowed vs right in let q = sum_change allowed s.views id v left at in let e = r.fits in omega (arith, p, q, e);
      one_start = let p = sum_by_push began vs right in let q = sum_same began s.views id v left at refl in let e = r.one_start in omega (arith, p, q, e);
      each = λ i u here. ⊎_elim (λ (t : get_elem? vs i ≡ some u). each_set (IsShare start) s.views id left one r.each i u t) (λ (t : right ≡ u). subst (IsShare start) t other) (at_snoc vs right u i here);
      place = ⊎_elim
          (λ (p : IsFree r.journal s). inl record {
            word = p.word;
            home = p.home;
            idle = λ i u here. ⊎_elim (λ (t : get_elem? vs i ≡ some u). each_set (λ (z : Share). z.found ≡ None) s.views id left idle p.idle i u t) (λ (t : right ≡ u). subst (λ (z : Share). z.found ≡ None) t refl) (at_snoc vs right u i here);
          })
          (λ (p : IsTaken r.journal s). inr record {
            word = p.word;
            home = p.home;
            taker = p.taker;
            share = p.share;
            there = at_longer vs (right ∷ []) p.taker p.share (set_else s.views id p.taker left (apart p) ∙ p.there);
            found = p.found;
            has = p.has;
            others = λ i u here ne. ⊎_elim
                (λ (t : get_elem? vs i ≡ some u). ⊎_elim (λ (z : (i ≡ id) × (left ≡ u)). subst (λ (y : Share). y.found ≡ None) z.1 idle) (λ (z : (i ≢ id) × (get_elem? s.views i ≡ some u)). p.others i u z.1 ne) (at_set s.views id i left u t))
                (λ (t : right ≡ u). subst (λ (z : Share). z.found ≡ None) t refl) (at_snoc vs right u i here);
          })
          r.place;
    }
  where
    apart : (p : IsTaken r.journal s) → p.taker ≢ id
    apart p e = let same : p.share ≡ v = some-injective p.share v (sym p.there ∙ (ap (get_elem? s.views) e ∙ at)) in
        let f : p.share.found ≡ None = ap (λ (z : Share). z.found) same ∙ idle in let g = p.found in cc (f, g)

-- two shares are one
pub lock_joins : (start : JournalView) (id : ℕ) (v : Share) (other : ℕ) (w : Share) → v.found ≡ None → w.found ≡ None → 0 < stake v
    → Joins (IsLocked start) id v other w (joined v w) nobody
lock_joins start id v other w idle_v idle_w some_is s r at ne there =
    let both : Share = joined v w in
    let vs : List Share = set s.views id both in
    let here : get_elem? s.views other ≡ some w = sym (set_else s.views id other both ne) ∙ there in
    let mine : IsShare start v = r.each id v at in
    let its : IsShare start w = r.each other w here in
    let made : (f : Exchange → ℕ) → sum_by f (v.made ++ w.made) ≡ sum_by f v.made + sum_by f w.made = λ f. sum_by-append f v.made w.made in
    let long : length (v.made ++ w.made) ≡ length v.made + length w.made = length-append v.made w.made in
    let begun : length (v.begun ++ w.begun) ≡ length v.begun + length w.begun = length-append v.begun w.begun in
    let same : (f : Exchange → ℕ) → sum_by (weighed f) (set vs other nobody) ≡ sum_by (weighed f) s.views =
    λ f. let p = sum_change (weighed f) s.views id v both at in let q = sum_change (weighed f) vs other w nobody there in let m = made f in omega (arith, p, q, m) in
    let many : sum_by counted (set vs other nobody) ≡ sum_by counted s.views =
    let p = sum_change counted s.views id v both at in let q = sum_change counted vs other w nobody there in omega (arith, p, q, long) in
    let one : IsShare start both = record {
      knows = λ h. mine.knows some_is;
      has = λ h. ⊎_elim
          (λ (z : 0 < length v.begun). let k = mine.has z in omega (arith, k, long))
          (λ (z : length v.begun ≤ 0). let k = its.has (omega (arith, h, z, begun)) in omega (arith, k, long))
          (cases_lt 0 (length v.begun));
      alike = λ f. let a = mine.alike f in let b = its.alike f in let c = sum_by-append f v.begun w.begun in let d = ap (λ (n : ℕ). n * f start) begun in omega (arith, a, b, c, d);
    } in
    let nil : IsShare start nobody = record { knows = λ h. absurd (omega arith); has = λ h. absurd (omega arith); alike = λ f. omega arith } in
    let idle_set : ((i : ℕ) (u : Share) → get_elem? s.views i ≡ some u → u.found ≡ None) → (i : ℕ) (u : Share) → get_elem? (set vs other nobody) i ≡ some u → u.found ≡ None =
    λ none_is. each_set (λ (z : Share). z.found ≡ None) vs other nobody refl (each_set (λ (z : Share). z.found ≡ None) s.views id both idle_v none_is) in
    record {
      word = r.word;
      journal = r.journal;
      accounts = accounts_as start r.journal s.views (set vs other nobody) same many
          (λ calls each. each_set (λ (z : Share). Placed calls z.places z.made) vs other nobody tt
          (each_set (λ (z : Share). Placed calls z.places z.made) s.views id both (placed_both calls v.places v.made w.places w.made (each id v at) (each other w here)) each)) r.accounts;
      fits = let p = sum_change allowed s.views id v both at in let q = sum_change allowed vs other w nobody there in let e = r.fits in omega (arith, p, q, e);
      one_start = let p = sum_change began s.views id v both at in let q = sum_change began vs other w nobody there in let e = r.one_start in omega (arith, p, q, e, begun);
      each = each_set (IsShare start) vs other nobody nil (each_set (IsShare start) s.views id both one r.each);
      place = ⊎_elim
          (λ (p : IsFree r.journal s). inl record { word = p.word; home = p.home; idle = idle_set p.idle })
          (λ (p : IsTaken r.journal s). inr record {
            word = p.word;
            home = p.home;
            taker = p.taker;
            share = p.share;
            there = set_else vs other p.taker nobody (apart p other w here idle_w) ∙ (set_else s.views id p.taker both (apart p id v at idle_v) ∙ p.there);
            found = p.found;
            has = p.has;
            others = λ i u now other_is. ⊎_elim
                (λ (z : (i ≡ other) × (nobody ≡ u)). subst (λ (y : Share). y.found ≡ None) z.1 refl)
                (λ (z : (i ≢ other) × (get_elem? vs i ≡ some u)). ⊎_elim (λ (y : (i ≡ id) × (both ≡ u)). subst (λ (x : Share). x.found ≡ None) y.1 idle_v) (λ (y : (i ≢ id) × (get_elem? s.views i ≡ some u)). p.others i u y.1 other_is) (at_set s.views id i both u z.1))
                (at_set vs other i nobody u now);
          })
          r.place;
    }
  where
    apart : (p : IsTaken r.journal s) (i : ℕ) (u : Share) → get_elem? s.views i ≡ some u → u.found ≡ None → p.taker ≢ i
    apart p i u at_i idle e = let same : p.share ≡ u = some-injective p.share u (sym p.there ∙ (ap (get_elem? s.views) e ∙ at_i)) in
        let f : p.share.found ≡ None = ap (λ (z : Share). z.found) same ∙ idle in let g = p.found in cc (f, g)

-- who took the lock holds the journal
pub took_holds : (before after : Me JournalView Share) → before.1 ≡ [] → 0 < before.0.allowance → Took before after → Holds after
took_holds before after empty may took = record {
  journal = took.journal;
  found = ap (λ (v : Share). v.found) took.view;
  slot = took.slot ∙ ap (λ (cs : List (ℕ × JournalView)). (0, took.journal) ∷ cs) empty;
  may = subst (λ (v : Share). 0 < v.allowance) (sym took.view) may;
  room = let r = took.room in omega (arith, r, may);
  fixed = took.fixed ∙ ap (λ (v : Share). fixed_of v.start.view) (sym took.view);
}

-- who took the lock has found the journal, and may make a call where it has allowance
pub took_all : (before after : Me JournalView Share) → before.1 ≡ [] → Took before after → Takes before after
took_all before after empty took = record {
  took = took;
  holds = λ may. took_holds before after empty may took;
  found = record {
    journal = took.journal;
    found = ap (λ (v : Share). v.found) took.view;
    slot = took.slot ∙ ap (λ (cs : List (ℕ × JournalView)). (0, took.journal) ∷ cs) empty;
  };
}
