-- The caller to whom everything came back.
use Rattle.std.proofs.Common.{◌≡◌, ◌≢◌, ℕ, ◌+◌, ◌*◌, ◌<◌, ◌≤◌, List, [], ◌∷◌, length, set, None, refl, sym, ap, ◌∙◌, subst, ⊎_elim, arith}
use Rattle.std.specs.Prelude.{sum_by, slice_index, if◌then◌else◌}
use Rattle.std.proofs.lemmas.Bool.{cases_eq, cases_lt}
use Rattle.std.proofs.lemmas.List.Sums.{sum_by-cons}
use mathlib.Core.Option.{some, some-injective, some-ne-none}
use lib.ListN.{get_elem?}
use Rattle.atomic_table.specs.Table.{State}
use Rattle.atomic_table.specs.Seated.{TableId}
use Rattle.atomic_table.proofs.Lists.{set_else}
use Rattle.node_core.specs.declared.exchange.Exchange.{Exchange}
use Rattle.locked_node.specs.declared.rule.Share.{Share}
use Rattle.locked_node.specs.declared.tally.Tally.{Tally}
use Rattle.locked_node.specs.Replay.{Replay, fixed_of}
use Rattle.locked_node.specs.Totals.{SameSum, SameTotals, is_of, number_at, calls_in, sum_in, calls_at, sum_at, all_calls}
use Rattle.locked_node.specs.Journal.{JournalView, CALL_LIMIT}
use Rattle.locked_node.specs.Lock.{IsFree, IsTaken, IsLocked, IsTotalOfShare, IsWhole, IsOfLock, nobody, stake}
use Rattle.locked_node.proofs.Sums.{same_equal}
use Rattle.locked_node.proofs.Orders.{rises_all}
use Rattle.locked_node.proofs.Shares.{sum_change, sum_one, le_sum}
use Rattle.locked_node.proofs.Locking.{allowed, began, counted, weighed, begun_within}

-- the sum of sums
sum_both : {A : Type 0} (f g : A → ℕ) (l : List A) → sum_by (λ (a : A). f a + g a) l ≡ sum_by f l + sum_by g l
sum_both f g [] = refl
sum_both {A = A} f g (x ∷ xs) = let a = sum_by-cons (λ (y : A). f y + g y) x xs in let b = sum_by-cons f x xs in let c = sum_by-cons g x xs in let r = sum_both f g xs in omega (arith, a, b, c, r)

-- nothing weighs nothing
sum_nothing : {A : Type 0} (f : A → ℕ) (l : List A) → length l ≡ 0 → sum_by f l ≡ 0
sum_nothing f [] e = refl
sum_nothing f (x ∷ xs) e = absurd (omega arith)

-- what a caller has of calls and of allowance
abbrev pub owned : Share → ℕ
owned v = v.allowance + length v.made

-- a caller that has anything has a share that has anything
pub share_some : (v : Share) (tally : Tally) → IsTotalOfShare v tally → 0 < v.allowance + all_calls tally → 0 < stake v
share_some v tally is some_is = ⊎_elim
    (λ (h : 0 < length v.begun). omega (arith, h))
    (λ (h : length v.begun ≤ 0). let z = sum_nothing (λ (j : JournalView). all_calls j.log.totals) v.begun (omega (arith, h)) in let a = is.all in omega (arith, z, a, some_is))
    (cases_lt 0 (length v.begun))

-- the journal of the lock of a share's caller
pub of_lock : (start : JournalView) (s : State JournalView Share) (r : IsLocked start s) (id : ℕ) (v : Share) → get_elem? s.views id ≡ some v → v.start ≡ start
    → (lock : TableId) (tally : Tally) (journal : JournalView) → IsTotalOfShare v tally → journal ≡ r.journal
    → IsOfLock (record { lock = lock; start = v.start; allowance = v.allowance; made = v.made; places = v.places; tally = tally }) journal
of_lock start s r id v at knows lock tally journal is same = subst (IsOfLock (record { lock = lock; start = v.start; allowance = v.allowance; made = v.made; places = v.places; tally = tally })) (sym same) record {
  calls = r.accounts.calls;
  replay = subst (λ (j : JournalView). Replay j.view r.accounts.calls r.journal.view) (sym knows) r.accounts.replay;
  fixed = r.accounts.fixed ∙ ap (λ (j : JournalView). fixed_of j.view) (sym knows);
  placed = r.accounts.placed id v at;
  counts = λ kind. r.accounts.counts kind ∙ ap (λ (j : JournalView). calls_at j.log.totals kind + calls_in kind r.accounts.calls) (sym knows);
  sums = λ kind p. subst (λ (j : JournalView). SameSum (sum_at r.journal.log.totals kind p) (sum_at j.log.totals kind p + sum_in kind p r.accounts.calls)) (sym knows) (r.accounts.sums kind p);
  all = r.accounts.all ∙ ap (λ (j : JournalView). all_calls j.log.totals + length r.accounts.calls) (sym knows);
  least = let b = le_sum counted s.views id v at in let c = begun_within start s r id v at in let many = r.accounts.many in let total = r.accounts.all in let mine = is.all in omega (arith, b, c, many, total, mine);
  most = let a = le_sum allowed s.views id v at in let fits = r.fits in omega (arith, a, fits);
}

-- the first word
pub first_word : (words : List ℕ) (n : ℕ) → get_elem? words 0 ≡ some n → slice_index words 0 ≡ n
first_word [] n e = absurd (some-ne-none n (sym e))
first_word (w ∷ ws) n e = some-injective w n e

-- a lock whose word says that it is free has its journal
pub word_free : (start : JournalView) (s : State JournalView Share) (r : IsLocked start s) → get_elem? s.words 0 ≡ some 0 → s.homes ≡ some r.journal ∷ []
word_free start s r zero_is = ⊎_elim (λ (p : IsFree r.journal s). p.home) (λ (p : IsTaken r.journal s). absurd (p.word (first_word s.words 0 zero_is))) r.place

module _ (start : JournalView) (s : State JournalView Share) (r : IsLocked start s) (id : ℕ) (v : Share) (at : get_elem? s.views id ≡ some v)
    (knows : v.start ≡ start) (all : v.allowance + (sum_by (λ (j : JournalView). all_calls j.log.totals) v.begun + length v.made) ≡ CALL_LIMIT) where
  most : (sum_by allowed s.views ≡ v.allowance) × (sum_by counted s.views ≡ length v.made) × (length v.begun * all_calls start.log.totals ≡ all_calls start.log.totals)
  most =
      let x : ℕ = all_calls start.log.totals in let n : ℕ = length v.begun in
      let a = le_sum allowed s.views id v at in let b = le_sum counted s.views id v at in let c = begun_within start s r id v at in
      let fits = r.fits in let many = r.accounts.many in let total = r.accounts.all in
      let same : sum_by (λ (j : JournalView). all_calls j.log.totals) v.begun ≡ n * x = (r.each id v at).alike (λ j. all_calls j.log.totals) in
      (omega (arith, a, b, c, fits, many, total, all), omega (arith, a, b, c, fits, many, total, all), omega (arith, a, b, c, fits, many, total, same, all))

  owns : sum_by owned s.views ≡ owned v
  owns = let e = sum_both allowed counted s.views in let m = most in omega (arith, e, m)

  -- the calls are its own
  pub own_calls : (f : Exchange → ℕ) → sum_by f r.accounts.calls ≡ sum_by f v.made
  own_calls f = r.accounts.same f ∙ sum_one owned (weighed f) s.views id v at (λ i u here z. sum_nothing f u.made (omega arith)) owns

  -- it has what the journal began with
  begun_once : length v.begun ≡ 1
  begun_once =
      let x : ℕ = all_calls start.log.totals in let n : ℕ = length v.begun in
      let c = le_sum began s.views id v at in let one = r.one_start in let m = most.2 in
      ⊎_elim
      (λ (none_is : x ≡ 0). let e = sum_one owned began s.views id v at (λ i u here z. ⊎_elim
      (λ (h : 0 < length u.begun). let k = (r.each i u here).has h in absurd (omega (arith, k, z, none_is)))
      (λ (h : length u.begun ≤ 0). omega (arith, h))
      (cases_lt 0 (length u.begun))) owns in omega (arith, e, one))
      (λ (some_is : x ≢ 0). ⊎_elim
      (λ (h : 0 < n). omega (arith, h, c, one))
      (λ (h : n ≤ 0). let z : n ≡ 0 = omega (arith, h) in let p : n * x ≡ 0 * x = ap (λ (k : ℕ). k * x) z in absurd (some_is (omega (arith, p, m))))
      (cases_lt 0 n))
      (cases_eq x 0)

  begun_is : (f : JournalView → ℕ) → sum_by f v.begun ≡ f start
  begun_is f = let a = (r.each id v at).alike f in let b = ap (λ (n : ℕ). n * f start) begun_once in omega (arith, a, b)

  -- it has all that shares have
  all_stake : sum_by stake s.views ≡ stake v
  all_stake =
      let rest : Share → ℕ = λ u. length u.begun + length u.made in
      let e = sum_both allowed rest s.views in let f = sum_both began counted s.views in
      let m = most in let one = r.one_start in let mine = begun_once in omega (arith, e, f, m.0, m.1, one, mine)

  -- nobody else has the lock
  pub all_free : v.found ≡ None → IsFree r.journal s
  all_free idle = ⊎_elim (λ (p : IsFree r.journal s). p)
      (λ (p : IsTaken r.journal s). absurd (
      let apart : p.taker ≢ id = λ e. let same : p.share ≡ v = some-injective p.share v (sym p.there ∙ (ap (get_elem? s.views) e ∙ at)) in
      let f : p.share.found ≡ None = ap (λ (z : Share). z.found) same ∙ idle in let g = p.found in cc (f, g) in
      let change = sum_change stake s.views id v nobody at in
      let there = set_else s.views id p.taker nobody apart ∙ p.there in
      let le = le_sum stake (set s.views id nobody) p.taker p.share there in
      let all = all_stake in let has = p.has in omega (arith, change, le, all, has)))
      r.place

  pub totals_are : (tally : Tally) → IsTotalOfShare v tally → SameTotals tally r.journal.log.totals
  totals_are tally is = record {
    calls = λ k. let a = is.calls k in let b = begun_is (λ j. calls_at j.log.totals k) in let c = own_calls (λ (x : Exchange). if is_of k x then 1 else 0) in let d = r.accounts.counts k in omega (arith, a, b, c, d);
    sums = λ k p. is.sums k p ∙ (same_equal _ _ (let b = begun_is (λ j. sum_at j.log.totals k p) in let c = own_calls (number_at k p) in omega (arith, b, c)) ∙ sym (r.accounts.sums k p));
    all = let a = is.all in let b = begun_is (λ j. all_calls j.log.totals) in let c = r.accounts.all in let d = r.accounts.many in let m = most.1 in omega (arith, a, b, c, d, m);
  }

  pub whole_is : (lock : TableId) (tally : Tally) (journal : JournalView) → IsTotalOfShare v tally → journal ≡ r.journal
      → IsWhole (record { lock = lock; start = v.start; allowance = v.allowance; made = v.made; places = v.places; tally = tally }) journal
  whole_is lock tally journal is same = subst (IsWhole (record { lock = lock; start = v.start; allowance = v.allowance; made = v.made; places = v.places; tally = tally })) (sym same) record {
    totals = totals_are tally is;
    calls = r.accounts.calls;
    replay = subst (λ (j : JournalView). Replay j.view r.accounts.calls r.journal.view) (sym knows) r.accounts.replay;
    same = own_calls;
    placed = r.accounts.placed id v at;
    in_order = λ rise. rises_all r.accounts.calls v.places v.made (r.accounts.placed id v at) rise (let m = most.1 in let n = r.accounts.many in omega (arith, m, n));
  }
