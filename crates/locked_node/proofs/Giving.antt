-- The exchange that gives the lock back keeps its rule, where the journal made one call more.
use Rattle.std.proofs.Common.{◌≡◌, ◌≢◌, ℕ, ◌+◌, ◌-◌, ◌<◌, List, [], ◌∷◌, ◌++◌, length, drop, get_or, set, Some, None, All, refl, sym, ap, ◌∙◌, subst, inl, ⊎_elim, arith, length-set, get_or-set_same}
use Rattle.std.specs.Prelude.{sum_by}
use Rattle.std.proofs.lemmas.Bool.{cases_eq}
use Rattle.std.proofs.lemmas.Option.{same_Some}
use Rattle.std.proofs.lemmas.List.{length-append}
use Rattle.std.proofs.Math.Seq.{drop-append_seam}
use Rattle.std.proofs.lemmas.List.Sums.{sum_by_push}
use mathlib.Core.Option.{some, some-injective}
use lib.ListN.{get_elem?}
use Rattle.atomic_table.specs.Table.{State, Me, Step, gives, stepped, Allows}
use Rattle.atomic_table.proofs.Lists.{at_set}
use Rattle.node_core.specs.declared.exchange.Exchange.{Exchange}
use Rattle.locked_node.specs.declared.rule.Share.{Share}
use Rattle.locked_node.specs.Totals.{Counts, number_at, all_calls}
use Rattle.locked_node.specs.Journal.{JournalView, LogView, JournalStep, Appends}
use Rattle.locked_node.specs.Lock.{Accounts, IsShare, IsFree, IsTaken, IsLocked, given, giving, last_call, last_place, Placed}
use Rattle.locked_node.proofs.Sums.{same_plus, same_equal}
use Rattle.locked_node.proofs.Growing.{step_grows}
use Rattle.locked_node.proofs.Replays.{replay_more}
use Rattle.locked_node.proofs.Histories.{calls_push, sum_push, tail_is}
use Rattle.locked_node.proofs.Shares.{sum_change, sum_same, each_set}
use Rattle.locked_node.proofs.Orders.{placed_longer, placed_push, placed_below}
use Rattle.locked_node.proofs.Locking.{allowed, began, counted, weighed}

-- the last of a list
last_is : (tail calls : List Exchange) (call : Exchange) → tail ≡ calls ++ call ∷ [] → last_call tail ≡ call ∷ []
last_is tail calls call e =
    let long : length (calls ++ call ∷ []) ≡ length calls + 1 = length-append calls (call ∷ []) in
    let n : length (calls ++ call ∷ []) - 1 ≡ length calls = omega (arith, long) in
    ap last_call e ∙ (ap (λ (k : ℕ). drop k (calls ++ call ∷ [])) n ∙ drop-append_seam calls (call ∷ []))

-- the last call of a log
pub last_of : (old : LogView) (call : Exchange) (new : LogView) → Appends old call new → last_call new.tail ≡ call ∷ []
last_of old call new a = last_is new.tail _ call (tail_is old call new a)

-- the last call's place is behind those before
place_is : (start journal : JournalView) (v : Share) (call : Exchange) (new : JournalView) (calls : List Exchange) → v.start ≡ start → Counts journal.log.totals call new.log.totals
    → all_calls journal.log.totals ≡ all_calls start.log.totals + length calls → last_place v new ≡ length calls
place_is start journal v call new calls knows more all =
    let begun = ap (λ (j : JournalView). all_calls j.log.totals) knows in let one = more.all in
    omega (arith, begun, one, all)

-- the calls of all callers, with one more
accounts_more : (start journal : JournalView) (vs : List Share) (id : ℕ) (v : Share) (call : Exchange) (new : JournalView) → get_elem? vs id ≡ some v
    → v.start ≡ start → JournalStep journal call new → Accounts start vs journal → Accounts start (set vs id (given v new)) new
accounts_more start journal vs id v call new at knows step k = let more = step.appended.counted in
    let made : v.made ++ last_call new.log.tail ≡ v.made ++ call ∷ [] = ap (λ l. v.made ++ l) (last_of journal.log call new.log step.appended) in record {
      calls = k.calls ++ call ∷ [];
      replay = replay_more start.view k.calls journal.view call new.view k.replay step.step;
      same = λ f. let a = sum_by_push f k.calls call in let b = sum_change (weighed f) vs id v (given v new) at in let c = k.same f in
          let d = ap (sum_by f) made ∙ sum_by_push f v.made call in omega (arith, a, b, c, d);
      many = let a = length-append k.calls (call ∷ []) in let b = sum_change counted vs id v (given v new) at in let c = k.many in
          let d = ap length made ∙ length-append v.made (call ∷ []) in omega (arith, a, b, c, d);
      counts = λ kind. let a = more.calls kind in let b = k.counts kind in let c = calls_push kind k.calls call in omega (arith, a, b, c);
      sums = λ kind p. more.sums kind p ∙ (same_plus _ _ (number_at kind p call) (k.sums kind p) ∙ same_equal _ _ (let c = sum_push kind p k.calls call in omega (arith, c)));
      all = let a = more.all in let b = k.all in let c = length-append k.calls (call ∷ []) in omega (arith, a, b, c);
      fixed = (step_grows journal.view call new.view step.step).fixed ∙ k.fixed;
      placed = each_set (λ (z : Share). Placed (k.calls ++ call ∷ []) z.places z.made) vs id (given v new)
          (subst (λ (l : List Exchange). Placed (k.calls ++ call ∷ []) (v.places ++ last_place v new ∷ []) l) (sym made)
          (placed_push k.calls call v.places v.made (last_place v new) (place_is start journal v call new k.calls knows more k.all) (k.placed id v at)))
          (λ i u here. placed_longer k.calls call u.places u.made (k.placed i u here));
    }

-- the lock is given back
is_given : (start : JournalView) (s : State JournalView Share) (r : IsLocked start s) (p : IsTaken r.journal s) (id : ℕ) (v : Share) (call : Exchange) (new : JournalView)
    → get_elem? s.views id ≡ some v → id ≡ p.taker → 0 < v.allowance → JournalStep r.journal call new
    → IsLocked start (stepped s 0 0 id ((0, new) ∷ []) (given v new) gives)
is_given start s r p id v call new at same may step =
    let more = step.appended.counted in
    let w : Share = given v new in
    let mine = r.each id v at in
    let made : length (v.made ++ last_call new.log.tail) ≡ length v.made + 1 = ap length (ap (λ l. v.made ++ l) (last_of r.journal.log call new.log step.appended)) ∙ length-append v.made (call ∷ []) in record {
      word = let l = length-set s.words 0 0 in let w = r.word in omega (arith, l, w);
      journal = new;
      accounts = accounts_more start r.journal s.views id v call new at (mine.knows (omega (arith, may))) step r.accounts;
      fits = let a = sum_change allowed s.views id v w at in let b = r.fits in let c = more.all in omega (arith, a, b, c);
      one_start = sum_same began s.views id v w at refl ∙ r.one_start;
      each = each_set (IsShare start) s.views id w record { knows = λ _. mine.knows (omega arith); has = λ _. omega (arith, made); alike = mine.alike } r.each;
      place = inl record {
        word = get_or-set_same s.words 0 0 0 r.word;
        home = ap (λ h. set h 0 (some new)) p.home;
        idle = λ i u here. ⊎_elim (λ (t : (i ≡ id) × (w ≡ u)). subst (λ (z : Share). z.found ≡ None) t.1 refl) (λ (t : (i ≢ id) × (get_elem? s.views i ≡ some u)). p.others i u t.1 (λ e. t.0 (e ∙ sym same))) (at_set s.views id i w u here);
      };
    }

-- the exchange that gives the lock back, from a caller that found `old` and has made it `new`
pub lock_gives : (start : JournalView) (slots id : ℕ) (me : Me JournalView Share) (old : JournalView) (call : Exchange) (new : JournalView) (st : Step JournalView)
    → 0 < me.0.allowance → me.0.found ≡ Some old → me.1 ≡ (0, new) ∷ [] → JournalStep old call new → Allows (IsLocked start) slots id me 0 (λ _. 0) (giving st me)
lock_gives start slots id me old call new st may found held step =
    subst (λ (cs : List (ℕ × JournalView)). Allows (IsLocked start) slots id (me.0, cs) 0 (λ _. 0) (giving st (me.0, cs))) (sym held) (λ s r _ at _. ⊎_elim
    (λ (p : IsFree r.journal s). let f = p.idle id me.0 at in cc (f, found))
    (λ (p : IsTaken r.journal s). ⊎_elim
    (λ (e : id ≡ p.taker).
    let same : me.0 ≡ p.share = some-injective me.0 p.share (sym at ∙ (ap (get_elem? s.views) e ∙ p.there)) in
    let is : old ≡ r.journal = same_Some old r.journal (sym found ∙ (ap (λ (z : Share). z.found) same ∙ p.found)) in (
      given me.0 new,
      gives,
      tt,
      is_given start s r p id me.0 call new at e may (subst (λ (j : JournalView). JournalStep j call new) is step),
      (λ j e'. let same : new ≡ j = ap (λ (l : List (ℕ × JournalView)). (get_or l 0 (0, new)).1) e' in
          let here = place_is start r.journal me.0 call new r.accounts.calls ((r.each id me.0 at).knows (omega (arith, may)))
          (subst (λ (k : JournalView). JournalStep k call new) is step).appended.counted r.accounts.all in (
            ap (λ (z : JournalView). (given me.0 z, [])) same,
            subst (λ (z : JournalView). All (λ (place : ℕ). place < last_place me.0 z) me.0.places) same
                (subst (λ (n : ℕ). All (λ (place : ℕ). place < n) me.0.places) (sym here) (placed_below r.accounts.calls me.0.places me.0.made (r.accounts.placed id me.0 at))),
          )),
    ))
    (λ (ne : id ≢ p.taker). let f = p.others id me.0 at ne in cc (f, found))
    (cases_eq id p.taker))
    r.place)
