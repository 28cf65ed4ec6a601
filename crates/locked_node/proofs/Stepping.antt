-- A caller makes one call.
use Rattle.std.proofs.Common.{◌≡◌, ℕ, ◌-◌, ◌<◌, List, [], ◌∷◌, ◌++◌, Some, None, All, sym, ap, ◌∙◌, subst, arith}
use Rattle.std.proofs.lemmas.List.{length-append}
use Rattle.std.proofs.lemmas.Option.{same_Some}
use Rattle.atomic_table.specs.Table.{Me}
use Rattle.atomic_table.specs.Seated.{TableId}
use Rattle.node_core.specs.declared.exchange.Exchange.{Exchange}
use Rattle.locked_node.specs.declared.rule.Share.{Share}
use Rattle.locked_node.specs.declared.tally.Tally.{Tally}
use Rattle.locked_node.specs.declared.caller.Caller.TheInside.{Inside}
use Rattle.locked_node.specs.Replay.{fixed_of, IsPossible}
use Rattle.node_core.specs.View.{NodeView}
use Rattle.locked_node.specs.Totals.{Counts, number_at, calls_at}
use Rattle.locked_node.specs.Journal.{JournalView, CountsWithin}
use Rattle.locked_node.specs.Lock.{Took, IsCopy, Calls, Given, CallerView, CallerStep, Counted, IsTotalOfShare, given, last_place}
use Rattle.locked_node.specs.CallerOf.{caller_of, IsCaller}
use Rattle.locked_node.proofs.Sums.{same_plus, same_equal}
use Rattle.locked_node.proofs.Histories.{calls_push, sum_push, fewer_counted}
use Rattle.locked_node.proofs.Giving.{last_of}

-- a share with one call more, at this place
abbrev pub answered : Share → Exchange → ℕ → Share
answered v call place = record v { allowance = v.allowance - 1; made = v.made ++ call ∷ []; places = v.places ++ place ∷ []; found = None }

-- the lock was taken, the call made, and the lock given back
pub share_steps : (before took held after : Me JournalView Share) (call : Exchange) → Took before took → Calls took call held → Given held after
    → (place : ℕ) × (after ≡ (answered before.0 call place, [])) × All (λ (earlier : ℕ). earlier < place) before.0.places
share_steps before took held after call t c g =
    let view : held.0 ≡ record before.0 { found = Some t.journal } = c.view ∙ t.view in
    let back = g c.new c.slot in (
      last_place before.0 c.new,
      back.0 ∙ (ap (λ (v : Share). (given v c.new, [])) view ∙ ap (λ (l : List Exchange). (
        record before.0 {
          allowance = before.0.allowance - 1;
          made = before.0.made ++ l;
          places = before.0.places ++ last_place before.0 c.new ∷ [];
          found = None;
        },
        [],
      )) (last_of c.old.log call c.new.log c.step.appended)),
      subst (λ (v : Share). All (λ (earlier : ℕ). earlier < last_place v c.new) v.places) view back.1,
    )

-- its totals are those of its share
pub total_more : (v : Share) (call : Exchange) (place : ℕ) (old new : Tally) → IsTotalOfShare v old → Counts old call new → IsTotalOfShare (answered v call place) new
total_more v call place old new is more = record {
  calls = λ k. let a = more.calls k in let b = is.calls k in let c = calls_push k v.made call in omega (arith, a, b, c);
  sums = λ k p. more.sums k p ∙ (same_plus _ _ (number_at k p call) (is.sums k p) ∙ same_equal _ _ (let c = sum_push k p v.made call in omega (arith, c)));
  all = let a = more.all in let b = is.all in let c = length-append v.made (call ∷ []) in omega (arith, a, b, c);
}

-- one call was made by a caller
pub record Makes {S : Type 0} (old new : Inside S) (call : Exchange) : Type 0 where
  pub may : 0 < old.allowance
  pub possible : IsPossible (fixed_of old.seat.me.0.start.view) call
  pub own : new.seat.table_id ≡ old.seat.table_id
  pub place : ℕ
  pub seat : new.seat.me ≡ (answered old.seat.me.0 call place, [])
  pub later : All (λ (earlier : ℕ). earlier < place) old.seat.me.0.places
  pub left : new.allowance ≡ old.allowance - 1
  pub counts : Counts old.tally call new.tally

-- the lock was taken, the call made, the lock given back, and the call counted
pub makes : {S : Type 0} {took_at held_at : TableId} (took held : Me JournalView Share) (old new : Inside S) (call : Exchange) → 0 < old.allowance
    → took_at ≡ old.seat.table_id → held_at ≡ took_at → new.seat.table_id ≡ held_at → Took old.seat.me took → Calls took call held → Given held new.seat.me
    → new.allowance ≡ old.allowance - 1 → Counts old.tally call new.tally → Makes old new call
makes took held old new call may at_take at_call at_give t c g left counts = let step = share_steps old.seat.me took held new.seat.me call t c g in record {
  may = may;
  possible = record {
    old = c.old.view;
    new = c.new.view;
    same = c.fixed ∙ ap (λ (v : Share). fixed_of v.start.view) t.view;
    whole = c.step.whole;
    step = c.step.step;
  };
  own = at_give ∙ (at_call ∙ at_take);
  place = step.0;
  seat = step.1;
  later = step.2;
  left = left;
  counts = counts;
}

-- the caller keeps what is true of callers
pub caller_keeps : {S : Type 0} (old new : Inside S) (call : Exchange) → Makes old new call → IsCaller old → IsCaller new
caller_keeps old new call m is =
    let view : new.seat.me.0 ≡ answered old.seat.me.0 call m.place = ap (λ (m : Me JournalView Share). m.0) m.seat in
    let left = m.left in let may = m.may in let all = m.counts.all in record {
      empty = ap (λ (m : Me JournalView Share). m.1) m.seat;
      idle = ap (λ (v : Share). v.found) view;
      allowance = ap (λ (v : Share). v.allowance) view ∙ (ap (λ (n : ℕ). n - 1) is.allowance ∙ sym left);
      totals = subst (λ (v : Share). IsTotalOfShare v new.tally) (sym view) (total_more old.seat.me.0 call m.place old.tally new.tally is.totals m.counts);
      some = omega (arith, all);
      within = let w = is.within in omega (arith, all, w, left, may);
    }

-- the caller made that step
caller_steps : {S : Type 0} (old new : Inside S) (call : Exchange) → Makes old new call → CallerStep (caller_of old) call (caller_of new)
caller_steps old new call m =
    let view : new.seat.me.0 ≡ answered old.seat.me.0 call m.place = ap (λ (m : Me JournalView Share). m.0) m.seat in
    let left = m.left in let may = m.may in record {
      possible = m.possible;
      lock = m.own;
      start = ap (λ (v : Share). v.start) view;
      allowance = omega (arith, left, may);
      made = ap (λ (v : Share). v.made) view;
      place = m.place;
      places = ap (λ (v : Share). v.places) view;
      later = m.later;
      tally = m.counts;
    }

pub caller_counts : {S R : Type 0} (old new : Inside S) (call : Exchange) (reply at_end : R) (before : CallerView) → caller_of old ≡ before → Makes old new call
    → Counted call reply at_end before (caller_of new)
caller_counts old new call reply at_end before is m = subst (λ (o : CallerView). Counted call reply at_end o (caller_of new)) is (
    let step = caller_steps old new call m in let may = m.may in record {
      made = λ _. step;
      spent = λ none. absurd (omega (arith, may, none));
      same = (step.lock, step.start);
    })

-- a copy of what a caller found counts its calls
pub copy_counts : {S : Type 0} (c : Inside S) (after : Me JournalView Share) (view : NodeView) → IsCaller c → Took c.seat.me after → IsCopy after view → CountsWithin (calls_at c.tally) view
copy_counts c after view is took copy =
    let same : took.journal ≡ copy.journal = same_Some took.journal copy.journal (sym (ap (λ (v : Share). v.found) took.view) ∙ copy.found) in
    fewer_counted (calls_at c.tally) (calls_at copy.journal.log.totals) view
    (λ kind. let mine = is.totals.calls kind in let among = took.counts kind in let is_same = ap (λ (j : JournalView). calls_at j.log.totals kind) same in omega (arith, mine, among, is_same))
    copy.numbers
