-- A call is appended: what is known of the whole history stays.
use Rattle.std.proofs.Common.{◌≡◌, ℕ, ◌+◌, ◌-◌, ◌<◌, ◌≤◌, Some, List, [], ◌∷◌, ◌++◌, length, drop, sym, ap, ◌∙◌, subst, arith}
use Rattle.std.specs.Prelude.{if◌then◌else◌, slice_get}
use Rattle.std.proofs.lemmas.List.Sums.{sum_by_push, sum_by-append}
use Rattle.std.proofs.lemmas.List.{length-append, append_assoc, drop-append-le, take-append-drop}
use Rattle.node_core.specs.View.{NodeView, IsView}
use Rattle.node_core.specs.declared.exchange.Exchange.{Exchange}
use Rattle.node_core.specs.NodeStep.{NodeStep}
use Rattle.locked_node.specs.declared.tally.Tally.{Tally}
use Rattle.locked_node.specs.declared.call_answer.CallAnswer.{CallAnswer}
use Rattle.locked_node.specs.declared.call_answer.CallAnswer.TheVariants.{Joined, AcquireOpen, WentUp, Served, Restarted}
use Rattle.locked_node.specs.CallNumbers.{index_of, short, long}
use Rattle.locked_node.specs.Replay.{Replay}
use Rattle.locked_node.specs.Totals.{Counts, IsEmpty, number_at, calls_in, sum_in, calls_at, is_of}
use Rattle.locked_node.specs.Journal.{JournalView, LogView, Puts, Appends, JournalStep, HasHistory, CountsWithin, IsTallyOf, TAIL_LIMIT, leaving, trimmed, answers_in}
use Rattle.circular_buffer.specs.Buffer.{keep_last, last_item}
use Rattle.locked_node.proofs.Orders.{get_last}
use Rattle.locked_node.proofs.Sums.{same_plus, same_equal}
use Rattle.locked_node.proofs.Growing.{one, step_grows}
use Rattle.locked_node.proofs.Replays.{replay_both, replay_parts, replay_more, replay_counts}

-- how many calls of a kind, and what sums, with one more call at the end
pub calls_push : (kind : ℕ) (calls : List Exchange) (call : Exchange) → calls_in kind (calls ++ call ∷ []) ≡ calls_in kind calls + (if is_of kind call then 1 else 0)
calls_push kind calls call = sum_by_push (λ (x : Exchange). if is_of kind x then 1 else 0) calls call

pub sum_push : (kind position : ℕ) (calls : List Exchange) (call : Exchange) → sum_in kind position (calls ++ call ∷ []) ≡ sum_in kind position calls + number_at kind position call
sum_push kind position calls call = sum_by_push (number_at kind position) calls call

-- no calls
pub tally_none : (tally : Tally) → IsEmpty tally → IsTallyOf [] tally
tally_none tally empty = record { counts = empty.calls; sums = λ k p. same_equal _ _ (empty.sums k p); all = empty.all }

-- one more call
pub tally_more : (calls : List Exchange) (call : Exchange) (old new : Tally) → IsTallyOf calls old → Counts old call new → IsTallyOf (calls ++ call ∷ []) new
tally_more calls call old new is more = record {
  counts = λ k. more.calls k ∙ (ap (λ (n : ℕ). n + (if is_of k call then 1 else 0)) (is.counts k) ∙ sym (calls_push k calls call));
  sums = λ k p. more.sums k p ∙ (same_plus _ _ (number_at k p call) (is.sums k p) ∙ same_equal _ _ (sym (sum_push k p calls call)));
  all = let a = more.all in let b = is.all in omega (arith, a, b, length-append calls (call ∷ []));
}

-- a tail with one more call
tail_with : (tail : List Exchange) (call : Exchange) → length tail ≤ TAIL_LIMIT
    → keep_last TAIL_LIMIT (tail ++ call ∷ []) ≡ drop (length tail + 1 - TAIL_LIMIT) tail ++ call ∷ []
tail_with tail call short =
    ap (λ (n : ℕ). drop (n - TAIL_LIMIT) (tail ++ call ∷ [])) (length-append tail (call ∷ []))
    ∙ drop-append-le (length tail + 1 - TAIL_LIMIT) tail (call ∷ []) (omega (arith, short))

pub tail_is : (old : LogView) (call : Exchange) (new : LogView) → Appends old call new
    → new.tail ≡ drop (length old.tail + 1 - TAIL_LIMIT) old.tail ++ call ∷ []
tail_is old call new a = a.tail ∙ tail_with old.tail call a.short

-- it has that call last
last_of_more : (calls : List Exchange) (call : Exchange) → last_item (calls ++ call ∷ []) ≡ Some call
last_of_more calls call =
    let long = length-append calls (call ∷ []) in
    let n : length (calls ++ call ∷ []) - 1 ≡ length calls = omega (arith, long) in
    ap (λ (k : ℕ). slice_get (calls ++ call ∷ []) k) n ∙ get_last calls call

-- a call that was put in a log is there
pub put_there : (old : LogView) (call : Exchange) (new : LogView) → Puts old call new → 0 < length new.tail
put_there old call new puts =
    let e = ap length (puts.tail ∙ tail_with old.tail call puts.short) in
    let long = length-append (drop (length old.tail + 1 - TAIL_LIMIT) old.tail) (call ∷ []) in
    omega (arith, e, long)

-- and is what is counted then
pub put_last : (old : LogView) (call : Exchange) (new : LogView) → Puts old call new → last_item new.tail ≡ Some call
put_last old call new puts = ap last_item (puts.tail ∙ tail_with old.tail call puts.short) ∙ last_of_more (drop (length old.tail + 1 - TAIL_LIMIT) old.tail) call

pub put_counted : (old put new : LogView) (call : Exchange) → Puts old call put → new.tail ≡ put.tail → Counts put.totals call new.totals → Appends old call new
put_counted old put new call puts tail counts = record {
  short = puts.short;
  tail = tail ∙ puts.tail;
  counted = subst (λ (t : Tally). Counts t call new.totals) puts.totals counts;
}

-- the tail is what leaves it, and what stays
parts : (tail : List Exchange) → leaving tail ++ drop (length tail + 1 - TAIL_LIMIT) tail ≡ tail
parts tail = take-append-drop (length tail + 1 - TAIL_LIMIT) tail

-- what leaves the tail leads to a view from which the tail does so with one more call
base_moves : (old : JournalView) (call : Exchange) (new : JournalView) → NodeStep old.view call new.view → Appends old.log call new.log
    → (base : NodeView) → Replay base old.log.tail old.view → (next : NodeView) × Replay base (leaving old.log.tail) next × Replay next new.log.tail new.view
base_moves old call new step appends base replay =
    let stays = drop (length old.log.tail + 1 - TAIL_LIMIT) old.log.tail in
    let both = replay_parts base (leaving old.log.tail) stays old.view (subst (λ t. Replay base t old.view) (sym (parts old.log.tail)) replay) in
    (both.0, both.1, subst (λ t. Replay both.0 t new.view) (sym (tail_is old.log call new.log appends)) (replay_more both.0 stays old.view call new.view both.2 step))

-- the history of a journal that makes one more call
pub history_more : (old : JournalView) (call : Exchange) (new : JournalView) → NodeStep old.view call new.view → Appends old.log call new.log → HasHistory old → HasHistory new
history_more old call new step appends h =
    let tail = old.log.tail in
    let stays = drop (length tail + 1 - TAIL_LIMIT) tail in
    let moved = base_moves old call new step appends h.base h.after in
    let calls : (h.past ++ tail) ++ call ∷ [] ≡ (h.past ++ leaving tail) ++ new.log.tail =
    ap (λ (t : List Exchange). (h.past ++ t) ++ call ∷ []) (sym (parts tail))
    ∙ (ap (λ (t : List Exchange). t ++ call ∷ []) (sym (append_assoc h.past (leaving tail) stays))
    ∙ (append_assoc (h.past ++ leaving tail) stays (call ∷ [])
    ∙ ap (λ (t : List Exchange). (h.past ++ leaving tail) ++ t) (sym (tail_is old.log call new.log appends)))) in record {
      past = h.past ++ leaving tail;
      first = h.first;
      base = moved.0;
      before = replay_both h.first h.past h.base (leaving tail) moved.0 h.before moved.1;
      after = moved.2;
      totals = subst (λ (cs : List Exchange). IsTallyOf cs new.log.totals) calls (tally_more (h.past ++ tail) call old.log.totals new.log.totals h.totals appends.counted);
    }

-- the calls of a kind that have left the tail
trimmed_is : (journal : JournalView) (h : HasHistory journal) (kind : ℕ) → trimmed journal.log kind ≡ calls_in kind h.past
trimmed_is journal h kind =
    let all = h.totals.counts kind in
    let both = sum_by-append (λ (x : Exchange). if is_of kind x then 1 else 0) h.past journal.log.tail in
    omega (arith, all, both)

-- the step of a journal
pub journal_step : (old : JournalView) (call : Exchange) (new : JournalView) → IsView old.view → NodeStep old.view call new.view → Appends old.log call new.log
    → HasHistory old → JournalStep old call new
unfolding history_more
journal_step old call new whole step appends h = record {
  whole = whole;
  step = step;
  appended = appends;
  left = λ kind. trimmed_is new (history_more old call new step appends h) kind
      ∙ (sum_by-append (λ (x : Exchange). if is_of kind x then 1 else 0) h.past (leaving old.log.tail)
      ∙ ap (λ (n : ℕ). n + calls_in kind (leaving old.log.tail)) (sym (trimmed_is old h kind)));
  base = base_moves old call new step appends;
}

-- where each call with an answer raises a number of the node, and no call lowers it, the journal
-- has at most that number of such calls
log_counts : (answer : CallAnswer) (number : NodeView → ℕ)
    → ((old : NodeView) (call : Exchange) (new : NodeView) → NodeStep old call new → one answer call + number old ≤ number new)
    → (journal : JournalView) → HasHistory journal → answers_in (calls_at journal.log.totals) answer ≤ number journal.view
log_counts answer number grows journal h =
    let all = replay_counts answer number grows h.first (h.past ++ journal.log.tail) journal.view (replay_both h.first h.past h.base journal.log.tail journal.view h.before h.after) in
    let shorts = h.totals.counts (index_of (short answer)) in
    let longs = h.totals.counts (index_of (long answer)) in
    omega (arith, all, shorts, longs)

-- the incarnation and the next numbers are at least the counts of what made them
pub history_numbers : (journal : JournalView) → HasHistory journal → CountsWithin (calls_at journal.log.totals) journal.view
history_numbers journal h = record {
  passes = log_counts Joined (λ v. v.next_pass) (λ o c n s. (step_grows o c n s).passes) journal h;
  permits = log_counts AcquireOpen (λ v. v.links.next_permit) (λ o c n s. (step_grows o c n s).permits) journal h;
  links = log_counts WentUp (λ v. v.links.next_link) (λ o c n s. (step_grows o c n s).links) journal h;
  tickets = log_counts Served (λ v. v.links.next_ticket) (λ o c n s. (step_grows o c n s).tickets) journal h;
  incarnations = log_counts Restarted (λ v. v.links.incarnation) (λ o c n s. (step_grows o c n s).incarnations) journal h;
}

-- who has fewer calls of each kind has no more than the view counts
pub fewer_counted : (few many : ℕ → ℕ) (view : NodeView) → ((kind : ℕ) → few kind ≤ many kind) → CountsWithin many view → CountsWithin few view
fewer_counted few many view less is = record {
  passes = counted Joined view.next_pass is.passes;
  permits = counted AcquireOpen view.links.next_permit is.permits;
  links = counted WentUp view.links.next_link is.links;
  tickets = counted Served view.links.next_ticket is.tickets;
  incarnations = counted Restarted view.links.incarnation is.incarnations;
}
  where
    counted : (answer : CallAnswer) (n : ℕ) → answers_in many answer ≤ n → answers_in few answer ≤ n
    counted answer n at_most = let a = less (index_of (short answer)) in let b = less (index_of (long answer)) in omega (arith, a, b, at_most)
