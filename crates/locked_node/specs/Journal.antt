-- The journal of a node's calls (own). `JournalStep`: one call more. `Journaled`: the same below
-- 2^127 calls, and no change at that limit. `HasHistory`: calls from some first state led to the
-- present one. `trimmed`: how many calls of a kind have left the tail.
use Rattle.std.specs.Prelude.{ℕ, ◌≡◌, ◌+◌, ◌-◌, ◌^◌, ◌<◌, ◌≤◌, List, Option, [], ◌∷◌, ◌++◌, length, take}
use Rattle.circular_buffer.specs.Buffer.{keep_last}
use Rattle.node_core.specs.View.{NodeView, IsView}
use Rattle.node_core.specs.declared.exchange.Exchange.{Exchange}
use Rattle.node_core.specs.NodeStep.{NodeStep}
use Rattle.locked_node.specs.declared.tally.Tally.{Tally}
use Rattle.locked_node.specs.declared.call_answer.CallAnswer.{CallAnswer}
use Rattle.locked_node.specs.declared.call_answer.CallAnswer.TheVariants.{Joined, AcquireOpen, WentUp, Served, Restarted}
use Rattle.locked_node.specs.CallNumbers.{index_of, short, long}
use Rattle.locked_node.specs.Replay.{Replay}
use Rattle.locked_node.specs.Totals.{calls_in, sum_in, calls_at, sum_at, all_calls, SameSum, Counts}

-- how many calls a tail has at most
abbrev pub TAIL_LIMIT : ℕ
TAIL_LIMIT = 4096

-- how many calls a journal takes
abbrev pub CALL_LIMIT : ℕ
CALL_LIMIT = 2 ^ 127

-- the last calls, each with the reply that it got, and the totals of all calls
pub record LogView : Type 0 where
  pub tail : List Exchange
  pub totals : Tally

-- a node's view beside the calls that led to it
pub record JournalView : Type 0 where
  pub view : NodeView
  pub log : LogView

-- a journal: the node's view, the calls that led to it, and the streams that the node stores
pub record JournalValue (S : Type 0) : Type 0 where
  pub view : NodeView
  pub log : LogView
  pub stored : List (List (Option S))

-- the same without streams
abbrev pub journal_view : {S : Type 0} → JournalValue S → JournalView
journal_view journal = record { view = journal.view; log = journal.log }

-- a call is put behind the tail, which has the last calls; it isn't counted yet
pub record Puts (old : LogView) (call : Exchange) (new : LogView) : Type 0 where
  pub short : length old.tail ≤ TAIL_LIMIT
  pub tail : new.tail ≡ keep_last TAIL_LIMIT (old.tail ++ call ∷ [])
  pub totals : new.totals ≡ old.totals

-- a call is put behind the tail, which has the last calls, and is counted
pub record Appends (old : LogView) (call : Exchange) (new : LogView) : Type 0 where
  pub short : length old.tail ≤ TAIL_LIMIT
  pub tail : new.tail ≡ keep_last TAIL_LIMIT (old.tail ++ call ∷ [])
  pub counted : Counts old.totals call new.totals

-- the calls that leave a tail as one more comes: its oldest one, where it is full
abbrev pub leaving : List Exchange → List Exchange
leaving tail = take (length tail + 1 - TAIL_LIMIT) tail

-- how many calls of a kind have left the tail
abbrev pub trimmed : LogView → ℕ → ℕ
trimmed log kind = calls_at log.totals kind - calls_in kind log.tail

-- one step of the node, which is that call with that reply, and that very call in the log
pub record JournalStep (old : JournalView) (call : Exchange) (new : JournalView) : Type 0 where
  pub whole : IsView old.view
  pub step : NodeStep old.view call new.view
  pub appended : Appends old.log call new.log
  -- what left the tail is counted
  pub left : (kind : ℕ)
      → trimmed new.log kind ≡ trimmed old.log kind + calls_in kind (leaving old.log.tail)
  -- from whatever view the tail led to the node's, the calls that left it lead to one from which
  -- the tail does so after the step
  pub base : (base : NodeView) → Replay base old.log.tail old.view
      → (next : NodeView)
      × Replay base (leaving old.log.tail) next × Replay next new.log.tail new.view

-- A call of a journal. Below the limit it is one step; at the limit nothing changes, and the reply
-- is the one that spends what was handed in.
pub record Journaled {R : Type 0} (call : Exchange) (reply at_end : R) (old new : JournalView)
    : Type 0 where
  pub step : all_calls old.log.totals < CALL_LIMIT → JournalStep old call new
  pub full : all_calls old.log.totals ≡ CALL_LIMIT → (reply ≡ at_end) × (new ≡ old)

-- the totals of a tally are those of these calls
pub record IsTallyOf (calls : List Exchange) (tally : Tally) : Type 0 where
  pub counts : (kind : ℕ) → calls_at tally kind ≡ calls_in kind calls
  pub sums : (kind position : ℕ) → SameSum (sum_at tally kind position) (sum_in kind position calls)
  pub all : all_calls tally ≡ length calls

-- There is a whole history of the node: from some first view the calls that have left the tail led
-- to the base, and from there the tail's calls lead to the view. The totals are those of all calls.
pub record HasHistory (journal : JournalView) : Type 0 where
  pub past : List Exchange
  pub first : NodeView
  pub base : NodeView
  pub before : Replay first past base
  pub after : Replay base journal.log.tail journal.view
  pub totals : IsTallyOf (past ++ journal.log.tail) journal.log.totals

-- how many calls have this answer, with keys of both kinds, by how many calls each kind has
abbrev pub answers_in : (ℕ → ℕ) → CallAnswer → ℕ
answers_in calls answer = calls (index_of (short answer)) + calls (index_of (long answer))

-- the view's incarnation and its next numbers are at least the counts of the calls that made them,
-- by how many calls each kind has
pub record CountsWithin (calls : ℕ → ℕ) (view : NodeView) : Type 0 where
  pub passes : answers_in calls Joined ≤ view.next_pass
  pub permits : answers_in calls AcquireOpen ≤ view.links.next_permit
  pub links : answers_in calls WentUp ≤ view.links.next_link
  pub tickets : answers_in calls Served ≤ view.links.next_ticket
  pub incarnations : answers_in calls Restarted ≤ view.links.incarnation
