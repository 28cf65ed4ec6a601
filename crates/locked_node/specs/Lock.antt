-- The invariant of a node's lock (own). `IsLocked` holds between any two exchanges of the lock's
-- word. `CallerStep`: what a call does to its caller, and that the node allows its reply.
-- `Counted`: the same with allowance left, and no change without. `IsOfLock`: what a caller knows of
-- the journal at the end. `IsWhole`: what one knows that all others were joined to.
use Rattle.std.specs.Prelude.{ℕ, ◌≡◌, ◌≢◌, ◌+◌, ◌-◌, ◌*◌, ◌^◌, ◌<◌, ◌≤◌, ◌⊎◌, List, [], ◌∷◌, ◌++◌, length, drop, slice_index, slice_get, sum_by, All, AllPairs, Some, None}
use Rattle.std.specs.List.{AllZip}
use mathlib.Core.Option.{some, none}
use lib.ListN.{get_elem?}
use Rattle.atomic_table.specs.Table.{State, Me, Step}
use Rattle.atomic_table.specs.Seated.{TableId}
use Rattle.node_core.specs.declared.exchange.Exchange.{Exchange}
use Rattle.locked_node.specs.declared.rule.Share.{Share}
use Rattle.locked_node.specs.declared.tally.Tally.{Tally}
use Rattle.locked_node.specs.Replay.{Replay, fixed_of, IsPossible}
use Rattle.locked_node.specs.Totals.{calls_in, sum_in, calls_at, sum_at, all_calls, SameSum, SameTotals, Counts, AddsUp, IsEmpty}
use Rattle.node_core.specs.View.{NodeView, IsView}
use Rattle.locked_node.specs.Journal.{JournalView, JournalStep, CountsWithin, CALL_LIMIT}

-- what a new caller is handed
abbrev pub HANDED : ℕ
HANDED = 2 ^ 64

-- at each of these places of the history is the call that is listed with it
abbrev pub Placed : List Exchange → List ℕ → List Exchange → Type 0
Placed calls = AllZip (λ place call. slice_get calls place ≡ Some call)

-- The calls of all callers, in the order in which they were made, led from the node as it was to
-- the journal's view, and the journal's totals are those that it began with and those of these
-- calls, kind by kind. Each caller's are at their places.
pub record Accounts (start : JournalView) (shares : List Share) (journal : JournalView)
    : Type 0 where
  pub calls : List Exchange
  pub replay : Replay start.view calls journal.view
  pub same : (f : Exchange → ℕ) → sum_by f calls ≡ sum_by (λ v. sum_by f v.made) shares
  pub many : length calls ≡ sum_by (λ v. length v.made) shares
  pub counts : (kind : ℕ)
      → calls_at journal.log.totals kind ≡ calls_at start.log.totals kind + calls_in kind calls
  pub sums : (kind position : ℕ)
      → SameSum (sum_at journal.log.totals kind position)
      (sum_at start.log.totals kind position + sum_in kind position calls)
  pub all : all_calls journal.log.totals ≡ all_calls start.log.totals + length calls
  pub fixed : fixed_of journal.view ≡ fixed_of start.view
  pub placed : (id : ℕ) (v : Share) → get_elem? shares id ≡ some v → Placed calls v.places v.made

-- what a share has: allowance, the journal that the lock began with, calls
abbrev pub stake : Share → ℕ
stake v = v.allowance + (length v.begun + length v.made)

-- A share that has anything knows how the lock began; who has what the journal began with has
-- something, and it is that journal.
pub record IsShare (start : JournalView) (v : Share) : Type 0 where
  pub knows : 0 < stake v → v.start ≡ start
  pub has : 0 < length v.begun → 0 < v.allowance + length v.made + all_calls start.log.totals
  pub alike : (f : JournalView → ℕ) → sum_by f v.begun ≡ length v.begun * f start

-- the lock is free: the journal lies in the slot, and no caller has found it
pub record IsFree (journal : JournalView) (s : State JournalView Share) : Type 0 where
  pub word : slice_index s.words 0 ≡ 0
  pub home : s.homes ≡ some journal ∷ []
  pub idle : (id : ℕ) (v : Share) → get_elem? s.views id ≡ some v → v.found ≡ None

-- one caller, which has something, has taken the lock and found this journal
pub record IsTaken (journal : JournalView) (s : State JournalView Share) : Type 0 where
  pub word : slice_index s.words 0 ≢ 0
  pub home : s.homes ≡ none ∷ []
  pub taker : ℕ
  pub share : Share
  pub there : get_elem? s.views taker ≡ some share
  pub found : share.found ≡ Some journal
  pub has : 0 < stake share
  pub others : (id : ℕ) (v : Share) → get_elem? s.views id ≡ some v → id ≢ taker → v.found ≡ None

-- The rule of the lock of a node that began as `start`. It is over the first word alone.
pub record IsLocked (start : JournalView) (s : State JournalView Share) : Type 0 where
  pub word : 0 < length s.words
  pub journal : JournalView
  pub accounts : Accounts start s.views journal
  -- allowances and counts make 2^127
  pub fits : sum_by (λ v. v.allowance) s.views + all_calls journal.log.totals ≡ CALL_LIMIT
  pub one_start : sum_by (λ v. length v.begun) s.views ≡ 1
  pub each : (id : ℕ) (v : Share) → get_elem? s.views id ≡ some v → IsShare start v
  pub place : IsFree journal s ⊎ IsTaken journal s

-- the first caller has what the journal began with
abbrev pub first_share : JournalView → Share
first_share start = record {
  allowance = CALL_LIMIT - all_calls start.log.totals;
  begun = start ∷ [];
  made = [];
  places = [];
  found = None;
  start = start;
}

-- a caller hands over a part of its allowance, and nothing else
abbrev pub handing : Share → Share
handing v = record v { allowance = v.allowance - HANDED }

abbrev pub handed : Share → Share
handed v = record {
  allowance = HANDED;
  begun = [];
  made = [];
  places = [];
  found = None;
  start = v.start;
}

-- two callers are one
abbrev pub joined : Share → Share → Share
joined v w = record v {
  allowance = v.allowance + w.allowance;
  begun = v.begun ++ w.begun;
  made = v.made ++ w.made;
  places = v.places ++ w.places;
}

-- a journal of nothing
abbrev pub no_journal : JournalView
no_journal = record {
  view = record {
    me = 0;
    peers = [];
    pools = [];
    keys = record { peer = 0; entries = []; next = None };
    clients = [];
    next_pass = 0;
    boot = 0;
    next_serial = 0;
    links = record {
      peer = 0;
      incarnation = 0;
      pools = [];
      queues = [];
      claims = [];
      next_link = 0;
      next_permit = 0;
      next_ticket = 0;
    };
  };
  log = record { tail = []; totals = record { cells = [] } };
}

-- what is left of a caller that was joined to another
abbrev pub nobody : Share
nobody = record {
  allowance = 0;
  begun = [];
  made = [];
  places = [];
  found = None;
  start = no_journal;
}

-- the last call of a tail, alone
abbrev pub last_call : List Exchange → List Exchange
last_call tail = drop (length tail - 1) tail

-- the place of the journal's last call in the history since the lock began
abbrev pub last_place : Share → JournalView → ℕ
last_place v journal = all_calls journal.log.totals - (all_calls v.start.log.totals + 1)

-- a caller that gives the lock back has made the journal's last call
abbrev pub given : Share → JournalView → Share
given v journal = record v {
  allowance = v.allowance - 1;
  made = v.made ++ last_call journal.log.tail;
  places = v.places ++ last_place v journal ∷ [];
  found = None;
}

-- how many calls of a kind a share has
abbrev pub share_calls : Share → ℕ → ℕ
share_calls v kind = sum_by (λ j. calls_at j.log.totals kind) v.begun + calls_in kind v.made

-- a caller took the lock and found this journal
pub record Took (before after : Me JournalView Share) : Type 0 where
  pub journal : JournalView
  pub view : after.0 ≡ record before.0 { found = Some journal }
  pub slot : after.1 ≡ (0, journal) ∷ before.1
  pub room : before.0.allowance + all_calls journal.log.totals ≤ CALL_LIMIT
  pub fixed : fixed_of journal.view ≡ fixed_of before.0.start.view
  -- the caller's calls are among the journal's
  pub counts : (kind : ℕ) → share_calls before.0 kind ≤ calls_at journal.log.totals kind

-- a seat that may make a call holds the journal that it found, which takes one more
pub record Holds (me : Me JournalView Share) : Type 0 where
  pub journal : JournalView
  pub found : me.0.found ≡ Some journal
  pub slot : me.1 ≡ (0, journal) ∷ []
  pub may : 0 < me.0.allowance
  pub room : all_calls journal.log.totals < CALL_LIMIT
  pub fixed : fixed_of journal.view ≡ fixed_of me.0.start.view

-- the seat holds the journal that it found
pub record IsFound (me : Me JournalView Share) : Type 0 where
  pub journal : JournalView
  pub found : me.0.found ≡ Some journal
  pub slot : me.1 ≡ (0, journal) ∷ []

-- the view of the journal that the seat found
pub record IsCopy (me : Me JournalView Share) (view : NodeView) : Type 0 where
  pub journal : JournalView
  pub found : me.0.found ≡ Some journal
  pub same : view ≡ journal.view
  pub whole : IsView view
  pub numbers : CountsWithin (calls_at journal.log.totals) view

-- a caller took the lock; if it may make a call, then it holds a journal that takes one
pub record Takes (before after : Me JournalView Share) : Type 0 where
  pub took : Took before after
  pub holds : 0 < before.0.allowance → Holds after
  pub found : IsFound after

-- this call was made on the journal that the seat found
pub record Calls (before : Me JournalView Share) (call : Exchange) (after : Me JournalView Share)
    : Type 0 where
  pub view : after.0 ≡ before.0
  pub may : 0 < before.0.allowance
  pub old : JournalView
  pub new : JournalView
  pub found : before.0.found ≡ Some old
  pub fixed : fixed_of old.view ≡ fixed_of before.0.start.view
  pub slot : after.1 ≡ (0, new) ∷ []
  pub step : JournalStep old call new

-- one call was made on the journal that the seat found
pub record Called (me : Me JournalView Share) : Type 0 where
  pub may : 0 < me.0.allowance
  pub call : Exchange
  pub old : JournalView
  pub new : JournalView
  pub found : me.0.found ≡ Some old
  pub slot : me.1 ≡ (0, new) ∷ []
  pub step : JournalStep old call new

-- the seat holds nothing any more, and the journal's last call is its own, after all that it made
-- before
abbrev pub Given : Me JournalView Share → Me JournalView Share → Type 0
Given before after = (journal : JournalView) → before.1 ≡ (0, journal) ∷ []
    → (after ≡ (given before.0 journal, []))
    × All (λ place. place < last_place before.0 journal) before.0.places

-- after the exchange that takes the lock: it was free, and is the caller's; or it was taken, and
-- nothing changed
abbrev pub taking : Step JournalView → Me JournalView Share → ℕ → Me JournalView Share → Type 0
taking st before found after = (found ≡ 0 → Took before after) × (found ≢ 0 → after ≡ before)

-- after the exchange that gives it back the caller's share has one more call
abbrev pub giving : Step JournalView → Me JournalView Share → ℕ → Me JournalView Share → Type 0
giving st before found after = Given before after

-- what a caller has is within the limit
abbrev pub IsWithin : Share → Type 0
IsWithin v =
    v.allowance + (sum_by (λ j. all_calls j.log.totals) v.begun + length v.made) ≤ CALL_LIMIT

-- the seat holds nothing any more, and made no call
abbrev pub Returned : Me JournalView Share → Me JournalView Share → Type 0
Returned before after = after ≡ (record before.0 { found = None }, [])

-- after the exchange that gives the lock back with the journal as it was found
abbrev pub returning : Step JournalView → Me JournalView Share → ℕ → Me JournalView Share → Type 0
returning st before found after = Returned before after

-- after a step on another word than the lock's nothing has changed
abbrev pub resting : Step JournalView → Me JournalView Share → ℕ → Me JournalView Share → Type 0
resting st before found after = after ≡ before

-- after a look a caller's numbers are known to be within the limit
abbrev pub looking : Step JournalView → Me JournalView Share → ℕ → Me JournalView Share → Type 0
looking st before found after = (after ≡ before) × IsWithin before.0

-- A caller as clauses see it: the lock that it is of, the node as it was when that began, how many
-- calls it may still make, the calls that it made, their places in the history since the lock
-- began, and its totals, to which the first caller's belong those that the journal began with.
pub record CallerView : Type 0 where
  pub lock : TableId
  pub start : JournalView
  pub allowance : ℕ
  pub made : List Exchange
  pub places : List ℕ
  pub tally : Tally

-- One call more was made, later than all before, and the node allowed it the reply that it got: so
-- a reply that says that no number is left comes only where one is used up.
pub record CallerStep (old : CallerView) (call : Exchange) (new : CallerView) : Type 0 where
  pub possible : IsPossible (fixed_of old.start.view) call
  pub lock : new.lock ≡ old.lock
  pub start : new.start ≡ old.start
  pub allowance : new.allowance + 1 ≡ old.allowance
  pub made : new.made ≡ old.made ++ call ∷ []
  pub place : ℕ
  pub places : new.places ≡ old.places ++ place ∷ []
  pub later : All (λ earlier. earlier < place) old.places
  pub tally : Counts old.tally call new.tally

-- A call behind the lock. With allowance it is made and counted; without any nothing changes, and
-- the reply is the one that spends what was handed in.
pub record Counted {R : Type 0} (call : Exchange) (reply at_end : R) (old new : CallerView)
    : Type 0 where
  pub made : 0 < old.allowance → CallerStep old call new
  pub spent : old.allowance ≡ 0 → (reply ≡ at_end) × (new ≡ old)
  pub same : (new.lock ≡ old.lock) × (new.start ≡ old.start)

-- Holds between some two states. Which streams a node stores is not known behind its lock.
abbrev pub Somewhere : {X : Type 0} → (X → X → Type 0) → Type 0
Somewhere {X} R = (old : X) × (new : X) × R old new

-- a caller hands 2^64 of its allowance to a new one without calls
pub record Splits (old new part : CallerView) : Type 0 where
  pub lock : (new.lock ≡ old.lock) × (part.lock ≡ old.lock)
  pub start : (new.start ≡ old.start) × (part.start ≡ old.start)
  pub allowance : (new.allowance + HANDED ≡ old.allowance) × (part.allowance ≡ HANDED)
  pub made : (new.made ≡ old.made) × (part.made ≡ [])
  pub places : (new.places ≡ old.places) × (part.places ≡ [])
  pub tally : (new.tally ≡ old.tally) × IsEmpty part.tally

-- two callers of a lock become one
pub record JoinsUp (old other new : CallerView) : Type 0 where
  pub lock : new.lock ≡ old.lock
  pub start : new.start ≡ old.start
  pub allowance : new.allowance ≡ old.allowance + other.allowance
  pub made : new.made ≡ old.made ++ other.made
  pub places : new.places ≡ old.places ++ other.places
  pub tally : AddsUp old.tally other.tally new.tally

-- a caller's totals are those of its share
pub record IsTotalOfShare (v : Share) (tally : Tally) : Type 0 where
  pub calls : (kind : ℕ)
      → calls_at tally kind
      ≡ sum_by (λ j. calls_at j.log.totals kind) v.begun + calls_in kind v.made
  pub sums : (kind position : ℕ)
      → SameSum (sum_at tally kind position)
      (sum_by (λ j. sum_at j.log.totals kind position) v.begun + sum_in kind position v.made)
  pub all : all_calls tally ≡ sum_by (λ j. all_calls j.log.totals) v.begun + length v.made

-- The caller to whom everything came back: its totals are the journal's, and the calls that it and
-- those who were joined to it made led, in the order of their places, from the node as it was to
-- the journal's view. A caller whose places rise made them in the order in which it has them.
pub record IsWhole (caller : CallerView) (journal : JournalView) : Type 0 where
  pub totals : SameTotals caller.tally journal.log.totals
  pub calls : List Exchange
  pub replay : Replay caller.start.view calls journal.view
  pub same : (f : Exchange → ℕ) → sum_by f calls ≡ sum_by f caller.made
  pub placed : Placed calls caller.places caller.made
  pub in_order : AllPairs (λ one later. one < later) caller.places → calls ≡ caller.made

-- What a caller knows of its lock's journal, also where others have calls and allowance: some calls
-- lead from the node as it was to the journal's view, and this caller's are among them, at their
-- places. The journal's totals are those that it began with and those of these calls. Who made the
-- other calls it doesn't say.
pub record IsOfLock (caller : CallerView) (journal : JournalView) : Type 0 where
  pub calls : List Exchange
  pub replay : Replay caller.start.view calls journal.view
  pub fixed : fixed_of journal.view ≡ fixed_of caller.start.view
  pub placed : Placed calls caller.places caller.made
  pub counts : (kind : ℕ)
      → calls_at journal.log.totals kind
      ≡ calls_at caller.start.log.totals kind + calls_in kind calls
  pub sums : (kind position : ℕ)
      → SameSum (sum_at journal.log.totals kind position)
      (sum_at caller.start.log.totals kind position + sum_in kind position calls)
  pub all : all_calls journal.log.totals ≡ all_calls caller.start.log.totals + length calls
  -- its calls are among those of the journal, and its allowance is among what is left
  pub least : all_calls caller.tally ≤ all_calls journal.log.totals
  pub most : all_calls journal.log.totals + caller.allowance ≤ CALL_LIMIT
