-- Calls that a caller made, and what they are to the clients that came.
use Rattle.std.proofs.Common.{ℕ, ◌≡◌, ◌+◌, ◌<◌, ◌≤◌, List, [], ◌∷◌, ◌++◌, length, Option, Some, None, Ok, Err, refl, sym, ap, ◌∙◌, append_assoc, append-nil, length-append, arith, subst}
use Rattle.std.specs.Prelude.{AllPairs, Result, MatchResult, IsErrAnd, IsSomeAnd}
use Rattle.std.proofs.lemmas.List.Quantifiers.{all_pairs_push}
use Rattle.pg_ids.specs.declared.any_key.AnyKey.{AnyKey}
use Rattle.lease.specs.declared.ticket.TicketRecord.{TicketRecord}
use Rattle.node_core.specs.View.{NodeView}
use Rattle.node_core.specs.declared.exchange.Exchange.{Exchange}
use Rattle.node_core.specs.declared.exchange.Exchange.TheVariants.{Cancel}
use Rattle.node_core.specs.declared.exchange.Order.{Order}
use Rattle.locked_node.specs.Journal.{JournalView, JournalValue, journal_view, CALL_LIMIT}
use Rattle.locked_node.specs.Lock.{CallerView, CallerStep, IsWhole}
use Rattle.locked_node.specs.Replay.{Replay}
use Rattle.locked_node.specs.Totals.{all_calls}
use Rattle.answer.specs.declared.fault.Reply.{Reply}
use Rattle.command_line.specs.declared.live_client.LiveClient.{LiveClient}
use Rattle.node_core.specs.NodeStep.{NodeStep}
use Rattle.answer.specs.Attended.{Came, Asked, Rests, ticket_of}
use Rattle.answer.specs.Decision.{IsComing, AreLive, Calls, Cannot, Comes, HasRoom, Haves, Leads, Makes, MayOrder, Orders, Trips, reply_of}
use Rattle.answer.proofs.BackSteps.{came_rests, cancel_leads}

-- one call
pub makes_one : (old : CallerView) (call : Exchange) (new : CallerView) → CallerStep old call new
    → Makes old (call ∷ []) new
makes_one old call new step = record {
  lock = step.lock;
  start = step.start;
  allowance = step.allowance;
  made = step.made;
  count = step.tally.all;
  order = λ order. rw step.places (all_pairs_push (λ one later. one < later) old.places step.place
      order step.later);
}

-- some calls, and then more
pub makes_then : (old middle new : CallerView) (some more : List Exchange) → Makes old some middle
    → Makes middle more new → Makes old (some ++ more) new
makes_then old middle new some more one other =
    let before = one.allowance in
    let after = other.allowance in
    let counted = one.count in
    let counted_more = other.count in
    record {
      lock = other.lock ∙ one.lock;
      start = other.start ∙ one.start;
      allowance = omega (arith, before, after, length-append some more);
      made = other.made ∙ ap (λ calls. calls ++ more) one.made ∙ append_assoc old.made some more;
      count = omega (arith, counted, counted_more, length-append some more);
      order = λ order. other.order (one.order order);
    }

-- no call
pub makes_none : (caller : CallerView) → Makes caller [] caller
makes_none caller = record {
  lock = refl;
  start = refl;
  allowance = omega arith;
  made = sym (append-nil caller.made);
  count = omega arith;
  order = λ order. order;
}

-- ---- what calls lead to

-- some calls, and then more
pub replay_split : (some more : List Exchange) (first last : NodeView)
    → Replay first (some ++ more) last
    → (middle : NodeView) × Replay first some middle × Replay middle more last
replay_split [] more first last replay = (first, refl, replay)
replay_split (call ∷ some) more first last (next, step, replay) =
    let rest = replay_split some more next last replay in
    (rest.0, (next, step, rest.1), rest.2)

module _ (Before Middle After : NodeView → Type 0) where
  -- one call
  pub leads_one : (call : Exchange)
      → ((v w : NodeView) → Before v → NodeStep v call w → After w)
      → Leads Before (call ∷ []) After
  leads_one call by first last before (next, step, end) =
      subst After (sym end) (by first next before step)

  -- some calls, and then more
  pub leads_then : (some more : List Exchange) → Leads Before some Middle
      → Leads Middle more After → Leads Before (some ++ more) After
  leads_then some more one other first last before replay =
      let parts = replay_split some more first last replay in
      other parts.0 last (one first parts.0 before parts.1) parts.2

-- no call
pub leads_none : (Before : NodeView → Type 0) → Leads Before [] Before
leads_none Before first last before end = subst Before (sym end) before

-- ---- replies that aren't expected

-- `?` passes a reply on as it is
pub reply_passed : {T : Type 0} (r : Result T Reply) (given : Reply) (P : T → Type 0)
    (Q : Reply → Type 0) → IsErrAnd r (λ y. y ≡ given) → Q given → MatchResult r P Q
reply_passed (Err y) given P Q is holds = subst Q (sym is) holds
reply_passed (Ok x) given P Q never holds = absurd never

-- a step, by what is made of its reply
pub step_by : {T R : Type 0} (r : Result T Reply) (call : R → Exchange) (reply : R)
    (expected : T → R) (old new : CallerView) → CallerStep old (call reply) new
    → MatchResult r (λ x. reply ≡ expected x) (λ given. reply_of (call reply) ≡ Some given)
    → MatchResult r (λ x. CallerStep old (call (expected x)) new)
    (λ given. Trips old call given new)
step_by (Ok x) call reply expected old new step is =
    subst (λ a. CallerStep old (call a) new) is step
step_by (Err given) call reply expected old new step says =
    record { reply = reply; step = step; says = says }

-- a reply that isn't expected is one that no such node gives
pub cannot_trip : {R : Type 0} (Before : NodeView → Type 0) (ask : R → Exchange) (given : Reply)
    (old new : CallerView) → Trips old ask given new
    → ((v w : NodeView) (reply : R) → Before v → NodeStep v (ask reply) w
    → reply_of (ask reply) ≡ Some given → ⊥)
    → Cannot Before old new
cannot_trip Before ask given old new trips never = record {
  calls = ask trips.reply ∷ [];
  makes = makes_one old (ask trips.reply) new trips.step;
  never = leads_one Before Before (λ _. ⊥) (ask trips.reply)
      (λ v w before step. never v w trips.reply before step trips.says);
}

-- some calls lead to a node that can't make the rest
pub cannot_then : (Before Middle : NodeView → Type 0) (old middle new : CallerView)
    (some : List Exchange) → Makes old some middle → Leads Before some Middle
    → Cannot Middle middle new → Cannot Before old new
cannot_then Before Middle old middle new some makes leads cannot = record {
  calls = some ++ cannot.calls;
  makes = makes_then old middle new some cannot.calls makes cannot.makes;
  never = leads_then Before Middle (λ _. ⊥) some cannot.calls leads cannot.never;
}

-- more is true of the node
pub cannot_of : (Before Weaker : NodeView → Type 0) (old new : CallerView)
    → ((v : NodeView) → Before v → Weaker v) → Cannot Weaker old new → Cannot Before old new
cannot_of Before Weaker old new weaken cannot = record {
  calls = cannot.calls;
  makes = cannot.makes;
  never = λ first last before replay. cannot.never first last (weaken first before) replay;
}

-- ---- clients

-- the calls of some clients, and then those of one more
live_push : (clients : List LiveClient) (calls : List Exchange) (client : LiveClient)
    (more : List Exchange) → AreLive clients calls → IsComing client more
    → AreLive (clients ++ client ∷ []) (calls ++ more)
live_push [] calls client more are coming =
    (more, [], ap (λ all. all ++ more) are ∙ sym (append-nil more), coming, refl)
live_push (c ∷ cs) calls client more (first, rest, are, comes, live) coming = (
  first,
  rest ++ more,
  ap (λ all. all ++ more) are ∙ append_assoc first rest more,
  comes,
  live_push cs rest client more live coming,
)

-- one client more comes
pub comes_push : (clients : List LiveClient) (client : LiveClient) (had middle have : Haves)
    (old between new : CallerView) → Comes old clients had middle between
    → Comes between (client ∷ []) middle have new
    → Comes old (clients ++ client ∷ []) had have new
comes_push clients client had middle have old between new some one =
    let many = some.many in
    let more = one.many in
    let longer = length-append clients (client ∷ []) in
    let only = one.live in
    let are : one.calls ≡ only.0 = only.2 ∙ ap (λ rest. only.0 ++ rest) only.4
    ∙ append-nil only.0 in
    record {
      calls = some.calls ++ one.calls;
      live = live_push clients some.calls client one.calls some.live
          (subst (IsComing client) (sym are) only.3);
      makes = makes_then old between new some.calls one.calls some.makes one.makes;
      many = omega (arith, many, more, longer);
      leads = λ size room.
          let few : length middle.passes ≤ size = omega (arith, more, room) in
          leads_then (Came size had.passes had.leases) (Came size middle.passes middle.leases)
          (Came size have.passes have.leases) some.calls one.calls (some.leads size few)
          (one.leads size room);
    }

pub comes_none : (had : Haves) (caller : CallerView) → Comes caller [] had had caller
comes_none had caller = record {
  calls = [];
  live = refl;
  makes = makes_none caller;
  many = omega arith;
  leads = λ size room. leads_none (Came size had.passes had.leases);
}

-- after some clients there is room for one more, if there was for more than these
pub cannot_come : (clients : List LiveClient) (all : ℕ) (had middle : Haves)
    (old between new : CallerView) → length clients < all → Comes old clients had middle between
    → Cannot (HasRoom middle 1) between new → Cannot (HasRoom had all) old new
cannot_come clients all had middle old between new some comes cannot =
    let many = comes.many in
    cannot_then (HasRoom had all) (HasRoom middle 1) old between new comes.calls comes.makes
    (λ first last room replay. let enough = room.room in record {
      size = room.size;
      room = omega (arith, many, some, enough);
      came = comes.leads room.size (omega (arith, many, some, enough)) first last room.came replay;
    })
    cannot

-- ---- an order

pub orders_by : (clients : List LiveClient) (key : AnyKey) (order : Order TicketRecord)
    (had have : Haves) (old joined asked new : CallerView) → Comes old clients had have joined
    → CallerStep joined (Cancel key order) asked → Calls asked new
    → Orders old clients key order new
orders_by clients key order had have old joined asked new comes step goes = record {
  calls = comes.calls;
  live = comes.live;
  more = goes.calls;
  makes = makes_then old joined new comes.calls (Cancel key order ∷ goes.calls) comes.makes
      (makes_then joined asked new (Cancel key order ∷ []) goes.calls
      (makes_one joined (Cancel key order) asked step) goes.makes);
}

-- what came of a request can be handed back
pub cannot_hand_back : (clients : List LiveClient) (key : AnyKey) (order : Order TicketRecord)
    (had have : Haves) (old joined asked new : CallerView) → Comes old clients had have joined
    → CallerStep joined (Cancel key order) asked
    → Cannot (Asked have.passes have.leases (ticket_of order)) asked new
    → Cannot (HasRoom had (length clients)) old new
cannot_hand_back clients key order had have old joined asked new comes step cannot =
    let many = comes.many in
    cannot_then (HasRoom had (length clients)) (Rests have.passes have.leases) old joined new
    comes.calls comes.makes
    (λ first last room replay. let enough = room.room in
    came_rests room.size have.passes have.leases last
    (comes.leads room.size (omega (arith, many, enough)) first last room.came replay))
    (cannot_then (Rests have.passes have.leases) (Asked have.passes have.leases (ticket_of order))
    joined asked new (Cancel key order ∷ []) (makes_one joined (Cancel key order) asked step)
    (leads_one (Rests have.passes have.leases) (Rests have.passes have.leases)
    (Asked have.passes have.leases (ticket_of order)) (Cancel key order)
    (λ v w rests stepped. cancel_leads have.passes have.leases v w key order rests stepped)) cannot)

-- the journal at the end, where there is one
there : {S : Type 0} (last : CallerView) (end : Option (JournalValue S))
    → IsSomeAnd end (λ j. IsWhole last (journal_view j)) → (j : JournalView) × IsWhole last j
there last None is = absurd is
there last (Some j) is = (journal_view j, is)

module _ {S : Type 0} (journal : JournalView) (first last : CallerView) (end : Option (JournalValue S))
    (started : first.start ≡ journal) (all : first.allowance + all_calls journal.log.totals ≡ CALL_LIMIT)
    (counts : all_calls first.tally ≡ all_calls journal.log.totals)
    (nothing : (first.made ≡ []) × (first.places ≡ []))
    (whole : last.allowance + all_calls last.tally ≡ CALL_LIMIT
    → IsSomeAnd end (λ j. IsWhole last (journal_view j))) where
  -- a first caller that has all of its lock made calls that led to the journal's view
  replayed : (calls : List Exchange) → Makes first calls last
      → (view : NodeView) × Replay journal.view calls view
  replayed calls makes =
      let left = makes.allowance in
      let counted = makes.count in
      let found = there last end (whole (omega (arith, all, counts, left, counted))) in
      let is_whole = found.1 in
      let in_order : AllPairs (λ one later. one < later) first.places =
      rw nothing.1 (λ i j d lt within. absurd (omega arith)) in
      let are : is_whole.calls ≡ calls = is_whole.in_order (makes.order in_order) ∙ makes.made
      ∙ ap (λ made. made ++ calls) nothing.0 in (
        found.0.view,
        subst (λ start. Replay start.view calls found.0.view) (makes.start ∙ started)
            (subst (λ all_made. Replay last.start.view all_made found.0.view) are is_whole.replay),
      )

  pub may_order : (clients : List LiveClient) (key : AnyKey) (order : Order TicketRecord)
      → Orders first clients key order last → MayOrder journal.view clients key order
  may_order clients key order orders =
      let replay = replayed (orders.calls ++ Cancel key order ∷ orders.more) orders.makes in
      let front = replay_split (orders.calls ++ Cancel key order ∷ []) orders.more journal.view
      replay.0 (subst (λ calls. Replay journal.view calls replay.0)
      (sym (append_assoc orders.calls (Cancel key order ∷ []) orders.more)) replay.1) in
      record { calls = orders.calls; live = orders.live; last = front.0; replay = front.1 }

  -- the node gave no reply that isn't expected
  pub cannot_be : (had : Haves) (many : ℕ) → HasRoom had many journal.view
      → Cannot (HasRoom had many) first last → ⊥
  cannot_be had many room cannot =
      let made = replayed cannot.calls cannot.makes in
      cannot.never journal.view made.0 room made.1
