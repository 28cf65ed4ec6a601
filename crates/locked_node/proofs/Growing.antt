-- A step keeps what the settings fix; the incarnation and the next numbers grow by what it makes.
use Rattle.std.proofs.Common.{◌≡◌, ◌≢◌, ℕ, ◌+◌, ◌≤◌, List, Option, Some, None, Ok, Err, refl, ap, ◌∙◌, ◌*◌, ⊎_elim, arith}
use Rattle.std.specs.Prelude.{if◌then◌else◌, ◌==◌, slice_get}
use Rattle.std.proofs.Common.{eq-eqb, ne_eqb}
use Rattle.std.proofs.lemmas.Bool.{cases_eq}
use Rattle.lease.specs.declared.ticket.TicketRecord.{TicketRecord}
use Rattle.link_pool.specs.declared.place.Claim.{Claim}
use Rattle.link_pool.specs.declared.place.Claim.TheVariants as claim
use Rattle.link_pool.specs.declared.replies.AcquireReply.TheVariants as acquire
use Rattle.link_pool.specs.declared.replies.UpReply.TheVariants as up
use Rattle.link_pool.specs.declared.replies.UpFailedReply.TheVariants as failing
use Rattle.link_pool.specs.declared.replies.ReleaseReply.TheVariants as release
use Rattle.link_pool.specs.declared.replies.CloseReply.TheVariants as close
use Rattle.link_pool.specs.declared.replies.EndedReply.TheVariants as ended
use Rattle.link_pool.specs.declared.replies.FailedReply.TheVariants as failed
use Rattle.link_pool.specs.declared.replies.RestartReply.TheVariants as restart
use Rattle.link_pool.specs.declared.place.Place.{Place}
use Rattle.link_pool.specs.declared.place.Place.TheVariants as place
use Rattle.lease.specs.declared.link_place.LinkPlace.{LinkPlace}
use Rattle.link_pool.specs.declared.place.LinkState.TheVariants as state
use Rattle.link_pool.specs.PoolStep.{giver_of, with_hold, one_less}
use Rattle.link_pool.specs.Pool.{PoolView, place_at, with_place, in_state, out_of_queue, unqueued, without_giver, departed_by, departed, unwaited_by, nothing_for, in_queue, queued}
use Rattle.cancel_router.specs.declared.refusal.RouteRefusal.TheVariants as route
use Rattle.cancel_router.specs.declared.decision.Route.{Route}
use Rattle.cancel_router.specs.declared.decision.Route.TheVariants as route_to
use Rattle.node_core.specs.View.{NodeView}
use Rattle.node_core.specs.declared.refusal.JoinRefusal.TheVariants as join
use Rattle.node_core.specs.declared.refusal.CancelRefusal.{CancelRefusal}
use Rattle.node_core.specs.declared.refusal.CancelRefusal.TheVariants as cancel
use Rattle.node_core.specs.declared.exchange.LeaveReply.TheVariants as leave
use Rattle.node_core.specs.declared.exchange.Order.TheVariants as order
use Rattle.node_core.specs.declared.exchange.Exchange.{Exchange}
use Rattle.node_core.specs.declared.exchange.Exchange.TheVariants.{Join, Leave, Acquire, Up, UpFailed, Release, Close, Cancel, Ended, Failed, Restart}
use Rattle.pg_ids.specs.AnyKey.{slot_of}
use Rattle.node_core.specs.NodeStep.{NodeStep, Orders}
use Rattle.pg_ids.specs.declared.any_key.Kind.{Kind}
use Rattle.pg_ids.specs.declared.any_key.Kind.TheVariants.{Short, Long}
use Rattle.startup.specs.declared.packet.Packet.{Packet}
use Rattle.locked_node.specs.declared.call_answer.CallAnswer.{CallAnswer}
use Rattle.locked_node.specs.declared.call_answer.CallAnswer.TheVariants.{Joined, AcquireOpen, WentUp, Served, Restarted}
use Rattle.locked_node.specs.CallNumbers.{answer_of, answer_index, asked_of, key_index, index_of, short, long}
use Rattle.locked_node.specs.Replay.{fixed_of}
use Rattle.locked_node.specs.Totals.{is_of}

-- 1 for a call with this answer, and 0 for another
abbrev pub one : CallAnswer → Exchange → ℕ
one answer call = if answer_index (answer_of call) == answer_index answer then 1 else 0

-- so it is of one of both kinds with this answer
by_key : (k : Kind) (a n : ℕ)
    → (if 2 * a + key_index k == 2 * n + 0 then 1 else 0) + (if 2 * a + key_index k == 2 * n + 1 then 1 else 0)
    ≡ (if a == n then 1 else 0)
by_key Short a n = ⊎_elim
    (λ (e : a ≡ n). rw (eq-eqb (2 * a + 0) (2 * n + 0) (omega (arith, e)), ne_eqb (2 * a + 0) (2 * n + 1) (λ h. absurd (omega (arith, h))), eq-eqb a n e) refl)
    (λ (ne : a ≢ n). rw (ne_eqb (2 * a + 0) (2 * n + 0) (λ h. ne (omega (arith, h))), ne_eqb (2 * a + 0) (2 * n + 1) (λ h. absurd (omega (arith, h))), ne_eqb a n ne) refl)
    (cases_eq a n)
by_key Long a n = ⊎_elim
    (λ (e : a ≡ n). rw (ne_eqb (2 * a + 1) (2 * n + 0) (λ h. absurd (omega (arith, h))), eq-eqb (2 * a + 1) (2 * n + 1) (omega (arith, e)), eq-eqb a n e) refl)
    (λ (ne : a ≢ n). rw (ne_eqb (2 * a + 1) (2 * n + 0) (λ h. absurd (omega (arith, h))), ne_eqb (2 * a + 1) (2 * n + 1) (λ h. ne (omega (arith, h))), ne_eqb a n ne) refl)
    (cases_eq a n)

pub by_kinds : (answer : CallAnswer) (call : Exchange)
    → (if is_of (index_of (short answer)) call then 1 else 0) + (if is_of (index_of (long answer)) call then 1 else 0)
    ≡ one answer call
by_kinds answer call = by_key (asked_of call) (answer_index (answer_of call)) (answer_index answer)

-- the next numbers of a node's links, and its incarnation
pub record Numbers : Type 0 where
  pub permit : ℕ
  pub link : ℕ
  pub ticket : ℕ
  pub incarnation : ℕ

abbrev pub numbers : PoolView → Numbers
numbers v = record { permit = v.next_permit; link = v.next_link; ticket = v.next_ticket; incarnation = v.incarnation }

-- the next numbers of passes, permits, links and tickets, and the incarnation, grow by at least the
-- given numbers, and what the settings fix stays
pub record Grows (pass permit link ticket incarnation : ℕ) (old new : NodeView) : Type 0 where
  pub fixed : fixed_of new ≡ fixed_of old
  pub passes : pass + old.next_pass ≤ new.next_pass
  pub permits : permit + old.links.next_permit ≤ new.links.next_permit
  pub links : link + old.links.next_link ≤ new.links.next_link
  pub tickets : ticket + old.links.next_ticket ≤ new.links.next_ticket
  pub incarnations : incarnation + old.links.incarnation ≤ new.links.incarnation

-- the queues have no numbers
left_out : (has : Option Claim) (v : PoolView) (slot : ℕ) → numbers (out_of_queue has v slot) ≡ numbers v
left_out None v slot = refl
left_out (Some claim.Nothing) v slot = refl
left_out (Some claim.Cancelled) v slot = refl
left_out (Some (claim.Waiting database)) v slot = refl
left_out (Some (claim.Open at)) v slot = refl
left_out (Some (claim.Link at)) v slot = refl
left_out (Some (claim.Gave at)) v slot = refl

put_in : (has : Option Claim) (v : PoolView) (slot database : ℕ) → numbers (in_queue has v slot database) ≡ numbers v
put_in None v slot database = refl
put_in (Some claim.Nothing) v slot database = refl
put_in (Some claim.Cancelled) v slot database = refl
put_in (Some (claim.Waiting already)) v slot database = refl
put_in (Some (claim.Open at)) v slot database = refl
put_in (Some (claim.Link at)) v slot database = refl
put_in (Some (claim.Gave at)) v slot database = refl

without : (v : PoolView) (slot : ℕ) → numbers (unqueued v slot) ≡ numbers v
without v slot = left_out (slice_get v.claims slot) v slot

-- nor has the link that nobody gets back
forgotten : (o : Option Place) (v : PoolView) (at : LinkPlace) → numbers (without_giver o v at) ≡ numbers v
forgotten None v at = refl
forgotten (Some place.Free) v at = refl
forgotten (Some (place.Open permit slot)) v at = refl
forgotten (Some (place.Link link)) v at = refl

leaving : (has : Option Claim) (v : PoolView) (slot : ℕ) → numbers (departed_by has v slot) ≡ numbers v
leaving None v slot = refl
leaving (Some claim.Nothing) v slot = refl
leaving (Some claim.Cancelled) v slot = refl
leaving (Some (claim.Waiting database)) v slot = refl
leaving (Some (claim.Open at)) v slot = refl
leaving (Some (claim.Link at)) v slot = refl
leaving (Some (claim.Gave at)) v slot = forgotten (place_at v at) v at

gone : (v : PoolView) (slot : ℕ) → numbers (departed v slot) ≡ numbers v
gone v slot = leaving (slice_get v.claims slot) v slot

-- nor a wait that is cancelled, nor a client that has nothing any more
no_wait : (has : Option Claim) (v : PoolView) (slot : ℕ) → numbers (unwaited_by has v slot) ≡ numbers v
no_wait None v slot = refl
no_wait (Some claim.Nothing) v slot = refl
no_wait (Some claim.Cancelled) v slot = refl
no_wait (Some (claim.Waiting database)) v slot = refl
no_wait (Some (claim.Open at)) v slot = refl
no_wait (Some (claim.Link at)) v slot = refl
no_wait (Some (claim.Gave at)) v slot = refl

taken_over : (giver : Option ℕ) (v : PoolView) → numbers (nothing_for giver v) ≡ numbers v
taken_over None v = refl
taken_over (Some slot) v = refl

within : (v : PoolView) (slot database : ℕ) → numbers (queued v slot database) ≡ numbers v
within v slot database = put_in (slice_get v.claims slot) v slot database

-- the node has this pass and these numbers next
made : {pass permit link ticket incarnation : ℕ} (old new : NodeView) (next : ℕ) (now : Numbers) → fixed_of new ≡ fixed_of old → new.next_pass ≡ next → numbers new.links ≡ now
    → pass + old.next_pass ≤ next → permit + old.links.next_permit ≤ now.permit → link + old.links.next_link ≤ now.link → ticket + old.links.next_ticket ≤ now.ticket
    → incarnation + old.links.incarnation ≤ now.incarnation → Grows pass permit link ticket incarnation old new
made old new next now fixed is e a b c d f = record {
  fixed = fixed;
  passes = omega (arith, is, a);
  permits = let n = ap (λ (x : Numbers). x.permit) e in omega (arith, n, b);
  links = let n = ap (λ (x : Numbers). x.link) e in omega (arith, n, c);
  tickets = let n = ap (λ (x : Numbers). x.ticket) e in omega (arith, n, d);
  incarnations = let n = ap (λ (x : Numbers). x.incarnation) e in omega (arith, n, f);
}

-- a step of the links alone
by_links : {permit link ticket incarnation : ℕ} (old new : NodeView) (now : PoolView) → new.links ≡ now → new ≡ record old { links = new.links }
    → permit + old.links.next_permit ≤ now.next_permit → link + old.links.next_link ≤ now.next_link → ticket + old.links.next_ticket ≤ now.next_ticket
    → incarnation + old.links.incarnation ≤ now.incarnation → Grows 0 permit link ticket incarnation old new
by_links old new now links e a b c d = made old new old.next_pass (numbers now) (ap fixed_of e) (ap (λ (v : NodeView). v.next_pass) e) (ap numbers links) (omega arith) a b c d

-- a step that makes no number
unmoved : (old new : NodeView) → fixed_of new ≡ fixed_of old → new.next_pass ≡ old.next_pass → numbers new.links ≡ numbers old.links → Grows 0 0 0 0 0 old new
unmoved old new fixed pass links = made old new old.next_pass (numbers old.links) fixed pass links (omega arith) (omega arith) (omega arith) (omega arith) (omega arith)

-- a step that changes nothing
still : (old new : NodeView) → new ≡ old → Grows 0 0 0 0 0 old new
still old new e = unmoved old new (ap fixed_of e) (ap (λ (v : NodeView). v.next_pass) e) (ap (λ (v : NodeView). numbers v.links) e)

-- a step of the links that makes no number
linked : (old new : NodeView) (links : PoolView) → numbers links ≡ numbers old.links → new.links ≡ links → new ≡ record old { links = new.links } → Grows 0 0 0 0 0 old new
linked old new links same e after = unmoved old new (ap fixed_of after) (ap (λ (v : NodeView). v.next_pass) after) (ap numbers e ∙ same)

-- a step of the links, after which a client that gave a link back has nothing any more
taking : (old new : NodeView) (giver : Option ℕ) (v : PoolView) → new.links ≡ nothing_for giver v
    → new ≡ record old { links = new.links } → numbers v ≡ numbers old.links → Grows 0 0 0 0 0 old new
taking old new giver v e after same = linked old new (nothing_for giver v) (taken_over giver v ∙ same) e after

-- a cancel request that isn't sent to a server
forwarded : (slot : ℕ) (r : Route) (to : ℕ) (packet : Packet) (old new : NodeView) → Orders slot r (order.Forward to packet) old new → Grows 0 0 0 0 0 old new
forwarded slot (route_to.Forward peer key) to packet old new o = still old new o.2
forwarded slot (route_to.Refused reason) to packet old new o = absurd o
forwarded slot (route_to.Send link) to packet old new o = absurd o
forwarded slot (route_to.Unwait waiting) to packet old new o = absurd o

unwait : (slot : ℕ) (r : Route) (told : ℕ) (old new : NodeView) → Orders slot r (order.Unwait told) old new → Grows 0 0 0 0 0 old new
unwait slot (route_to.Forward peer key) told old new o = absurd o
unwait slot (route_to.Refused reason) told old new o = absurd o
unwait slot (route_to.Send link) told old new o = absurd o
unwait slot (route_to.Unwait waiting) told old new o = linked old new _ (no_wait (slice_get old.links.claims waiting) old.links waiting) o.1.0 o.1.1

refused : (slot : ℕ) (r : Route) (refusal : CancelRefusal) (old new : NodeView) → Orders slot r (order.Refused refusal) old new → Grows 0 0 0 0 0 old new
refused slot (route_to.Forward peer key) refusal old new o = absurd o
refused slot (route_to.Refused reason) refusal old new o = still old new o.1
refused slot (route_to.Send link) cancel.Busy old new o = linked old new old.links refl o.0.1 o.1
refused slot (route_to.Send link) cancel.Exhausted old new o = linked old new old.links refl o.0.2 o.1
refused slot (route_to.Send link) (cancel.Route reason) old new o = absurd o
refused slot (route_to.Unwait waiting) refusal old new o = absurd o

served : (slot : ℕ) (r : Route) (ticket : TicketRecord) (database : ℕ) (key : List ℕ) (old new : NodeView) → Orders slot r (order.Serve ticket database key) old new
    → Grows 0 0 0 1 0 old new
served slot (route_to.Forward peer link) ticket database key old new o = absurd o
served slot (route_to.Refused reason) ticket database key old new o = absurd o
served slot (route_to.Unwait waiting) ticket database key old new o = absurd o
served slot (route_to.Send link) ticket database key old new o =
    by_links old new _ o.1.0.after o.1.1 (omega arith) (omega arith) (omega arith) (omega arith)

-- what a step makes
pub step_grows : (old : NodeView) (call : Exchange) (new : NodeView) → NodeStep old call new → Grows (one Joined call) (one AcquireOpen call) (one WentUp call) (one Served call) (one Restarted call) old new
step_grows old (Join database secret asked (Ok pass)) new step = let e = step.after in
    made old new _ _ (ap fixed_of e) (ap (λ (v : NodeView). v.next_pass) e) (ap (λ (v : NodeView). numbers v.links) e) (omega arith) (omega arith) (omega arith) (omega arith) (omega arith)
step_grows old (Join database secret asked (Err join.Full)) new step = still old new step.1
step_grows old (Join database secret asked (Err join.Exhausted)) new step = still old new step.2
step_grows old (Leave pass leave.Left) new step = let e = step.1.after in unmoved old new (ap fixed_of e) (ap (λ (v : NodeView). v.next_pass) e) (ap (λ (v : NodeView). numbers v.links) e ∙ gone old.links (slot_of pass.key))
step_grows old (Leave pass (leave.Holding again)) new step = still old new step.2
step_grows old (Leave pass leave.Stale) new step = still old new step.1
step_grows old (Leave pass leave.Exhausted) new step = absurd step
step_grows old (Acquire pass (acquire.Got lease)) new step = ⊎_elim
    (λ back. linked old new _ refl back.after step.step.1)
    (λ first. linked old new _ (without old.links (slot_of pass.key)) first.1.after step.step.1)
    step.step.0
step_grows old (Acquire pass (acquire.Open permit)) new step =
    let u = without old.links (slot_of pass.key) in
    let link = ap (λ (x : Numbers). x.link) u in
    let ticket = ap (λ (x : Numbers). x.ticket) u in
    let incarnation = ap (λ (x : Numbers). x.incarnation) u in
    by_links old new _ step.step.0.2.after step.step.1 (omega arith) (omega (arith, link)) (omega (arith, ticket)) (omega (arith, incarnation))
step_grows old (Acquire pass acquire.Waiting) new step = linked old new _ (within old.links (slot_of pass.key) step.client.database) step.step.0.2 step.step.1
step_grows old (Acquire pass acquire.Cancelled) new step = linked old new _ refl step.step.0.1 step.step.1
step_grows old (Acquire pass acquire.Holding) new step = linked old new _ refl step.step.0.1 step.step.1
step_grows old (Acquire pass acquire.Exhausted) new step = linked old new _ refl step.step.0.4 step.step.1
step_grows old (Acquire pass acquire.Stale) new step = still old new step.1
step_grows old (Up permit key (up.Up lease)) new step = by_links old new _ step.0.after step.1 (omega arith) (omega arith) (omega arith) (omega arith)
step_grows old (Up permit key (up.Exhausted again stream)) new step = linked old new _ refl step.0.3 step.1
step_grows old (Up permit key (up.Stale stream)) new step = linked old new _ refl step.0.1 step.1
step_grows old (Up permit key (up.AtEnd stream)) new step = absurd step.0
step_grows old (UpFailed permit failing.Freed) new step = linked old new _ refl step.0.2 step.1
step_grows old (UpFailed permit failing.Stale) new step = linked old new _ refl step.0.1 step.1
step_grows old (UpFailed permit failing.Exhausted) new step = absurd step.0
step_grows old (Release lease release.Idle) new step = linked old new _ refl step.0.5 step.1
step_grows old (Release lease release.Quarantined) new step = linked old new _ refl step.0.5 step.1
step_grows old (Release lease (release.Closed stream)) new step = linked old new _ refl step.0.4 step.1
step_grows old (Release lease (release.Stale stream)) new step = linked old new _ refl step.0.1 step.1
step_grows old (Release lease (release.Exhausted stream)) new step = absurd step.0
step_grows old (Close lease (close.Closed stream)) new step = linked old new _ refl step.0.3 step.1
step_grows old (Close lease (close.Stale stream)) new step = linked old new _ refl step.0.1 step.1
step_grows old (Close lease (close.Exhausted stream)) new step = absurd step.0
step_grows old (Cancel key (order.Serve ticket database server)) new step = served _ _ ticket database server old new step
step_grows old (Cancel key (order.Forward to packet)) new step = forwarded _ _ to packet old new step
step_grows old (Cancel key (order.Unwait slot)) new step = unwait _ _ slot old new step
step_grows old (Cancel key (order.Refused (cancel.Route route.Spent))) new step = refused _ _ (cancel.Route route.Spent) old new step
step_grows old (Cancel key (order.Refused (cancel.Route route.Unknown))) new step = refused _ _ (cancel.Route route.Unknown) old new step
step_grows old (Cancel key (order.Refused (cancel.Route route.NoPeer))) new step = refused _ _ (cancel.Route route.NoPeer) old new step
step_grows old (Cancel key (order.Refused (cancel.Route route.NoLink))) new step = refused _ _ (cancel.Route route.NoLink) old new step
step_grows old (Cancel key (order.Refused cancel.Busy)) new step = refused _ _ cancel.Busy old new step
step_grows old (Cancel key (order.Refused cancel.Exhausted)) new step = refused _ _ cancel.Exhausted old new step
step_grows old (Ended ticket ended.Freed) new step =
    let link = step.0.0 in
    taking old new (giver_of link.state) (with_place old.links ticket.at (place.Link (in_state state.Idle (with_hold link (one_less link.hold))))) step.0.4 step.1 refl
step_grows old (Ended ticket ended.Counted) new step = linked old new _ refl step.0.3 step.1
step_grows old (Ended ticket ended.Stale) new step = linked old new _ refl step.0.1 step.1
step_grows old (Ended ticket ended.Exhausted) new step = absurd step.0
step_grows old (Failed ticket failed.Condemned) new step = linked old new _ refl step.0.4 step.1
step_grows old (Failed ticket (failed.Closed stream)) new step =
    taking old new (giver_of step.0.0.state) (with_place old.links ticket.at place.Free) step.0.3 step.1 refl
step_grows old (Failed ticket failed.Stale) new step = linked old new _ refl step.0.1 step.1
step_grows old (Failed ticket failed.Exhausted) new step = absurd step.0
step_grows old (Restart boot restart.Restarted) new step = let e = step.after in
    made old new _ _ (ap fixed_of e) (ap (λ (v : NodeView). v.next_pass) e) (ap numbers step.links.0) (omega arith) (omega arith) (omega arith) (omega arith) (omega arith)
step_grows old (Restart boot restart.Exhausted) new step = still old new step.1
