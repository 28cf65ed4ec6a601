-- At a node to which clients came a request is decided on and reported, and links are closed.
use Rattle.std.proofs.Common.{◌≡◌, ◌≢◌, ℕ, ◌+◌, ◌-◌, ◌<◌, ◌≤◌, ◌^◌, Bool, true, false, ◌⊎◌, inl, inr, ⊎_elim, List, [], ◌∷◌, ◌++◌, Option, Some, None, length, length-append, refl, ap, sym, subst, ◌∙◌, arith}
use Rattle.std.specs.List.{slice_get}
use Rattle.std.proofs.lemmas.Option.{slice_get_within}
use Rattle.pg_ids.specs.AnyKey.{slot_of}
use Rattle.pg_ids.specs.declared.any_key.AnyKey.{AnyKey}
use Rattle.lease.specs.declared.link_place.LinkPlace.{LinkPlace}
use Rattle.lease.specs.declared.link_record.LinkRecord.{LinkRecord}
use Rattle.lease.specs.declared.pass.PassRecord.{PassRecord}
use Rattle.lease.specs.declared.ticket.TicketRecord.{TicketRecord}
use Rattle.quarantine.specs.OpenTickets.{OpenTickets}
use Rattle.link_pool.specs.declared.place.{Place.Place, Claim.Claim, Link.Link, LinkState.LinkState}
use Rattle.link_pool.specs.declared.replies.{CloseReply.CloseReply, FailedReply.FailedReply, ServeReply.ServeReply}
use Rattle.link_pool.specs.Pool.{PoolView, place_at, placed, with_place, unwaited, unwaited_by, give_back}
use Rattle.link_pool.specs.Stacks.{put_on}
use Rattle.link_pool.specs.PoolStep as pool
use Rattle.link_pool.specs.PoolStep.{IsTicket, with_hold, one_more, one_failed, is_quarantined}
use Rattle.link_pool.specs.OnePlace.{IsPool, LinkFits, Fits, StateFits, used_in}
use Rattle.link_pool.proofs.Changes.{place_here, place_there}
use Rattle.link_pool.proofs.Whole.{place_cases}
use Rattle.link_pool.proofs.Handing.{of_held, vacated, held_on, given_more}
use Rattle.cancel_router.specs.declared.decision.Route.{Route}
use Rattle.node_core.specs.declared.refusal.CancelRefusal.{CancelRefusal}
use Rattle.node_core.specs.declared.exchange.Order.{Order}
use Rattle.node_core.specs.View.{NodeView, IsNode}
use Rattle.node_core.specs.NodeStep.{LinksStep, Orders, CancelStep, route_of}
use Rattle.node_core.proofs.Links.{with_links, close_kept, serve_kept, failed_kept}
use Rattle.answer.specs.Attended.{IsOut, Attended, Came, Rests, Struck, Asked, ticket_of, is_calm, is_still, is_lent}
use Rattle.world.proofs.Lists.{added_last, kept_behind, before_end}
use Rattle.answer.proofs.Places.{used_placed, first_database, calm_placed, still_claim, out_placed}
use Rattle.answer.proofs.LinkSteps.{in_links}

pub came_rests : (size : ℕ) (passes : List PassRecord) (leases : List LinkRecord) (v : NodeView)
    → Came size passes leases v → Rests passes leases v
came_rests size passes leases v came = came.coming.attended

-- ---- the request

-- no link is quarantined
lent : (passes : List PassRecord) (leases : List LinkRecord) (v : NodeView) (at : LinkPlace)
    (link : Link) → Rests passes leases v → place_at v.links at ≡ Some (Place.Link link)
    → is_lent link.state ≡ true
lent passes leases v at link old there = ap is_calm (sym there) ∙ old.calm at

lent_fits : (x : LinkState) (hold : OpenTickets) → is_lent x ≡ true → StateFits x hold
lent_fits LinkState.Idle hold h = absurd (cc)
lent_fits (LinkState.Held slot) hold h = tt
lent_fits (LinkState.Quarantined giver) hold h = absurd (cc)

-- the links once a link's tickets have changed, and the number of the next
abbrev holding : PoolView → LinkPlace → Link → OpenTickets → ℕ → PoolView
holding v at link hold next =
    record (with_place v at (Place.Link (with_hold link hold))) { next_ticket = next }

-- each stays as it is
held_rests : (passes : List PassRecord) (leases : List LinkRecord) (v : NodeView) (at : LinkPlace)
    (link : Link) (hold : OpenTickets) (next : ℕ) → Rests passes leases v
    → place_at v.links at ≡ Some (Place.Link link) → hold.tickets ≤ 65535 → next ≤ 2 ^ 64
    → IsNode (with_links v (holding v.links at link hold next))
    → Rests passes leases (with_links v (holding v.links at link hold next))
held_rests passes leases v at link hold next old there few left node =
    let new : Place = Place.Link (with_hold link hold) in
    let f = put_on false at.index in
    let lends = lent passes leases v at link old there in
    let u = holding v.links at link hold next in
    let numbers = old.pool.numbers in
    let l = numbers.0 in
    let p = numbers.1 in
    let first = first_database v at (Place.Link link) old.node old.one there in
    let many = used_placed v.links at (Place.Link link) new f first there in
    let used = old.used in
    let whole : IsPool u = given_more (with_place v.links at new) v.links.next_link
    v.links.next_permit next (held_on v.links at link hold old.pool there few
    (lent_fits link.state hold lends)) (omega arith) (omega arith) l p left in
    let stays : (lease : LinkRecord) → IsOut v.links lease → IsOut u lease = λ lease is. ⊎_elim
    (λ same. let both : Some (Place.Link is.link) ≡ Some (Place.Link link) = sym is.held.at
    ∙ ap (place_at v.links) same ∙ there in
    let one : is.link ≡ link = cc in
    record {
      link = with_hold link hold;
      slot = is.slot;
      held = record {
        at = ap (place_at u) same ∙ place_here v.links at (Place.Link link) new f there;
        says = ap (λ (x : Link). x.details) (sym one) ∙ is.held.says;
        held = ap (λ (x : Link). x.state) (sym one) ∙ is.held.held;
      };
    })
    (λ other. out_placed v.links u at new f lease refl other is)
    (place_cases lease.at at) in
    record {
      node = node;
      pool = whole;
      one = old.one;
      present = λ i q h. in_links v u q refl (old.present i q h);
      slots = old.slots;
      out = λ i lease h. stays lease (old.out i lease h);
      places = old.places;
      calm = calm_placed v.links at (Place.Link link) new f there lends old.calm;
      still = old.still;
      nobody = old.nobody;
      used = omega (arith, many, used);
    }

serve_rests : (passes : List PassRecord) (leases : List LinkRecord) (slot : ℕ) (v w : NodeView)
    (ticket : TicketRecord) (database : ℕ) (key : List ℕ) → Rests passes leases v
    → LinksStep (pool.ServeStep slot (ServeReply.Serve ticket database key)) v w
    → Asked passes leases (Some ticket) w
serve_rests passes leases slot v w ticket database key old step =
    let serves = step.0 in
    let at = serves.at in
    let link = serves.link in
    let hold = one_more link.hold in
    let u = holding v.links at link hold (v.links.next_ticket + 1) in
    let after : w ≡ with_links v u = step.1 ∙ ap (with_links v) serves.after in
    let few = serves.few in
    let left = serves.left in
    let fits : LinkFits v.links at link = subst (Fits v.links at) serves.has.1 (old.pool.fits at) in
    let is_at : ticket.at ≡ at = ap (λ (t : TicketRecord). t.at) serves.says in
    let node : IsNode (with_links v u) = subst (λ (x : PoolView). IsNode (with_links v x)) serves.after
    (serve_kept w.links slot (ServeReply.Serve ticket database key) old.node serves) in
    rw after (
      held_rests passes leases v at link hold (v.links.next_ticket + 1) old serves.has.1
          (omega (arith, few)) (omega (arith, left)) node,
      (
        with_hold link hold,
        record {
          at = ap (place_at u) is_at
              ∙ place_here v.links at (Place.Link link) (Place.Link (with_hold link hold))
              (put_on false at.index) serves.has.1;
          says = fits.says ∙ sym (ap pool.link_of serves.says);
          some = omega arith;
        },
      ),
    )

-- nobody waits whose wait could be ended
nobody_unwaited : (o : Option Claim) (v : PoolView) (slot : ℕ) → is_still o ≡ true
    → unwaited_by o v slot ≡ v
nobody_unwaited None v slot still = refl
nobody_unwaited (Some Claim.Nothing) v slot still = refl
nobody_unwaited (Some Claim.Cancelled) v slot still = refl
nobody_unwaited (Some (Claim.Waiting d)) v slot still = absurd (cc)
nobody_unwaited (Some (Claim.Open at)) v slot still = refl
nobody_unwaited (Some (Claim.Link at)) v slot still = refl
nobody_unwaited (Some (Claim.Gave at)) v slot still = refl

same_rests : (passes : List PassRecord) (leases : List LinkRecord) (v w : NodeView)
    → Rests passes leases v → w ≡ v → Asked passes leases None w
same_rests passes leases v w old same = (subst (Rests passes leases) (sym same) old, tt)

links_same : (passes : List PassRecord) (leases : List LinkRecord) (v w : NodeView)
    → Rests passes leases v → w ≡ with_links v w.links → w.links ≡ v.links
    → Asked passes leases None w
links_same passes leases v w old after same =
    same_rests passes leases v w old (after ∙ ap (with_links v) same)

by_route : (passes : List PassRecord) (leases : List LinkRecord) (v w : NodeView) (slot : ℕ)
    (way : Route) (order : Order TicketRecord) → Rests passes leases v → Orders slot way order v w
    → Asked passes leases (ticket_of order) w
by_route passes leases v w slot (Route.Forward peer key) (Order.Forward to packet) old step =
    same_rests passes leases v w old step.2
by_route passes leases v w slot (Route.Forward peer key) (Order.Serve t d k) old step = absurd step
by_route passes leases v w slot (Route.Forward peer key) (Order.Unwait s) old step = absurd step
by_route passes leases v w slot (Route.Forward peer key) (Order.Refused r) old step = absurd step
by_route passes leases v w slot (Route.Refused reason) (Order.Refused r) old step =
    same_rests passes leases v w old step.1
by_route passes leases v w slot (Route.Refused reason) (Order.Serve t d k) old step = absurd step
by_route passes leases v w slot (Route.Refused reason) (Order.Unwait s) old step = absurd step
by_route passes leases v w slot (Route.Refused reason) (Order.Forward to packet) old step =
    absurd step
by_route passes leases v w slot (Route.Send link) (Order.Serve t d k) old step =
    serve_rests passes leases slot v w t d k old step.1
by_route passes leases v w slot (Route.Send link) (Order.Refused CancelRefusal.Busy) old step =
    links_same passes leases v w old step.1 step.0.1
by_route passes leases v w slot (Route.Send link) (Order.Refused CancelRefusal.Exhausted) old step =
    links_same passes leases v w old step.1 step.0.2
by_route passes leases v w slot (Route.Send link) (Order.Refused (CancelRefusal.Route r)) old step =
    absurd step
by_route passes leases v w slot (Route.Send link) (Order.Forward to packet) old step = absurd step
by_route passes leases v w slot (Route.Send link) (Order.Unwait s) old step = absurd step
by_route passes leases v w slot (Route.Unwait waiting) (Order.Unwait told) old step =
    links_same passes leases v w old step.1.1 (step.1.0
    ∙ nobody_unwaited _ v.links waiting (old.still waiting))
by_route passes leases v w slot (Route.Unwait waiting) (Order.Serve t d k) old step = absurd step
by_route passes leases v w slot (Route.Unwait waiting) (Order.Forward to packet) old step =
    absurd step
by_route passes leases v w slot (Route.Unwait waiting) (Order.Refused r) old step = absurd step

-- a request was decided on
pub cancel_leads : (passes : List PassRecord) (leases : List LinkRecord) (v w : NodeView)
    (key : AnyKey) (order : Order TicketRecord) → Rests passes leases v → CancelStep key order v w
    → Asked passes leases (ticket_of order) w
cancel_leads passes leases v w key order old step =
    by_route passes leases v w (slot_of key) (route_of v key) order old step

-- its link is with its client
pub failed_expected : (passes : List PassRecord) (leases : List LinkRecord) (ticket : TicketRecord)
    (v w : NodeView) (S : Type 0) (reply : FailedReply S) → Asked passes leases (Some ticket) v
    → LinksStep (pool.FailedStep ticket reply) v w → reply ≡ FailedReply.Condemned
failed_expected passes leases ticket v w S FailedReply.Condemned old step = refl
failed_expected passes leases ticket v w S (FailedReply.Closed stream) old step =
    let lends = lent passes leases v ticket.at step.0.0 old.0 step.0.1.at in
    absurd (not_both step.0.0.state lends step.0.2)
  where
    not_both : (x : LinkState) → is_lent x ≡ true → is_quarantined x ≡ true → ⊥
    not_both LinkState.Idle l q = absurd (cc)
    not_both (LinkState.Held slot) l q = absurd (cc)
    not_both (LinkState.Quarantined giver) l q = absurd (cc)
failed_expected passes leases ticket v w S FailedReply.Stale old step =
    absurd (step.0.0 old.1.0 old.1.1)
failed_expected passes leases ticket v w S FailedReply.Exhausted old step = absurd step.0

pub failed_leads : (passes : List PassRecord) (leases : List LinkRecord) (ticket : TicketRecord)
    (v w : NodeView) (S : Type 0) → Asked passes leases (Some ticket) v
    → LinksStep (pool.FailedStep {S = S} ticket FailedReply.Condemned) v w → Rests passes leases w
failed_leads passes leases ticket v w S old step =
    let link = step.0.0 in
    let is = step.0.2 in
    let hold = one_failed link.hold in
    let u = holding v.links ticket.at link hold v.links.next_ticket in
    let after : w ≡ with_links v u = step.1 ∙ ap (with_links v) step.0.4 in
    let fits : LinkFits v.links ticket.at link = subst (Fits v.links ticket.at) is.at (old.0.pool.fits ticket.at) in
    let few = fits.tickets in
    let left = old.0.pool.numbers.2 in
    let node : IsNode (with_links v u) = subst (λ (x : PoolView). IsNode (with_links v x)) step.0.4
    (failed_kept {S = S} w.links ticket FailedReply.Condemned old.0.node step.0) in
    rw after (held_rests passes leases v ticket.at link hold v.links.next_ticket old.0 is.at
    (omega (arith, few)) left node)

-- ---- closing a link

pub close_expected : (passes : List PassRecord) (leases : List LinkRecord) (lease : LinkRecord)
    (v w : NodeView) (S : Type 0) (reply : CloseReply S)
    → Rests passes (leases ++ lease ∷ []) v → LinksStep (pool.CloseStep lease reply) v w
    → (stream : S) × (reply ≡ CloseReply.Closed stream)
close_expected passes leases lease v w S (CloseReply.Closed stream) old step = (stream, refl)
close_expected passes leases lease v w S (CloseReply.Stale stream) old step =
    let is = old.out (length leases) lease (added_last leases lease) in
    absurd (step.0.0 is.link is.slot is.held)
close_expected passes leases lease v w S (CloseReply.Exhausted stream) old step = absurd step.0

pub close_leads : (passes : List PassRecord) (leases : List LinkRecord) (lease : LinkRecord)
    (v w : NodeView) (S : Type 0) (stream : S) → Rests passes (leases ++ lease ∷ []) v
    → LinksStep (pool.CloseStep lease (CloseReply.Closed stream)) v w → Rests passes leases w
close_leads passes leases lease v w S stream old step =
    let link = step.0.0 in
    let slot = step.0.1 in
    let held = step.0.2 in
    let at = lease.at in
    let f = put_on true at.index in
    let was : Place = Place.Link link in
    let u = give_back v.links at slot Place.Free in
    let after : w ≡ with_links v u = step.1 ∙ ap (with_links v) step.0.3 in
    let first = first_database v at was old.node old.one held.at in
    let many = used_placed v.links at was Place.Free f first held.at in
    let used = old.used in
    let longer = length-append leases (lease ∷ []) in
    let node : IsNode (with_links v u) = subst (λ (x : PoolView). IsNode (with_links v x)) step.0.3
    (close_kept w.links lease (CloseReply.Closed stream) old.node step.0) in
    let last = added_last leases lease in
    let apart : (i : ℕ) (other : LinkRecord) → slice_get leases i ≡ Some other → other.at ≢ at =
    λ i other h same. let one = old.places i (length leases) other lease
    (kept_behind leases (lease ∷ []) i other h) last same in
    let below = before_end leases i other h in
    absurd (omega (arith, one, below)) in
    rw after record {
      node = node;
      pool = vacated v.links at slot old.pool (of_held v.links lease link slot old.pool held) refl;
      one = old.one;
      present = λ i p h. in_links v u p refl (old.present i p h);
      slots = old.slots;
      out = λ i other h. out_placed v.links u at Place.Free f other refl (apart i other h)
          (old.out i other (kept_behind leases (lease ∷ []) i other h));
      places = λ i j a b x y same. old.places i j a b (kept_behind leases (lease ∷ []) i a x)
          (kept_behind leases (lease ∷ []) j b y) same;
      calm = calm_placed v.links at was Place.Free f held.at refl old.calm;
      still = still_claim v.links.claims slot Claim.Nothing refl old.still;
      nobody = old.nobody;
      used = omega (arith, many, used, longer);
    }
