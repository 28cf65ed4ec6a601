-- A client opens its link at a node to which clients come, the request is decided on and reported,
-- and the link is closed.
use Rattle.std.proofs.Common.{◌≡◌, ◌≢◌, ℕ, ◌+◌, ◌<◌, ◌≤◌, ◌^◌, Bool, true, false, ◌⊎◌, inl, inr, ⊎_elim, List, [], ◌∷◌, ◌++◌, Option, Some, None, length, length-append, refl, ap, sym, subst, ◌∙◌, arith}
use Rattle.std.proofs.Math.ListN.{set}
use Rattle.std.specs.List.{slice_get}
use Rattle.std.proofs.lemmas.Option.{slice_get_within, same_Some}
use Rattle.std.proofs.lemmas.List.{length-map}
use Rattle.pg_ids.specs.AnyKey.{slot_of}
use Rattle.lease.specs.declared.link_place.LinkPlace.{LinkPlace}
use Rattle.lease.specs.declared.link_record.LinkRecord.{LinkRecord}
use Rattle.lease.specs.declared.pass.PassRecord.{PassRecord}
use Rattle.lease.specs.declared.permit.PermitRecord.{PermitRecord}
use Rattle.lease.specs.declared.ticket.TicketRecord.{TicketRecord}
use Rattle.quarantine.specs.OpenTickets.{OpenTickets}
use Rattle.link_pool.specs.declared.place.{Place.Place, Claim.Claim, Link.Link, LinkState.LinkState}
use Rattle.link_pool.specs.declared.replies.{AcquireReply.AcquireReply, UpReply.UpReply, CloseReply.CloseReply}
use Rattle.link_pool.specs.declared.replies.{FailedReply.FailedReply, ServeReply.ServeReply}
use Rattle.link_pool.specs.Pool.{DatabasePool, PoolView, place_in, place_at, placed, with_place, with_claim, unqueued, out_of_queue, unwaited, unwaited_by, keep, give_back, lend, in_state, queue_at}
use Rattle.link_pool.specs.Stacks.{put_on, under_top}
use Rattle.link_pool.specs.PoolStep as pool
use Rattle.link_pool.specs.PoolStep.{IsHeld, IsOpen, IsTicket, is_holding, with_hold, new_link}
use Rattle.link_pool.specs.OnePlace.{IsPool, LinkFits, Fits, StateFits, sizes, used_in}
use Rattle.link_pool.proofs.Changes.{place_here, place_there}
use Rattle.link_pool.proofs.Whole.{place_cases}
use Rattle.link_pool.proofs.Asking.{opened}
use Rattle.link_pool.proofs.Handing.{of_held, vacated, held_on, given_more, went_up}
use Rattle.startup.specs.CancelPacket.{cancel_packet}
use Rattle.cancel_router.specs.declared.decision.Route.{Route}
use Rattle.node_core.specs.declared.client.Client.{Client}
use Rattle.node_core.specs.declared.refusal.CancelRefusal.{CancelRefusal}
use Rattle.node_core.specs.declared.exchange.Order.{Order}
use Rattle.node_core.specs.View.{NodeView, IsNode, IsClient}
use Rattle.node_core.specs.NodeStep.{IsPass, LinksStep, AcquireStep, Orders}
use Rattle.node_core.proofs.Clients.{may_ask}
use Rattle.node_core.proofs.Links.{with_links, acquire_kept, up_kept, close_kept, serve_kept, failed_kept}
use Rattle.answer.specs.Attended.{IsIn, IsOut, Attended, Coming, Came, Joined, Opening, Rests, Struck, Asked, is_calm, is_still, is_lent}
use Rattle.world.proofs.Lists.{added_cases, added_last, kept_behind, before_end}
use Rattle.answer.proofs.Places.{some_place, used_placed, first_database, calm_placed, still_claim, out_placed}

-- whoever is there is there still, once links have changed
pub in_links : (v : NodeView) (u : PoolView) (pass : PassRecord) → u.incarnation ≡ v.links.incarnation
    → IsIn v pass → IsIn (with_links v u) pass
in_links v u pass same is = record {
  client = is.client;
  is = record {
    own = (is.is.own.0, is.is.own.1 ∙ sym same);
    there = is.is.there;
    number = is.is.number;
  };
  of = is.of;
}

-- ---- opening a link

-- the first of these pools, whose sizes are these, has a free place
free_in_first : (pools : List DatabasePool) (size : ℕ)
    → sizes pools ≡ size ∷ [] → used_in (slice_get pools 0) < size
    → (index : ℕ) × (place_in (slice_get pools 0) index ≡ Some Place.Free)
free_in_first [] size h room = absurd (cc)
free_in_first (first ∷ rest) size h room =
    let long : length first.places ≡ size = cc in
    some_place first.places (omega (arith, long, room))

-- a place of the one database is free
place_left : (size : ℕ) (passes : List PassRecord) (leases : List LinkRecord) (used : ℕ)
    (v : NodeView) → Coming size passes leases used v → used < size
    → (index : ℕ) × (place_at v.links (pool.nth_of 0 index) ≡ Some Place.Free)
place_left size passes leases used v coming room =
    let many = coming.attended.used in
    free_in_first v.links.pools size (coming.attended.node.sized ∙ coming.pools)
    (omega (arith, many, room))

-- the only client of a pass
own_client : (v : NodeView) (pass : PassRecord) (client : Client) (is : IsIn v pass)
    → IsPass v pass client → client.database ≡ 0
own_client v pass client is other =
    let both : Some (Some client) ≡ Some (Some is.client) = sym other.there ∙ is.is.there in
    let same : client ≡ is.client = cc in
    ap (λ (c : Client). c.database) same ∙ is.of

joined_in : (size : ℕ) (passes : List PassRecord) (pass : PassRecord) (leases : List LinkRecord)
    (v : NodeView) → Joined size passes pass leases v → IsIn v pass
joined_in size passes pass leases v joined =
    joined.coming.attended.present (length passes) pass (added_last passes pass)

-- a client that has nothing may open a link
pub acquire_expected : (size : ℕ) (passes : List PassRecord) (pass : PassRecord)
    (leases : List LinkRecord) (v w : NodeView) (reply : AcquireReply LinkRecord PermitRecord)
    → Joined size passes pass leases v → AcquireStep pass reply v w
    → (permit : PermitRecord) × (reply ≡ AcquireReply.Open permit)
acquire_expected size passes pass leases v w (AcquireReply.Open permit) joined step = (permit, refl)
acquire_expected size passes pass leases v w AcquireReply.Stale joined step =
    let is = joined_in size passes pass leases v joined in absurd (step.0 is.client is.is)
acquire_expected size passes pass leases v w (AcquireReply.Got lease) joined step = ⊎_elim
    (λ back. let both : Some Claim.Nothing ≡ Some (Claim.Gave lease.at) =
    sym joined.nothing ∙ back.gave in absurd (cc))
    (λ gets. let calm : is_lent LinkState.Idle ≡ true = ap is_lent (sym gets.1.idle)
    ∙ ap is_calm (sym gets.1.was) ∙ joined.coming.attended.calm lease.at in absurd (cc))
    step.step.0
acquire_expected size passes pass leases v w AcquireReply.Waiting joined step =
    let is = joined_in size passes pass leases v joined in
    let first = own_client v pass step.client is step.is in
    let few = joined.few in
    let room = joined.room in
    let free = place_left size (passes ++ pass ∷ []) leases (length leases) v joined.coming
    (omega (arith, few, room)) in
    ⊎_elim
    (λ behind. let no : true ≡ false = ap (λ (queue : List ℕ). pool.is_first (slot_of pass.key) queue)
    (sym joined.coming.attended.nobody) ∙ ap (λ (d : ℕ). pool.is_first (slot_of pass.key)
    (queue_at v.links d)) (sym first) ∙ behind in absurd (cc))
    (λ none. let no : place_at v.links (pool.nth_of 0 free.0) ≢ Some Place.Free =
    subst (λ (d : ℕ). place_at v.links (pool.nth_of d free.0) ≢ Some Place.Free) first
    (none.1 free.0) in absurd (no free.1))
    step.step.0.1
acquire_expected size passes pass leases v w AcquireReply.Cancelled joined step =
    let both : Some Claim.Nothing ≡ Some Claim.Cancelled = sym joined.nothing ∙ step.step.0.0 in
    absurd (cc)
acquire_expected size passes pass leases v w AcquireReply.Holding joined step =
    let no : false ≡ true = ap is_holding (sym joined.nothing) ∙ step.step.0.0 in absurd (cc)
acquire_expected size passes pass leases v w AcquireReply.Exhausted joined step =
    let last = step.step.0.3 in
    let number = joined.coming.next_permit in
    let few = joined.few in
    let room = joined.room in
    let limit = joined.limit in
    absurd (omega (arith, last, number, few, room, limit))

-- the view once a place is kept for the client of a slot that has nothing
abbrev keeping : PoolView → ℕ → PermitRecord → PoolView
keeping v slot permit = record (keep v slot permit) { next_permit = v.next_permit + 1 }

-- the client of the pass may open a link
pub acquire_leads : (size : ℕ) (passes : List PassRecord) (pass : PassRecord)
    (leases : List LinkRecord) (v w : NodeView) (permit : PermitRecord)
    → Joined size passes pass leases v → AcquireStep pass (AcquireReply.Open permit) v w
    → Opening size passes pass leases permit w
acquire_leads size passes pass leases v w permit joined step =
    let is = joined_in size passes pass leases v joined in
    let old = joined.coming.attended in
    let slot = slot_of pass.key in
    let may = step.step.0.2 in
    let number = joined.coming.next_permit in
    let few = joined.few in
    let room = joined.room in
    let limit = joined.limit in
    let out : unqueued v.links slot ≡ v.links =
    ap (λ o. out_of_queue o v.links slot) joined.nothing in
    let made : w.links ≡ keeping v.links slot permit = may.after
    ∙ ap (λ (u : PoolView). record (keep u slot permit) { next_permit = v.links.next_permit + 1 }) out in
    let after : w ≡ with_links v (keeping v.links slot permit) =
    step.step.1 ∙ ap (with_links v) made in
    let from = permit.at in
    let new : Place = Place.Open permit slot in
    let first = first_database v from Place.Free old.node old.one may.at.free in
    let within = slice_get_within v.links.claims slot Claim.Nothing joined.nothing in
    let whole : IsPool (keeping v.links slot permit) =
    subst (λ (u : PoolView). IsPool (keep u slot permit))
    (ap (λ o. out_of_queue o (record v.links { next_permit = v.links.next_permit + 1 }) slot) joined.nothing)
    (opened v.links slot (v.links.next_permit + 1) permit old.pool within
    (ap pool.may_ask joined.nothing) may.at may.left refl may.says) in
    let node : IsNode (with_links v (keeping v.links slot permit)) =
    subst (λ (u : PoolView). IsNode (with_links v u)) made
    (acquire_kept w.links slot step.client (AcquireReply.Open permit) old.node step.is.there step.step.0) in
    let one_more = used_placed v.links from Place.Free new under_top first may.at.free in
    let used = old.used in
    let count = joined.coming.next_permit in
    let apart : (i : ℕ) (lease : LinkRecord) → slice_get leases i ≡ Some lease → lease.at ≢ from =
    λ i lease h same. let is_out = old.out i lease h in
    let both : Some Place.Free ≡ Some (Place.Link is_out.link) = sym may.at.free
    ∙ ap (place_at v.links) (sym same) ∙ is_out.held.at in absurd (cc) in
    rw after record {
      coming = record {
        attended = record {
          node = node;
          pool = whole;
          one = old.one;
          present = λ i p h. in_links v (keeping v.links slot permit) p refl (old.present i p h);
          slots = old.slots;
          out = λ i lease h. out_placed v.links (keeping v.links slot permit) from new under_top lease refl
              (apart i lease h)
              (old.out i lease h);
          places = old.places;
          calm = calm_placed v.links from Place.Free new under_top may.at.free refl old.calm;
          still = still_claim v.links.claims slot (Claim.Open from) refl old.still;
          nobody = old.nobody;
          used = omega (arith, one_more, used);
        };
        pools = joined.coming.pools;
        entries = joined.coming.entries;
        live = joined.coming.live;
        next_pass = joined.coming.next_pass;
        next_permit = omega (arith, count);
        next_link = joined.coming.next_link;
      };
      slot = slot;
      kept = place_here v.links from Place.Free new under_top may.at.free;
      few = few;
      room = room;
      limit = limit;
    }

-- the link of a permit opens
pub up_expected : (size : ℕ) (passes : List PassRecord) (pass : PassRecord)
    (leases : List LinkRecord) (permit : PermitRecord) (v w : NodeView) (key : List ℕ) (S : Type 0)
    (reply : UpReply LinkRecord PermitRecord S) → Opening size passes pass leases permit v
    → LinksStep (pool.UpStep permit key reply) v w
    → (lease : LinkRecord) × (reply ≡ UpReply.Up lease)
up_expected size passes pass leases permit v w key S (UpReply.Up lease) opening step = (lease, refl)
up_expected size passes pass leases permit v w key S (UpReply.Exhausted again stream) opening step =
    let last = step.0.2 in
    let number = opening.coming.next_link in
    let few = opening.few in
    let room = opening.room in
    let limit = opening.limit in
    absurd (omega (arith, last, number, few, room, limit))
up_expected size passes pass leases permit v w key S (UpReply.Stale stream) opening step =
    absurd (step.0.0 opening.slot opening.kept)
up_expected size passes pass leases permit v w key S (UpReply.AtEnd stream) opening step =
    absurd step.0

-- the client of the pass has its link
pub up_leads : (size : ℕ) (passes : List PassRecord) (pass : PassRecord)
    (leases : List LinkRecord) (permit : PermitRecord) (v w : NodeView) (key : List ℕ) (S : Type 0)
    (lease : LinkRecord) → Opening size passes pass leases permit v
    → LinksStep (pool.UpStep {S = S} permit key (UpReply.Up lease)) v w
    → Came size (passes ++ pass ∷ []) (leases ++ lease ∷ []) w
up_leads size passes pass leases permit v w key S lease opening step =
    let old = opening.coming.attended in
    let up = step.0 in
    let slot = up.slot in
    let at = permit.at in
    let was : Place = Place.Open permit slot in
    let link : Link = in_state (LinkState.Held slot) (new_link lease key) in
    let new : Place = Place.Link link in
    let u : PoolView = record (lend v.links at slot (new_link lease key)) { next_link = v.links.next_link + 1 } in
    let after : w ≡ with_links v u = step.1 ∙ ap (with_links v) up.after in
    let number = opening.coming.next_link in
    let few = opening.few in
    let room = opening.room in
    let limit = opening.limit in
    let first = first_database v at was old.node old.one up.kept in
    let whole : IsPool u = went_up v.links permit slot (v.links.next_link + 1) lease key old.pool up.kept
    up.left refl up.says in
    let node : IsNode (with_links v u) = subst (λ (x : PoolView). IsNode (with_links v x)) up.after
    (up_kept {S = S} w.links permit key (UpReply.Up lease) old.pool old.node step.0) in
    let same_many = used_placed v.links at was new (put_on false at.index) first up.kept in
    let used = old.used in
    let longer = length-append leases (lease ∷ []) in
    let more = length-append passes (pass ∷ []) in
    let is_at : lease.at ≡ at = ap (λ (l : LinkRecord). l.at) up.says in
    let apart : (i : ℕ) (other : LinkRecord) → slice_get leases i ≡ Some other → other.at ≢ at =
    λ i other h same. let is_out = old.out i other h in
    let both : Some was ≡ Some (Place.Link is_out.link) = sym up.kept
    ∙ ap (place_at v.links) (sym same) ∙ is_out.held.at in absurd (cc) in
    let mine : IsOut u lease = record {
      link = link;
      slot = slot;
      held = record {
        at = ap (place_at u) is_at ∙ place_here v.links at was new (put_on false at.index) up.kept;
        says = refl;
        held = refl;
      };
    } in
    rw after record {
      coming = record {
        attended = record {
          node = node;
          pool = whole;
          one = old.one;
          present = λ i p h. in_links v u p refl (old.present i p h);
          slots = old.slots;
          out = λ i other h. ⊎_elim
              (λ before. out_placed v.links u at new (put_on false at.index) other refl
              (apart i other before) (old.out i other before))
              (λ now. subst (IsOut u) (sym now.1) mine)
              (added_cases leases lease i other h);
          places = λ i j a b x y same. ⊎_elim
              (λ one. ⊎_elim
              (λ two. old.places i j a b one two same)
              (λ two. absurd (apart i a one (same ∙ ap (λ (l : LinkRecord). l.at) two.1 ∙ is_at)))
              (added_cases leases lease j b y))
              (λ one. ⊎_elim
              (λ two. absurd (apart j b two (sym same ∙ ap (λ (l : LinkRecord). l.at) one.1 ∙ is_at)))
              (λ two. one.0 ∙ sym two.0)
              (added_cases leases lease j b y))
              (added_cases leases lease i a x);
          calm = calm_placed v.links at was new (put_on false at.index) up.kept refl old.calm;
          still = still_claim v.links.claims slot (Claim.Link at) refl old.still;
          nobody = old.nobody;
          used = omega (arith, same_many, used, longer);
        };
        pools = opening.coming.pools;
        entries = opening.coming.entries;
        live = opening.coming.live;
        next_pass = opening.coming.next_pass;
        next_permit = opening.coming.next_permit ∙ sym longer;
        next_link = omega (arith, number, longer);
      };
      few = omega (arith, few, longer, more);
      limit = limit;
    }

-- a client that came has no link
pub joined_came : (size : ℕ) (passes : List PassRecord) (pass : PassRecord)
    (leases : List LinkRecord) (v : NodeView) → Joined size passes pass leases v
    → Came size (passes ++ pass ∷ []) leases v
joined_came size passes pass leases v joined =
    let few = joined.few in
    let more = length-append passes (pass ∷ []) in
    record { coming = joined.coming; few = omega (arith, few, more); limit = joined.limit }
