-- What is known of a node stays so through the steps of its links.
use Rattle.std.proofs.Common.{◌≡◌, ℕ, zero, suc, true, false, ◌<◌, inl, inr, List, [], ◌∷◌, Option, Some, None, length, refl, ap, ◌∙◌, length-set}
use Rattle.std.specs.Prelude.{slice_set}
use Rattle.std.specs.List.{slice_get}
use Rattle.std.proofs.lemmas.List.{length-replicate}
use Rattle.std.proofs.lemmas.Option.{slice_get-get_or}
use Rattle.lease.specs.declared.{link_place.LinkPlace.LinkPlace, link_record.LinkRecord.LinkRecord}
use Rattle.lease.specs.declared.{permit.PermitRecord.PermitRecord, ticket.TicketRecord.TicketRecord}
use Rattle.link_pool.specs.declared.place.{Place.Place, Claim.Claim}
use Rattle.link_pool.specs.declared.replies.{AcquireReply.AcquireReply, UpReply.UpReply, UpFailedReply.UpFailedReply}
use Rattle.link_pool.specs.declared.replies.{ReleaseReply.ReleaseReply, CloseReply.CloseReply, ServeReply.ServeReply}
use Rattle.link_pool.specs.declared.replies.{EndedReply.EndedReply, FailedReply.FailedReply}
use Rattle.link_pool.specs.Pool.{DatabasePool, PoolView, place_at, changed, placed, with_place, with_queue, with_claim, give_back, nothing_for, out_of_queue, unqueued, without_giver, departed_by, departed, unwaited_by, unwaited, in_queue, others, behind}
use Rattle.link_pool.specs.OnePlace.{IsPool, sizes, has_link, held_by, has_permit, open_for}
use Rattle.link_pool.specs.PoolStep.{is_holding, emptied, empty_pools, AcquireStep, UpStep, UpFailedStep, ReleaseStep, CloseStep, ServeStep, EndedStep, FailedStep}
use Rattle.std.proofs.lemmas.Bool.{eq-eqb}
use Rattle.link_pool.proofs.Changes.{same_places}
use Rattle.link_pool.proofs.Places.{slice_get-set_same}
use Rattle.node_core.specs.declared.client.Client.{Client}
use Rattle.node_core.specs.View.{NodeView, IsNode, IsClient, Has, IsOwn}
use Rattle.node_core.proofs.Slots.{set_at}

-- the node with these links
abbrev pub with_links : NodeView → PoolView → NodeView
with_links v links = record v { links = links }

-- a change of one pool that leaves how many places it has
sizes_changed : (pools : List DatabasePool) (d : ℕ) (change : DatabasePool → DatabasePool)
    → ((pool : DatabasePool) → length (change pool).places ≡ length pool.places)
    → sizes (changed pools d change) ≡ sizes pools
sizes_changed [] d change same = refl
sizes_changed (pool ∷ pools) zero change same = cc (same pool)
sizes_changed (pool ∷ pools) (suc d) change same = cc (sizes_changed pools d change same)

-- each place is freed
pub sizes_emptied : (pools : List DatabasePool) → sizes (emptied pools) ≡ sizes pools
sizes_emptied [] = refl
sizes_emptied (pool ∷ pools) =
    cc (length-replicate (length pool.places) Place.Free, sizes_emptied pools)

-- new pools
pub sizes_made : (each : List ℕ) → sizes (empty_pools each) ≡ each
sizes_made [] = refl
sizes_made (size ∷ each) = cc (length-replicate size Place.Free, sizes_made each)

-- the pools are of the same node and have the same sizes, and what clients have is of theirs
kept : {v : NodeView} → IsNode v → (links : PoolView) → links.peer ≡ v.links.peer
    → sizes links.pools ≡ sizes v.links.pools
    → ((slot : ℕ) → Has (slice_get v.clients slot) (slice_get links.claims slot))
    → IsNode (with_links v links)
kept node links peer sized has = record {
  own = (node.own.0, peer ∙ node.own.1);
  next = node.next;
  live = node.live;
  has = has;
  clients = node.clients;
  passes = node.passes;
  sized = sized ∙ node.sized;
  numbers = node.numbers;
}

-- what is at a place changes, and the stack of free places
placed_kept : {v : NodeView} → IsNode v → (at : LinkPlace) (p : Place)
    (restack : List ℕ → List ℕ) → IsNode (with_links v (placed v.links at p restack))
placed_kept {v} node at p restack = kept node _ refl
    (sizes_changed v.links.pools at.database _ (λ pool. length-set pool.places at.index p)) node.has

place_kept : {v : NodeView} → IsNode v → (at : LinkPlace) (p : Place)
    → IsNode (with_links v (with_place v.links at p))
place_kept node at p = placed_kept node at p _

-- a queue changes
queue_kept : {v : NodeView} → IsNode v → (d : ℕ) (change : List ℕ → List ℕ)
    → IsNode (with_links v (with_queue v.links d change))
queue_kept {v} node d change =
    kept node _ refl refl node.has

-- what a slot has changes into something that its client may have
claim_kept : {v : NodeView} → IsNode v → (slot : ℕ) (new : Claim)
    → ((was : Claim) → slice_get v.links.claims slot ≡ Some was
    → Has (slice_get v.clients slot) (Some was) → Has (slice_get v.clients slot) (Some new))
    → IsNode (with_links v (with_claim v.links slot new))
claim_kept {v} node slot new may = kept node _ refl refl
    (set_at (λ s o. Has (slice_get v.clients s) o) v.links.claims slot new
    (λ was e. may was e (rw e at (node.has slot))) node.has)

-- a client has something of its own database
own_kept : {v : NodeView} → IsNode v → (slot : ℕ) (client : Client) (new : Claim)
    → IsClient v slot client → IsOwn client new
    → IsNode (with_links v (with_claim v.links slot new))
own_kept node slot client new there own = claim_kept node slot new (λ was e h. rw there own)

-- whoever may have something may have nothing
nothing_fits : (o : Option (Option Client)) (was : Claim) → Has o (Some was)
    → Has o (Some Claim.Nothing)
nothing_fits None was h = h
nothing_fits (Some None) was h = refl
nothing_fits (Some (Some client)) was h = tt

-- a slot has nothing any more
nothing_kept : {v : NodeView} → IsNode v → (slot : ℕ)
    → IsNode (with_links v (with_claim v.links slot Claim.Nothing))
nothing_kept {v} node slot =
    claim_kept node slot Claim.Nothing (λ was e h. nothing_fits (slice_get v.clients slot) was h)

-- a place changes, and its client has nothing any more
given_back : {v : NodeView} → IsNode v → (at : LinkPlace) (slot : ℕ) (p : Place)
    → IsNode (with_links v (give_back v.links at slot p))
given_back node at slot p = nothing_kept (place_kept node at p) slot

-- only the numbers that are given next change
numbered : {v : NodeView} → IsNode v → (link permit ticket : ℕ) → IsNode (with_links v
    (record v.links { next_link = link; next_permit = permit; next_ticket = ticket }))
numbered node link permit ticket = kept node _ refl refl node.has

-- a slot is out of the queue
out_kept : {v : NodeView} → IsNode v → (slot : ℕ) (o : Option Claim)
    → IsNode (with_links v (out_of_queue o v.links slot))
out_kept node slot (Some (Claim.Waiting d)) = nothing_kept (queue_kept node d (others slot)) slot
out_kept node slot other = node

pub unqueued_kept : {v : NodeView} → IsNode v → (slot : ℕ)
    → IsNode (with_links v (unqueued v.links slot))
unqueued_kept {v} node slot = out_kept node slot (slice_get v.links.claims slot)

-- the link of a place stays quarantined, and nobody gets it back
forgotten : {v : NodeView} → IsNode v → (at : LinkPlace) (o : Option Place)
    → IsNode (with_links v (without_giver o v.links at))
forgotten node at (Some (Place.Link link)) = place_kept node at _
forgotten node at other = node

-- a client with neither a link nor a permit has left
departed_as : {v : NodeView} → IsNode v → (slot : ℕ) (o : Option Claim)
    → IsNode (with_links v (departed_by o v.links slot))
departed_as node slot (Some Claim.Cancelled) = nothing_kept node slot
departed_as node slot (Some (Claim.Waiting d)) = out_kept node slot (Some (Claim.Waiting d))
departed_as {v} node slot (Some (Claim.Gave at)) =
    nothing_kept (forgotten node at (place_at v.links at)) slot
departed_as node slot other = node

pub departed_kept : {v : NodeView} → IsNode v → (slot : ℕ)
    → IsNode (with_links v (departed v.links slot))
departed_kept {v} node slot = departed_as node slot (slice_get v.links.claims slot)

-- no claim changes with the link that nobody gets back
same_claims : (v : PoolView) (at : LinkPlace) (o : Option Place)
    → (without_giver o v at).claims ≡ v.claims
same_claims v at (Some (Place.Link link)) = refl
same_claims v at other = refl

nothing_as : (v : PoolView) (slot : ℕ) (o : Option Claim) → slice_get v.claims slot ≡ o
    → slot < length v.claims → is_holding o ≡ false
    → slice_get (departed_by o v slot).claims slot ≡ Some Claim.Nothing
nothing_as v slot None e within free =
    absurd (cc (slice_get-get_or v.claims slot Claim.Nothing within))
nothing_as v slot (Some Claim.Nothing) e within free = e
nothing_as v slot (Some (Claim.Gave at)) e within free =
    ap (λ (cs : List Claim). slice_get (slice_set cs slot Claim.Nothing) slot)
    (same_claims v at (place_at v at)) ∙ slice_get-set_same v.claims slot Claim.Nothing within
nothing_as v slot (Some (Claim.Open at)) e within free = absurd (cc)
nothing_as v slot (Some (Claim.Link at)) e within free = absurd (cc)
nothing_as v slot (Some other) e within free = slice_get-set_same v.claims slot Claim.Nothing within

-- and has nothing
pub nothing_departed : (v : PoolView) (slot : ℕ) → slot < length v.claims
    → is_holding (slice_get v.claims slot) ≡ false
    → slice_get (departed v slot).claims slot ≡ Some Claim.Nothing
nothing_departed v slot within free = nothing_as v slot (slice_get v.claims slot) refl within free

-- whoever waits may be owed `Cancelled`
owed_fits : (o : Option (Option Client)) (d : ℕ) → Has o (Some (Claim.Waiting d))
    → Has o (Some Claim.Cancelled)
owed_fits None d h = h
owed_fits (Some None) d h = absurd (cc)
owed_fits (Some (Some client)) d h = tt

-- the wait of a slot's client is cancelled
unwaited_as : {v : NodeView} → IsNode v → (slot : ℕ) (o : Option Claim)
    → slice_get v.links.claims slot ≡ o → IsNode (with_links v (unwaited_by o v.links slot))
unwaited_as {v} node slot (Some (Claim.Waiting d)) e =
    claim_kept (queue_kept node d (others slot)) slot Claim.Cancelled
    (λ was same has. owed_fits (slice_get v.clients slot) d (rw (← e, same) has))
unwaited_as node slot other e = node

pub unwaited_kept : {v : NodeView} → IsNode v → (slot : ℕ)
    → IsNode (with_links v (unwaited v.links slot))
unwaited_kept {v} node slot = unwaited_as node slot (slice_get v.links.claims slot) refl

-- a client is in the queue of its database
in_kept : {v : NodeView} → IsNode v → (slot : ℕ) (client : Client) → IsClient v slot client
    → (o : Option Claim) → IsNode (with_links v (in_queue o v.links slot client.database))
in_kept node slot client there (Some Claim.Nothing) =
    own_kept (queue_kept node client.database (behind slot)) slot client
    (Claim.Waiting client.database) there refl
in_kept node slot client there other = node

-- a client asks for a link of its database
pub acquire_kept : {v : NodeView} (new : PoolView) (slot : ℕ) (client : Client)
    (reply : AcquireReply LinkRecord PermitRecord) → IsNode v → IsClient v slot client
    → AcquireStep slot client.database reply v.links new → IsNode (with_links v new)
acquire_kept {v} new slot client (AcquireReply.Got lease) node there (inl back) = rw back.after
    (own_kept (place_kept node lease.at _) slot client (Claim.Link lease.at) there
    (rw (there, back.gave) at (node.has slot)))
acquire_kept new slot client (AcquireReply.Got lease) node there (inr step) = rw step.1.after
    (own_kept (place_kept (unqueued_kept node slot) lease.at _) slot client
    (Claim.Link lease.at) there step.1.of)
acquire_kept new slot client (AcquireReply.Open permit) node there step = rw step.2.after
    (numbered (own_kept (placed_kept (unqueued_kept node slot) permit.at _ _) slot client
    (Claim.Open permit.at) there step.2.of) _ _ _)
acquire_kept {v} new slot client AcquireReply.Waiting node there step =
    rw step.2 (in_kept node slot client there (slice_get v.links.claims slot))
acquire_kept new slot client AcquireReply.Cancelled node there step =
    rw step.1 (nothing_kept node slot)
acquire_kept new slot client AcquireReply.Holding node there step = rw step.1 node
acquire_kept new slot client AcquireReply.Exhausted node there step = rw step.4 node
acquire_kept new slot client AcquireReply.Stale node there step = absurd step

-- whoever has the permit of a place may have its link
link_for : (at : LinkPlace) (o : Option (Option Client)) (was : Claim)
    → has_permit at (Some was) ≡ true → Has o (Some was) → Has o (Some (Claim.Link at))
link_for at None was h has = has
link_for at (Some None) (Claim.Open other) h has = absurd (cc)
link_for at (Some (Some client)) (Claim.Open other) h has = cc (same_places other at h)
link_for at o was h has = absurd (cc)

-- a link is open
pub up_kept : {v : NodeView} {S : Type 0} (new : PoolView) (permit : PermitRecord) (key : List ℕ)
    (reply : UpReply LinkRecord PermitRecord S) → IsPool v.links → IsNode v
    → UpStep permit key reply v.links new → IsNode (with_links v new)
up_kept {v} new permit key (UpReply.Up lease) whole node step =
    let holds : has_permit permit.at (slice_get v.links.claims step.slot) ≡ true =
    whole.permits step.slot permit.at ∙ ap (open_for step.slot) step.kept ∙ eq-eqb step.slot step.slot refl in
    rw step.after (numbered (claim_kept (place_kept node permit.at _) step.slot
    (Claim.Link permit.at) (λ was e has. link_for permit.at _ was (rw e at holds) has)) _ _ _)
up_kept new permit key (UpReply.Exhausted again stream) whole node step = rw step.3 node
up_kept new permit key (UpReply.Stale stream) whole node step = rw step.1 node
up_kept new permit key (UpReply.AtEnd stream) whole node step = absurd step

-- a link couldn't be opened
pub up_failed_kept : {v : NodeView} (new : PoolView) (permit : PermitRecord) (reply : UpFailedReply)
    → IsNode v → UpFailedStep permit reply v.links new → IsNode (with_links v new)
up_failed_kept new permit UpFailedReply.Freed node step =
    rw step.2 (given_back node permit.at step.0 _)
up_failed_kept new permit UpFailedReply.Stale node step = rw step.1 node
up_failed_kept new permit UpFailedReply.Exhausted node step = absurd step

-- whoever has the link of a place may have given it back
gave_for : (at : LinkPlace) (o : Option (Option Client)) (was : Claim)
    → has_link at (Some was) ≡ true → Has o (Some was) → Has o (Some (Claim.Gave at))
gave_for at None was h has = has
gave_for at (Some None) (Claim.Link other) h has = absurd (cc)
gave_for at (Some (Some client)) (Claim.Link other) h has = cc (same_places other at h)
gave_for at o was h has = absurd (cc)

-- a link is given back
pub release_kept : {v : NodeView} {S : Type 0} (new : PoolView) (lease : LinkRecord)
    (reply : ReleaseReply S) → IsPool v.links → IsNode v → ReleaseStep lease reply v.links new
    → IsNode (with_links v new)
release_kept new lease ReleaseReply.Idle whole node step =
    rw step.5 (given_back node lease.at step.1 _)
release_kept {v} new lease ReleaseReply.Quarantined whole node step =
    let slot = step.1 in
    let holds : has_link lease.at (slice_get v.links.claims slot) ≡ true =
    whole.links slot lease.at ∙ ap (held_by slot) step.2.at ∙ rw step.2.held (eq-eqb slot slot refl) in
    rw step.5 (claim_kept (place_kept node lease.at _) slot (Claim.Gave lease.at)
    (λ was e has. gave_for lease.at _ was (rw e at holds) has))
release_kept new lease (ReleaseReply.Closed stream) whole node step =
    rw step.4 (given_back node lease.at step.1 _)
release_kept new lease (ReleaseReply.Stale stream) whole node step = rw step.1 node
release_kept new lease (ReleaseReply.Exhausted stream) whole node step = absurd step

-- a link is closed
pub close_kept : {v : NodeView} {S : Type 0} (new : PoolView) (lease : LinkRecord)
    (reply : CloseReply S) → IsNode v → CloseStep lease reply v.links new
    → IsNode (with_links v new)
close_kept new lease (CloseReply.Closed stream) node step =
    rw step.3 (given_back node lease.at step.1 _)
close_kept new lease (CloseReply.Stale stream) node step = rw step.1 node
close_kept new lease (CloseReply.Exhausted stream) node step = absurd step

-- a cancel request
pub serve_kept : {v : NodeView} (new : PoolView) (slot : ℕ) (reply : ServeReply TicketRecord)
    → IsNode v → ServeStep slot reply v.links new → IsNode (with_links v new)
serve_kept new slot (ServeReply.Serve ticket database key) node step =
    rw step.after (numbered (place_kept node step.at _) _ _ _)
serve_kept new slot ServeReply.NoLink node step = rw step.1 node
serve_kept new slot ServeReply.Busy node step = rw step.1 node
serve_kept new slot ServeReply.Exhausted node step = rw step.2 node

-- the client that gave a link back, if there is one, has nothing any more
given_over : {v : NodeView} → IsNode v → (giver : Option ℕ)
    → IsNode (with_links v (nothing_for giver v.links))
given_over node None = node
given_over node (Some slot) = nothing_kept node slot

-- a cancel request ended cleanly
pub ended_kept : {v : NodeView} (new : PoolView) (ticket : TicketRecord) (reply : EndedReply)
    → IsNode v → EndedStep ticket reply v.links new → IsNode (with_links v new)
ended_kept new ticket EndedReply.Freed node step =
    rw step.4 (given_over (place_kept node ticket.at _) _)
ended_kept new ticket EndedReply.Counted node step = rw step.3 (place_kept node ticket.at _)
ended_kept new ticket EndedReply.Stale node step = rw step.1 node
ended_kept new ticket EndedReply.Exhausted node step = absurd step

-- a cancel request didn't end cleanly
pub failed_kept : {v : NodeView} {S : Type 0} (new : PoolView) (ticket : TicketRecord)
    (reply : FailedReply S) → IsNode v → FailedStep ticket reply v.links new
    → IsNode (with_links v new)
failed_kept new ticket FailedReply.Condemned node step = rw step.4 (place_kept node ticket.at _)
failed_kept new ticket (FailedReply.Closed stream) node step =
    rw step.3 (given_over (place_kept node ticket.at _) _)
failed_kept new ticket FailedReply.Stale node step = rw step.1 node
failed_kept new ticket FailedReply.Exhausted node step = absurd step
