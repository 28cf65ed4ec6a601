-- A client that asks for a link: its view once it has left the queue.
use Rattle.std.proofs.Common.{◌≡◌, ℕ, ◌+◌, ◌^◌, ◌<◌, true, arith, List, Option, Some, None, length, map, refl, ap, sym, ◌∙◌, subst}
use Rattle.std.proofs.lemmas.List.{set-set}
use Rattle.std.specs.Prelude.{slice_set}
use Rattle.std.specs.List.{slice_get}
use Rattle.std.proofs.lemmas.Option.{slice_get_within, slice_get-get_or}
use Rattle.lease.specs.declared.link_place.LinkPlace.{LinkPlace}
use Rattle.lease.specs.declared.permit.PermitRecord.{PermitRecord}
use Rattle.link_pool.specs.declared.place.Place.{Place}
use Rattle.link_pool.specs.declared.place.Place.TheVariants as place
use Rattle.link_pool.specs.declared.place.Claim.{Claim}
use Rattle.link_pool.specs.declared.place.Claim.TheVariants as claim
use Rattle.link_pool.specs.Pool.{PoolView, place_at, free_at, queue_at, with_place, with_queue, with_claim, keep, out_of_queue, unqueued, unwaited_by, unwaited}
use Rattle.link_pool.specs.Stacks.{top}
use Rattle.slot_queues.specs.Queues.{others}
use Rattle.link_pool.specs.OnePlace.{Fits, PermitFits, IsPool}
use Rattle.link_pool.specs.PoolStep.{may_ask, IsNextFree}
use Rattle.link_pool.proofs.Places.{slice_get-set_same}
use Rattle.link_pool.proofs.Queues.{left, all_stay, all_left}
use Rattle.link_pool.proofs.Whole.{reclaimed}
use Rattle.link_pool.proofs.Handing.{given_more, kept_for}

place_out : (o : Option Claim) (v : PoolView) (slot : ℕ) (at : LinkPlace) → place_at (out_of_queue o v slot) at ≡ place_at v at
place_out None v slot at = refl
place_out (Some claim.Nothing) v slot at = refl
place_out (Some claim.Cancelled) v slot at = refl
place_out (Some (claim.Waiting d)) v slot at = refl
place_out (Some (claim.Open k)) v slot at = refl
place_out (Some (claim.Link k)) v slot at = refl
place_out (Some (claim.Gave k)) v slot at = refl

-- the places stay
pub place_unqueued : (v : PoolView) (slot : ℕ) (at : LinkPlace) → place_at (unqueued v slot) at ≡ place_at v at
place_unqueued v slot at = place_out (slice_get v.claims slot) v slot at

nothing_out : (o : Option Claim) (v : PoolView) (slot : ℕ) → slice_get v.claims slot ≡ o → slot < length v.claims → may_ask o ≡ true → slice_get (out_of_queue o v slot).claims slot ≡ Some claim.Nothing
nothing_out None v slot e within h = absurd (cc (slice_get-get_or v.claims slot claim.Nothing within))
nothing_out (Some claim.Nothing) v slot e within h = e
nothing_out (Some claim.Cancelled) v slot e within h = absurd (cc)
nothing_out (Some (claim.Waiting d)) v slot e within h = slice_get-set_same v.claims slot claim.Nothing within
nothing_out (Some (claim.Open k)) v slot e within h = absurd (cc)
nothing_out (Some (claim.Link k)) v slot e within h = absurd (cc)
nothing_out (Some (claim.Gave k)) v slot e within h = absurd (cc)

-- the client has nothing
pub nothing_unqueued : (v : PoolView) (slot : ℕ) → slot < length v.claims → may_ask (slice_get v.claims slot) ≡ true → slice_get (unqueued v slot).claims slot ≡ Some claim.Nothing
nothing_unqueued v slot within h = nothing_out (slice_get v.claims slot) v slot refl within h

-- a client whose wait is cancelled
pub cancelled_whole : (v w : PoolView) (slot d : ℕ) → slice_get v.claims slot ≡ Some (claim.Waiting d) → w ≡ unqueued v slot → IsPool w → IsPool (with_claim w slot claim.Cancelled)
cancelled_whole v w slot d h e whole =
    let nothing = nothing_unqueued v slot (slice_get_within v.claims slot (claim.Waiting d) h) (ap may_ask h) in
    reclaimed w slot claim.Nothing claim.Cancelled whole (ap (λ (x : PoolView). slice_get x.claims slot) e ∙ nothing) (λ k. refl) (λ n. refl)

cancelled_out : (o : Option Claim) (v : PoolView) (slot d : ℕ) → o ≡ Some (claim.Waiting d) → with_claim (out_of_queue o v slot) slot claim.Cancelled ≡ unwaited_by o v slot
cancelled_out (Some (claim.Waiting other)) v slot d h = ap {B = PoolView} (λ (cs : List Claim). record (with_queue v other (others slot)) { claims = cs }) (set-set v.claims slot claim.Nothing claim.Cancelled)
cancelled_out o v slot d h = absurd (cc)

pub cancelled_after : (v w : PoolView) (slot d : ℕ) → slice_get v.claims slot ≡ Some (claim.Waiting d) → w ≡ unqueued v slot → with_claim w slot claim.Cancelled ≡ unwaited v slot
cancelled_after v w slot d h e = ap (λ (x : PoolView). with_claim x slot claim.Cancelled) e ∙ cancelled_out (slice_get v.claims slot) v slot d h

-- only queues and claims change
kept_out : (o : Option Claim) (v : PoolView) (slot : ℕ) → out_of_queue o v slot ≡ record v { queues = (out_of_queue o v slot).queues; claims = (out_of_queue o v slot).claims }
kept_out None v slot = refl
kept_out (Some claim.Nothing) v slot = refl
kept_out (Some claim.Cancelled) v slot = refl
kept_out (Some (claim.Waiting d)) v slot = refl
kept_out (Some (claim.Open k)) v slot = refl
kept_out (Some (claim.Link k)) v slot = refl
kept_out (Some (claim.Gave k)) v slot = refl

pub kept_unqueued : (v : PoolView) (slot : ℕ) → unqueued v slot ≡ record v { queues = (unqueued v slot).queues; claims = (unqueued v slot).claims }
kept_unqueued v slot = kept_out (slice_get v.claims slot) v slot

-- a permit's number was given
pub permit_given : (v : PoolView) (at : LinkPlace) (permit : PermitRecord) (slot : ℕ) → IsPool v → place_at v at ≡ Some (place.Open permit slot) → permit.number < v.next_permit
permit_given v at permit slot whole e = let fits : PermitFits v at permit = subst (Fits v at) e (whole.fits at) in fits.given

-- who leaves a queue leaves the pools whole
whole_out : (o : Option Claim) (v : PoolView) (slot : ℕ) → slice_get v.claims slot ≡ o → IsPool v → IsPool (out_of_queue o v slot)
whole_out None v slot e whole = whole
whole_out (Some claim.Nothing) v slot e whole = whole
whole_out (Some claim.Cancelled) v slot e whole = whole
whole_out (Some (claim.Waiting d)) v slot e whole = left v d slot whole e
whole_out (Some (claim.Open k)) v slot e whole = whole
whole_out (Some (claim.Link k)) v slot e whole = whole
whole_out (Some (claim.Gave k)) v slot e whole = whole

pub whole_unqueued : (v : PoolView) (slot : ℕ) → IsPool v → IsPool (unqueued v slot)
whole_unqueued v slot whole = whole_out (slice_get v.claims slot) v slot refl whole

-- the view with this at a place and for the client of a slot, which waits nowhere
abbrev pub out_with : PoolView → LinkPlace → Place → ℕ → Claim → PoolView
out_with v at p slot c = record v {
  pools = (with_place v at p).pools;
  queues = map (others slot) v.queues;
  claims = slice_set v.claims slot c;
}

served_by : (o : Option Claim) (v : PoolView) (at : LinkPlace) (p : Place) (slot : ℕ) (c : Claim) → slice_get v.claims slot ≡ o → IsPool v → may_ask o ≡ true → slot < length v.claims → out_with v at p slot c ≡ with_claim (with_place (out_of_queue o v slot) at p) slot c
served_by None v at p slot c e whole free within = absurd (cc (slice_get-get_or v.claims slot claim.Nothing within))
served_by (Some claim.Nothing) v at p slot c e whole free within =
    ap (λ (qs : List (List ℕ)). record v { pools = (with_place v at p).pools; queues = qs; claims = slice_set v.claims slot c }) (all_stay v slot whole e)
served_by (Some claim.Cancelled) v at p slot c e whole free within = absurd (cc)
served_by (Some (claim.Waiting d)) v at p slot c e whole free within =
    ap (λ (qs : List (List ℕ)). record v { pools = (with_place v at p).pools; queues = qs; claims = slice_set v.claims slot c }) (all_left v d slot whole e)
    ∙ ap (λ (cs : List Claim). record v { pools = (with_place v at p).pools; queues = slice_set v.queues d (others slot (queue_at v d)); claims = cs }) (sym (set-set v.claims slot claim.Nothing c))
served_by (Some (claim.Open k)) v at p slot c e whole free within = absurd (cc)
served_by (Some (claim.Link k)) v at p slot c e whole free within = absurd (cc)
served_by (Some (claim.Gave k)) v at p slot c e whole free within = absurd (cc)

-- both at once, as one after the other
pub served : (v : PoolView) (at : LinkPlace) (p : Place) (slot : ℕ) (c : Claim) → IsPool v → may_ask (slice_get v.claims slot) ≡ true → slot < length v.claims → out_with v at p slot c ≡ with_claim (with_place (unqueued v slot) at p) slot c
served v at p slot c whole free within = served_by (slice_get v.claims slot) v at p slot c refl whole free within

-- the next free place stays so
pub next_unqueued : (v : PoolView) (slot : ℕ) (at : LinkPlace) → IsNextFree v at → IsNextFree (unqueued v slot) at
next_unqueued v slot at is = record {
  free = place_unqueued v slot at ∙ is.free;
  next = ap (λ (x : PoolView). top (free_at x at.database)) (kept_unqueued v slot) ∙ is.next;
}

-- a place is kept for a client that leaves the queue
pub opened : (v : PoolView) (slot n : ℕ) (permit : PermitRecord) → IsPool v → slot < length v.claims → may_ask (slice_get v.claims slot) ≡ true → IsNextFree v permit.at → v.next_permit < 2 ^ 64 → n ≡ v.next_permit + 1
    → permit ≡ record { peer = v.peer; incarnation = v.incarnation; number = v.next_permit; at = permit.at } → IsPool (keep (unqueued (record v { next_permit = n }) slot) slot permit)
opened v slot n permit whole some free at left next says =
    let w : PoolView = record v { next_permit = n } in
    let numbers = whole.numbers in
    let l = numbers.0 in
    let t = numbers.2 in
    let more : IsPool w = given_more v v.next_link n v.next_ticket whole (omega arith) (omega (arith, next)) l (omega (arith, next, left)) t in
    let number : permit.number ≡ v.next_permit = ap (λ (p : PermitRecord). p.number) says in
    let last = ap (λ (x : PoolView). x.next_permit) (kept_unqueued w slot) in
    kept_for (unqueued w slot) permit slot (whole_unqueued w slot more) (next_unqueued w slot permit.at (record { free = at.free; next = at.next })) (nothing_unqueued w slot some free)
    (says
    ∙ ap {B = PermitRecord} (λ (x : ℕ). record { peer = v.peer; incarnation = v.incarnation; number = x; at = permit.at }) (sym number)
    ∙ ap {B = PermitRecord} (λ (x : PoolView). record { peer = x.peer; incarnation = x.incarnation; number = permit.number; at = permit.at }) (sym (kept_unqueued w slot)))
    (omega (arith, number, next, last))
    (λ at other s e same. let below = permit_given v at other s whole (sym (place_unqueued w slot at) ∙ e) in omega (arith, below, number, same))
