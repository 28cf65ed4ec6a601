-- A client gets a place, or gives it back.
use Rattle.std.proofs.Common.{◌≡◌, ◌≢◌, ℕ, ◌+◌, ◌^◌, ◌<◌, ◌≤◌, Bool, List, true, false, Option, Some, None, refl, ap, sym, subst, ◌∙◌, arith, inl, inr}
use Rattle.std.specs.List.{slice_get}
use Rattle.std.proofs.lemmas.Option.{slice_get_within, same_Some}
use Rattle.lease.specs.declared.link_place.LinkPlace.{LinkPlace}
use Rattle.lease.specs.declared.permit.PermitRecord.{PermitRecord}
use Rattle.link_pool.specs.declared.place.Place.{Place}
use Rattle.link_pool.specs.declared.place.Place.TheVariants as place
use Rattle.link_pool.specs.declared.place.Link.{Link}
use Rattle.link_pool.specs.declared.place.LinkState.{LinkState}
use Rattle.link_pool.specs.declared.place.LinkState.TheVariants as state
use Rattle.link_pool.specs.declared.place.Claim.{Claim}
use Rattle.link_pool.specs.declared.place.Claim.TheVariants as claim
use Rattle.link_pool.specs.Pool.{PoolView, place_at, is_free, with_place, with_claim, in_state, keep, lend, give_back, quarantine, nothing_for}
use Rattle.link_pool.specs.Stacks.{under_top}
use Rattle.link_pool.specs.OnePlace.{Fits, LinkFits, has_link, has_permit, has_given, held_by, open_for, given_by, is_with, is_from, StateFits, PermitFits, link_number, permit_number, IsPool}
use Rattle.lease.specs.declared.link_record.LinkRecord.{LinkRecord}
use Rattle.link_pool.specs.PoolStep.{IsHeld, IsOpen, IsNextFree, with_hold, new_hold, new_link}
use Rattle.quarantine.specs.OpenTickets.{OpenTickets}
use Rattle.link_pool.specs.Parts.{IsLent}
use Rattle.link_pool.proofs.Changes.{same_place_yes, same_place_no, same_places}
use Rattle.slot_queues.proofs.Times.{eq_self, eq_yes, eq_no}
use Rattle.link_pool.proofs.Whole.{tells, silent, three, Alone, IsOf, IsNew, moved_by, moved, stayed, taken_off, fits_more}

-- who has a link claims it
link_claimed : (o : Option Claim) (at : LinkPlace) → has_link at o ≡ true → o ≡ Some (claim.Link at)
link_claimed (Some (claim.Link other)) at h = ap (λ (k : LinkPlace). Some (claim.Link k)) (same_places other at h)
link_claimed o at h = absurd (cc)

permit_claimed : (o : Option Claim) (at : LinkPlace) → has_permit at o ≡ true → o ≡ Some (claim.Open at)
permit_claimed (Some (claim.Open other)) at h = ap (λ (k : LinkPlace). Some (claim.Open k)) (same_places other at h)
permit_claimed o at h = absurd (cc)

given_claimed : (o : Option Claim) (at : LinkPlace) → has_given at o ≡ true → o ≡ Some (claim.Gave at)
given_claimed (Some (claim.Gave other)) at h = ap (λ (k : LinkPlace). Some (claim.Gave k)) (same_places other at h)
given_claimed o at h = absurd (cc)

-- what a link's place says of a client, by the link's state
abbrev state_tells : ℕ → LinkState → Bool × Bool × Bool
state_tells slot x = (is_with slot x, false, is_from slot x)

-- a place of which no client has anything
alone_nothing : (at : LinkPlace) (slot : ℕ) (p : Place) → ((s : ℕ) → tells s (Some p) ≡ silent) → Alone at slot p claim.Nothing
alone_nothing at slot p none = record { others = λ s n. none s; elsewhere = λ k n. refl; here = sym (none slot); no_wait = λ d. refl }

-- a place that is kept for a client, one whose link it has, and one whose link it gave back
alone_open : (at : LinkPlace) (slot : ℕ) (permit : PermitRecord) → Alone at slot (place.Open permit slot) (claim.Open at)
alone_open at slot permit = record {
  others = λ s n. three refl (eq_no slot s (λ t. n (sym t))) refl;
  elsewhere = λ k n. three refl (same_place_no at k (λ t. n (sym t))) refl;
  here = three refl (same_place_yes at ∙ sym (eq_self slot)) refl;
  no_wait = λ d. refl;
}

alone_held : (at : LinkPlace) (slot : ℕ) (link : Link) → link.state ≡ state.Held slot → Alone at slot (place.Link link) (claim.Link at)
alone_held at slot link held = record {
  others = λ s n. ap (state_tells s) held ∙ three (eq_no slot s (λ t. n (sym t))) refl refl;
  elsewhere = λ k n. three (same_place_no at k (λ t. n (sym t))) refl refl;
  here = three (same_place_yes at ∙ sym (eq_self slot)) refl refl ∙ sym (ap (state_tells slot) held);
  no_wait = λ d. refl;
}

alone_given : (at : LinkPlace) (slot : ℕ) (link : Link) → link.state ≡ state.Quarantined (Some slot) → Alone at slot (place.Link link) (claim.Gave at)
alone_given at slot link given = record {
  others = λ s n. ap (state_tells s) given ∙ three refl refl (eq_no slot s (λ t. n (sym t)));
  elsewhere = λ k n. three refl refl (same_place_no at k (λ t. n (sym t)));
  here = three refl refl (same_place_yes at ∙ sym (eq_self slot)) ∙ sym (ap (state_tells slot) given);
  no_wait = λ d. refl;
}

-- a place is kept for the client
pub of_open : (v : PoolView) (permit : PermitRecord) (slot : ℕ) → IsPool v → IsOpen permit slot v → IsOf v permit.at slot (place.Open permit slot) (claim.Open permit.at)
of_open v permit slot whole kept =
    let had = permit_claimed (slice_get v.claims slot) permit.at (whole.permits slot permit.at ∙ ap (open_for slot) kept ∙ eq_self slot) in
    record { there = kept; had = had; within = slice_get_within v.claims slot (claim.Open permit.at) had; alone = alone_open permit.at slot permit }

-- the client has the link
pub of_held : (v : PoolView) (lease : LinkRecord) (link : Link) (slot : ℕ) → IsPool v → IsHeld lease link slot v → IsOf v lease.at slot (place.Link link) (claim.Link lease.at)
of_held v lease link slot whole held =
    let had = link_claimed (slice_get v.claims slot) lease.at (whole.links slot lease.at ∙ ap (held_by slot) held.at ∙ ap (is_with slot) held.held ∙ eq_self slot) in
    record { there = held.at; had = had; within = slice_get_within v.claims slot (claim.Link lease.at) had; alone = alone_held lease.at slot link held.held }

-- the client gave the link back, which is quarantined
pub of_given : (v : PoolView) (at : LinkPlace) (link : Link) (slot : ℕ) → IsPool v → place_at v at ≡ Some (place.Link link) → link.state ≡ state.Quarantined (Some slot) → IsOf v at slot (place.Link link) (claim.Gave at)
of_given v at link slot whole there given =
    let had = given_claimed (slice_get v.claims slot) at (whole.given slot at ∙ ap (given_by slot) there ∙ ap (is_from slot) given ∙ eq_self slot) in
    record { there = there; had = had; within = slice_get_within v.claims slot (claim.Gave at) had; alone = alone_given at slot link given }

-- the client has nothing, and nobody has anything of the place
of_nothing : (v : PoolView) (at : LinkPlace) (slot : ℕ) (p : Place) → place_at v at ≡ Some p → slice_get v.claims slot ≡ Some claim.Nothing → ((s : ℕ) → tells s (Some p) ≡ silent) → IsOf v at slot p claim.Nothing
of_nothing v at slot p there had none = record { there = there; had = had; within = slice_get_within v.claims slot claim.Nothing had; alone = alone_nothing at slot p none }

-- a client no longer has its place, which is free
pub vacated : {was : Place} {claimed : Claim} (v : PoolView) (at : LinkPlace) (slot : ℕ) → IsPool v → IsOf v at slot was claimed → is_free (Some was) ≡ false → IsPool (give_back v at slot place.Free)
vacated v at slot whole of out = moved v at slot place.Free claim.Nothing whole of out (alone_nothing at slot place.Free (λ s. refl)) tt (λ n h. absurd (cc)) (λ n h. absurd (cc))

-- what is at a link's place fits
fits_of : (v : PoolView) (at : LinkPlace) (link : Link) → IsPool v → place_at v at ≡ Some (place.Link link) → LinkFits v at link
fits_of v at link whole there = subst (Fits v at) there (whole.fits at)

-- a client's link changes its state, and so the client has it, gave it back, or has nothing
restated : {claimed : Claim} (v : PoolView) (at : LinkPlace) (slot : ℕ) (link : Link) (x : LinkState) (claim : Claim) → IsPool v → IsOf v at slot (place.Link link) claimed → Alone at slot (place.Link (in_state x link)) claim → StateFits x link.hold
    → IsPool (with_claim (with_place v at (place.Link (in_state x link))) slot claim)
restated v at slot link x claim whole of alone state =
    let fits = fits_of v at link whole of.there in
    moved v at slot (place.Link (in_state x link)) claim whole of refl alone (record { says = fits.says; given = fits.given; tickets = fits.tickets; state = state }) (λ n h. inl h) (λ n h. absurd (cc))

pub rested : (v : PoolView) (lease : LinkRecord) (link : Link) (slot : ℕ) → IsPool v → IsHeld lease link slot v → (link.hold.tickets ≡ 0) × (link.hold.condemned ≡ false) → IsPool (give_back v lease.at slot (place.Link (in_state state.Idle link)))
rested v lease link slot whole held clear =
    restated v lease.at slot link state.Idle claim.Nothing whole (of_held v lease link slot whole held) (alone_nothing lease.at slot (place.Link (in_state state.Idle link)) (λ s. refl)) clear

pub quarantined : (v : PoolView) (lease : LinkRecord) (link : Link) (slot : ℕ) → IsPool v → IsHeld lease link slot v → (0 < link.hold.tickets) × (link.hold.condemned ≡ false) → IsPool (quarantine v lease.at slot link)
quarantined v lease link slot whole held waits =
    restated v lease.at slot link (state.Quarantined (Some slot)) (claim.Gave lease.at) whole (of_held v lease link slot whole held) (alone_given lease.at slot (in_state (state.Quarantined (Some slot)) link) refl) waits

-- a client has the link again that it gave back
pub got_back : (v : PoolView) (at : LinkPlace) (link : Link) (slot : ℕ) → IsPool v → place_at v at ≡ Some (place.Link link) → link.state ≡ state.Quarantined (Some slot) → IsPool (lend v at slot link)
got_back v at link slot whole was given =
    restated v at slot link (state.Held slot) (claim.Link at) whole (of_given v at link slot whole was given) (alone_held at slot (in_state (state.Held slot) link) refl) tt

-- a client leaves the link that it gave back
pub left_there : (v : PoolView) (at : LinkPlace) (link : Link) (slot : ℕ) → IsPool v → place_at v at ≡ Some (place.Link link) → link.state ≡ state.Quarantined (Some slot) → IsPool (with_claim (with_place v at (place.Link (in_state (state.Quarantined None) link))) slot claim.Nothing)
left_there v at link slot whole was given =
    let fits = fits_of v at link whole was in
    restated v at slot link (state.Quarantined None) claim.Nothing whole (of_given v at link slot whole was given) (alone_nothing at slot (place.Link (in_state (state.Quarantined None) link)) (λ s. refl)) (subst (λ x. StateFits x link.hold) given fits.state)

-- a link's number is no other's
no_other : (o : Option Place) (number : ℕ) → ((other : Link) → o ≡ Some (place.Link other) → other.details.link ≢ number) → link_number o ≢ Some number
no_other None number h e = absurd (cc)
no_other (Some place.Free) number h e = absurd (cc)
no_other (Some (place.Open permit slot)) number h e = absurd (cc)
no_other (Some (place.Link link)) number h e = h link refl (same_Some link.details.link number e)

-- the client of a permit has the link that it opened
pub occupied : (v : PoolView) (permit : PermitRecord) (slot : ℕ) (link : Link) → IsPool v → place_at v permit.at ≡ Some (place.Open permit slot) → LinkFits v permit.at link → link.state ≡ state.Held slot
    → ((at : LinkPlace) (other : Link) → place_at v at ≡ Some (place.Link other) → other.details.link ≢ link.details.link) → IsPool (with_claim (with_place v permit.at (place.Link link)) slot (claim.Link permit.at))
occupied v permit slot link whole was fits held new =
    moved v permit.at slot (place.Link link) (claim.Link permit.at) whole (of_open v permit slot whole was) refl (alone_held permit.at slot link held) fits
    (λ n h. inr (λ k e. no_other (place_at v k) n (λ other x y. new k other x (y ∙ sym (same_Some link.details.link n h))) e)) (λ n h. absurd (cc))

-- a link that there is says its place
pub its_place : (v : PoolView) (at : LinkPlace) (link : Link) → IsPool v → place_at v at ≡ Some (place.Link link) → link.details.at ≡ at
its_place v at link whole e = let fits : LinkFits v at link = subst (Fits v at) e (whole.fits at) in ap (λ (r : LinkRecord). r.at) fits.says

-- a client that has nothing gets an idle link
pub got : (v : PoolView) (at : LinkPlace) (link : Link) (slot : ℕ) → IsPool v → place_at v at ≡ Some (place.Link link) → link.state ≡ state.Idle → slice_get v.claims slot ≡ Some claim.Nothing → IsPool (lend v at slot link)
got v at link slot whole was idle had =
    restated v at slot link (state.Held slot) (claim.Link at) whole (of_nothing v at slot (place.Link link) was had (λ s. ap (state_tells s) idle)) (alone_held at slot (in_state (state.Held slot) link) refl) tt

no_other_permit : (o : Option Place) (number : ℕ) → ((permit : PermitRecord) (slot : ℕ) → o ≡ Some (place.Open permit slot) → permit.number ≢ number) → permit_number o ≢ Some number
no_other_permit None number h e = absurd (cc)
no_other_permit (Some place.Free) number h e = absurd (cc)
no_other_permit (Some (place.Open permit slot)) number h e = h permit slot refl (same_Some permit.number number e)
no_other_permit (Some (place.Link link)) number h e = absurd (cc)

-- a free place is kept for a client that has nothing
pub kept_for : (v : PoolView) (permit : PermitRecord) (slot : ℕ) → IsPool v → IsNextFree v permit.at → slice_get v.claims slot ≡ Some claim.Nothing → permit ≡ record { peer = v.peer; incarnation = v.incarnation; number = permit.number; at = permit.at } → permit.number < v.next_permit
    → ((at : LinkPlace) (other : PermitRecord) (s : ℕ) → place_at v at ≡ Some (place.Open other s) → other.number ≢ permit.number) → IsPool (keep v slot permit)
kept_for v permit slot whole is had says given new =
    moved_by v permit.at slot (place.Open permit slot) (claim.Open permit.at) under_top whole (of_nothing v permit.at slot place.Free is.free had (λ s. refl)) (alone_open permit.at slot permit) (record { says = says; given = given })
    (λ n h. absurd (cc)) (λ n h. inr (λ k e. no_other_permit (place_at v k) n (λ other s x y. new k other s x (y ∙ sym (same_Some permit.number n h))) e))
    (taken_off v permit.at place.Free (place.Open permit slot) whole is.free is.next refl)

-- a link's tickets change
pub held_on : (v : PoolView) (at : LinkPlace) (link : Link) (hold : OpenTickets) → IsPool v → place_at v at ≡ Some (place.Link link) → hold.tickets ≤ 65535 → StateFits link.state hold → IsPool (with_place v at (place.Link (with_hold link hold)))
held_on v at link hold whole was few state =
    let fits = fits_of v at link whole was in
    stayed v at (place.Link link) (place.Link (with_hold link hold)) refl whole was (record { says = fits.says; given = fits.given; tickets = few; state = state }) (λ s. refl) (λ n h. inl h) (λ n h. absurd (cc))

-- what is at a quarantined link's place changes, and nobody has anything of it
unquarantined : (giver : Option ℕ) (v : PoolView) (at : LinkPlace) (link : Link) (p : Place) → IsPool v → place_at v at ≡ Some (place.Link link) → link.state ≡ state.Quarantined giver → ((s : ℕ) → tells s (Some p) ≡ silent) → Fits v at (Some p)
    → IsNew link_number v (place.Link link) p → IsNew permit_number v (place.Link link) p → IsPool (nothing_for giver (with_place v at p))
unquarantined None v at link p whole was is none fits number permit = stayed v at (place.Link link) p refl whole was fits (λ s. none s ∙ sym (ap (state_tells s) is)) number permit
unquarantined (Some slot) v at link p whole was is none fits number permit = moved v at slot p claim.Nothing whole (of_given v at link slot whole was is) refl (alone_nothing at slot p none) fits number permit

-- a quarantined link is free for others
pub cleared : (giver : Option ℕ) (v : PoolView) (at : LinkPlace) (link : Link) (hold : OpenTickets) → IsPool v → place_at v at ≡ Some (place.Link link) → link.state ≡ state.Quarantined giver → (hold.tickets ≡ 0) × (hold.condemned ≡ false) → IsPool (nothing_for giver (with_place v at (place.Link (in_state state.Idle (with_hold link hold)))))
cleared giver v at link hold whole was is none =
    let fits = fits_of v at link whole was in
    let zero_is = none.0 in
    unquarantined giver v at link (place.Link (in_state state.Idle (with_hold link hold))) whole was is (λ s. refl) (record { says = fits.says; given = fits.given; tickets = omega (arith, zero_is); state = none }) (λ n h. inl h) (λ n h. absurd (cc))

-- a quarantined link leaves its place
pub dropped : (giver : Option ℕ) (v : PoolView) (at : LinkPlace) (link : Link) → IsPool v → place_at v at ≡ Some (place.Link link) → link.state ≡ state.Quarantined giver → IsPool (nothing_for giver (with_place v at place.Free))
dropped giver v at link whole was is = unquarantined giver v at link place.Free whole was is (λ s. refl) tt (λ n h. absurd (cc)) (λ n h. absurd (cc))

-- who claims a link has it
pub record HeldLink (o : Option Place) (slot : ℕ) : Type 0 where
  pub link : Link
  pub is : o ≡ Some (place.Link link)
  pub held : link.state ≡ state.Held slot

with_is_held : (slot : ℕ) (x : LinkState) → is_with slot x ≡ true → x ≡ state.Held slot
with_is_held slot (state.Held other) h = ap state.Held (eq_yes other slot h)
with_is_held slot x h = absurd (cc)

held_link : (o : Option Place) (slot : ℕ) → held_by slot o ≡ true → HeldLink o slot
held_link (Some (place.Link link)) slot h = record { link = link; is = refl; held = with_is_held slot link.state h }
held_link o slot h = absurd (cc)

pub claimed_link : (v : PoolView) (slot : ℕ) (at : LinkPlace) → IsPool v → slice_get v.claims slot ≡ Some (claim.Link at) → HeldLink (place_at v at) slot
claimed_link v slot at whole h = held_link (place_at v at) slot (sym (whole.links slot at) ∙ ap (has_link at) h ∙ same_place_yes at)

-- who claims that it gave a link back did so
pub gave_there : (v : PoolView) (slot : ℕ) (at : LinkPlace) → IsPool v → slice_get v.claims slot ≡ Some (claim.Gave at) → given_by slot (place_at v at) ≡ true
gave_there v slot at whole h = sym (whole.given slot at) ∙ ap (has_given at) h ∙ same_place_yes at

pub lent_link : (v : PoolView) (slot : ℕ) (at : LinkPlace) (link : Link) → IsPool v → slice_get v.claims slot ≡ Some (claim.Link at) → place_at v at ≡ Some (place.Link link) → IsLent slot at link v
lent_link v slot at link whole h there =
    let held = claimed_link v slot at whole h in
    let both : Some (place.Link link) ≡ Some (place.Link held.link) = sym there ∙ held.is in
    let one : link ≡ held.link = cc in
    record { claimed = h; there = there; held = ap (λ (l : Link). l.state) one ∙ held.held; fits = fits_of v at link whole there }

-- more numbers are given
pub given_more : (v : PoolView) (l p t : ℕ) → IsPool v → v.next_link ≤ l → v.next_permit ≤ p → l ≤ 2 ^ 64 → p ≤ 2 ^ 64 → t ≤ 2 ^ 64 → IsPool (record v { next_link = l; next_permit = p; next_ticket = t })
given_more v l p t whole ll pp lm pm tm = record {
  fits = λ k. fits_more v (record v { next_link = l; next_permit = p; next_ticket = t }) k (place_at v k) refl refl ll pp (whole.fits k);
  links = whole.links;
  permits = whole.permits;
  given = whole.given;
  queues = whole.queues;
  link_once = whole.link_once;
  permit_once = whole.permit_once;
  numbers = (lm, pm, tm, whole.numbers.3);
  stacks = whole.stacks;
  beside = whole.beside;
}

-- a permit that is open says its node
pub permit_of : (v : PoolView) (permit : PermitRecord) (slot : ℕ) → IsPool v → IsOpen permit slot v → PermitFits v permit.at permit
permit_of v permit slot whole kept = subst (Fits v permit.at) kept (whole.fits permit.at)

-- what the link says that a permit opened
pub said_by : (v : PoolView) (permit : PermitRecord) (slot n : ℕ) → IsPool v → IsOpen permit slot v → ◌≡◌ {A = LinkRecord} (record { peer = permit.peer; incarnation = permit.incarnation; link = n; at = permit.at }) (record { peer = v.peer; incarnation = v.incarnation; link = n; at = permit.at })
said_by v permit slot n whole kept =
    let fits = permit_of v permit slot whole kept in
    ap {B = LinkRecord} (λ (p : PermitRecord). record { peer = p.peer; incarnation = p.incarnation; link = n; at = permit.at }) fits.says

-- a link is up
pub went_up : (v : PoolView) (permit : PermitRecord) (slot l : ℕ) (lease : LinkRecord) (key : List ℕ) → IsPool v → IsOpen permit slot v → v.next_link < 2 ^ 64 → l ≡ v.next_link + 1
    → lease ≡ record { peer = v.peer; incarnation = v.incarnation; link = v.next_link; at = permit.at } → IsPool (lend (record v { next_link = l }) permit.at slot (new_link lease key))
went_up v permit slot l lease key whole kept left next says =
    let numbers = whole.numbers in
    let p = numbers.1 in
    let t = numbers.2 in
    let more : IsPool (record v { next_link = l }) = given_more v l v.next_permit v.next_ticket whole (omega (arith, next)) (omega arith) (omega (arith, next, left)) p t in
    let number : lease.link ≡ v.next_link = ap (λ (r : LinkRecord). r.link) says in
    occupied (record v { next_link = l }) permit slot (in_state (state.Held slot) (new_link lease key)) more kept
    (record { says = says ∙ ap {B = LinkRecord} (λ (n : ℕ). record { peer = v.peer; incarnation = v.incarnation; link = n; at = permit.at }) (sym number); given = omega (arith, number, next); tickets = omega arith; state = tt })
    refl
    (λ at other e same. let fits : LinkFits v at other = subst (Fits v at) e (whole.fits at) in let below = fits.given in omega (arith, below, number, same))

-- an idle link as it is kept
pub idle_of : (link : Link) (details : LinkRecord) → link.details ≡ details → link.hold.tickets ≡ 0 → link.hold.condemned ≡ false → in_state state.Idle link ≡ record { details = details; key = link.key; state = state.Idle; hold = new_hold }
idle_of link details says none good =
    ap {B = Link} (λ (d : LinkRecord). record { details = d; key = link.key; state = state.Idle; hold = link.hold }) says
    ∙ ap {B = Link} (λ (n : ℕ). record { details = details; key = link.key; state = state.Idle; hold = record { tickets = n; condemned = link.hold.condemned } }) none
    ∙ ap {B = Link} (λ (b : Bool). record { details = details; key = link.key; state = state.Idle; hold = record { tickets = 0; condemned = b } }) good
