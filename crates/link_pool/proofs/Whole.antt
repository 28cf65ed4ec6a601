-- What is true of every node's pools stays true.
use Rattle.std.proofs.Common.{◌≡◌, ◌≢◌, ℕ, ◌≤◌, ◌<◌, Bool, true, false, List, [], ◌∷◌, option_map, unwrap_or, get_or, Option, Some, None, length, refl, ap, sym, subst, ◌∙◌, arith, ⊎_elim, ◌⊎◌, inl, inr}
use Rattle.std.proofs.Math.ListN.{set}
use Rattle.std.specs.List.{slice_get}
use Rattle.std.proofs.lemmas.Option.{slice_get_within, slice_get-map, unwrap_or-slice_get}
use Rattle.std.proofs.lemmas.Bool.{cases_eq}
use Rattle.lease.specs.declared.link_place.LinkPlace.{LinkPlace}
use Rattle.link_pool.specs.declared.place.Place.{Place}
use Rattle.link_pool.specs.declared.place.Place.TheVariants as place
use Rattle.link_pool.specs.declared.place.Claim.{Claim}
use Rattle.link_pool.specs.Pool.{DatabasePool, PoolView, at_place, place_in, place_at, free_in, free_at, is_free, queue_at, placed, with_place, with_claim}
use Rattle.link_pool.specs.Stacks.{IsStack, put_on, top, under_top}
use Rattle.link_pool.specs.OnePlace.{Fits, has_link, has_permit, has_given, held_by, open_for, given_by, waits, used, used_in, sizes, WithinSizes, link_number, permit_number, IsStacked, IsPool}
use Rattle.slot_queues.specs.Queues.{times}
use Rattle.link_pool.proofs.Places.{slice_get-set_same, slice_get-set_other}
use Rattle.link_pool.proofs.Changes.{one_place, changed_here, changed_there, changed_long, place_here, place_there}
use Rattle.link_pool.proofs.Stacking.{relisted, of_top, topped}

-- what fits one view fits one with more numbers given
pub fits_more : (v w : PoolView) (at : LinkPlace) (o : Option Place) → v.peer ≡ w.peer → v.incarnation ≡ w.incarnation → v.next_link ≤ w.next_link → v.next_permit ≤ w.next_permit → Fits v at o → Fits w at o
fits_more v w at None p i l n h = tt
fits_more v w at (Some place.Free) p i l n h = tt
fits_more v w at (Some (place.Open permit slot)) p i l n h = record { says = rw (← p, ← i) h.says; given = let given = h.given in omega arith }
fits_more v w at (Some (place.Link link)) p i l n h = record { says = rw (← p, ← i) h.says; given = let given = h.given in omega arith; tickets = h.tickets; state = h.state }

-- no more places are used than there are
pub used-le : (places : List Place) → used places ≤ length places
used-le [] = omega arith
used-le (place.Free ∷ places) = let e = used-le places in omega (arith, e)
used-le (place.Open permit slot ∷ places) = let e = used-le places in omega (arith, e)
used-le (place.Link link ∷ places) = let e = used-le places in omega (arith, e)

pub used_in-le : (o : Option DatabasePool) → used_in o ≤ unwrap_or (option_map (λ (pool : DatabasePool). length pool.places) o) 0
used_in-le None = omega arith
used_in-le (Some pool) = used-le pool.places

-- with as many places as the pool sizes, links and permits are no more
pub within_sizes : (v : PoolView) (each : List ℕ) → sizes v.pools ≡ each → WithinSizes each v
within_sizes v each e d =
    let few = used_in-le (slice_get v.pools d) in
    let same : unwrap_or (option_map (λ (pool : DatabasePool). length pool.places) (slice_get v.pools d)) 0 ≡ get_or each d 0 =
    ap (λ (o : Option ℕ). unwrap_or o 0) (sym (slice_get-map (λ (pool : DatabasePool). length pool.places) v.pools d)) ∙ unwrap_or-slice_get (sizes v.pools) d 0 ∙ ap (λ (ns : List ℕ). get_or ns d 0) e in
    omega (arith, few, same)

-- two sides agree, once one key and one slot have changed
pub agree_changed : {K V R : Type 0} (f : K → Option Claim → R) (g : ℕ → V → R) (look new_look : K → V) (claim new_claim : ℕ → Option Claim) (key : K) (slot : ℕ)
    → ((s : ℕ) (k : K) → f k (claim s) ≡ g s (look k))
    → ((k : K) → (k ≡ key) ⊎ ((k ≢ key) × (new_look k ≡ look k)))
    → ((s : ℕ) → (s ≡ slot) ⊎ ((s ≢ slot) × (new_claim s ≡ claim s)))
    → ((s : ℕ) → s ≢ slot → g s (new_look key) ≡ g s (look key))
    → ((k : K) → k ≢ key → f k (new_claim slot) ≡ f k (claim slot))
    → f key (new_claim slot) ≡ g slot (new_look key)
    → (s : ℕ) (k : K) → f k (new_claim s) ≡ g s (new_look k)
agree_changed {K} {V} {R} f g look new_look claim new_claim key slot agree keys slots others elsewhere here s k = ⊎_elim
    (λ at_key. subst (λ (x : K). f x (new_claim s) ≡ g s (new_look x)) (sym at_key) (⊎_elim
    (λ at_slot. subst (λ (t : ℕ). f key (new_claim t) ≡ g t (new_look key)) (sym at_slot) here)
    (λ apart. ap (f key) apart.1 ∙ agree s key ∙ sym (others s apart.0))
    (slots s)))
    (λ away. ⊎_elim
    (λ at_slot. subst (λ (t : ℕ). f k (new_claim t) ≡ g t (new_look k)) (sym at_slot) (elsewhere k away.0 ∙ agree slot k ∙ ap (g slot) (sym away.1)))
    (λ apart. ap (f k) apart.1 ∙ agree s k ∙ ap (g s) (sym away.1))
    (slots s))
    (keys k)

-- what a claim says of a place: that the client has the link, that it has the permit, that it gave
-- the link back
abbrev pub says : LinkPlace → Option Claim → Bool × Bool × Bool
says at o = (has_link at o, has_permit at o, has_given at o)

-- what a place says of a client, likewise
abbrev pub tells : ℕ → Option Place → Bool × Bool × Bool
tells slot o = (held_by slot o, open_for slot o, given_by slot o)

abbrev pub silent : Bool × Bool × Bool
silent = (false, false, false)

pub three : {a b c d e f : Bool} → a ≡ d → b ≡ e → c ≡ f → ◌≡◌ {A = Bool × Bool × Bool} (a, b, c) (d, e, f)
three p q r = rw (p, q, r) refl

-- claims and places say the same
pub ties : (v : PoolView) → IsPool v → (s : ℕ) (k : LinkPlace) → says k (slice_get v.claims s) ≡ tells s (place_at v k)
ties v whole s k = three (whole.links s k) (whole.permits s k) (whole.given s k)

-- a place and a claim that speak of each other, and of nothing else
pub record Alone (at : LinkPlace) (slot : ℕ) (p : Place) (claim : Claim) : Type 0 where
  pub others : (s : ℕ) → s ≢ slot → tells s (Some p) ≡ silent
  pub elsewhere : (k : LinkPlace) → k ≢ at → says k (Some claim) ≡ silent
  pub here : says at (Some claim) ≡ tells slot (Some p)
  pub no_wait : (d : ℕ) → waits d (Some claim) ≡ 0

-- what is at a place, and what the client has of it, or may take again
pub record IsOf (v : PoolView) (at : LinkPlace) (slot : ℕ) (what : Place) (claimed : Claim) : Type 0 where
  pub there : place_at v at ≡ Some what
  pub had : slice_get v.claims slot ≡ Some claimed
  pub within : slot < length v.claims
  pub alone : Alone at slot what claimed

-- a number is as it was, or no other's
abbrev pub IsNew : (Option Place → Option ℕ) → PoolView → Place → Place → Type 0
IsNew number v old p = (n : ℕ) → number (Some p) ≡ Some n → (number (Some old) ≡ Some n) ⊎ ((k : LinkPlace) → number (place_at v k) ≢ Some n)

-- a slot is the one that changed, or has what it had
pub slot_cases : (claims : List Claim) (slot s : ℕ) (claim : Claim) → (s ≡ slot) ⊎ ((s ≢ slot) × (slice_get (set claims slot claim) s ≡ slice_get claims s))
slot_cases claims slot s claim = ⊎_elim (λ e. inl e) (λ n. inr (n, slice_get-set_other claims slot s claim n)) (cases_eq s slot)

pub place_cases : (a b : LinkPlace) → (a ≡ b) ⊎ (a ≢ b)
place_cases a b = ⊎_elim
    (λ d. ⊎_elim (λ i. inl (one_place a b d i)) (λ n. inr (λ e. n (ap (λ (x : LinkPlace). x.index) e))) (cases_eq a.index b.index))
    (λ n. inr (λ e. n (ap (λ (x : LinkPlace). x.database) e)))
    (cases_eq a.database b.database)

-- a place is the one that changed, or has what it had
key_cases : (v : PoolView) (at k : LinkPlace) (p : Place) (f : List ℕ → List ℕ) → (k ≡ at) ⊎ ((k ≢ at) × (place_at (placed v at p f) k ≡ place_at v k))
key_cases v at k p f = ⊎_elim (λ e. inl e) (λ n. inr (n, place_there v at k p f n)) (place_cases k at)

-- numbers stay apart, once one place has changed
pub apart_changed : (number : Option Place → Option ℕ) (v : PoolView) (at : LinkPlace) (old p : Place) (f : List ℕ → List ℕ)
    → place_at v at ≡ Some old
    → ((k j : LinkPlace) (n : ℕ) → number (place_at v k) ≡ Some n → number (place_at v j) ≡ Some n → k ≡ j)
    → ((n : ℕ) → number (Some p) ≡ Some n → (number (Some old) ≡ Some n) ⊎ ((k : LinkPlace) → number (place_at v k) ≢ Some n))
    → (k j : LinkPlace) (n : ℕ) → number (place_at (placed v at p f) k) ≡ Some n → number (place_at (placed v at p f) j) ≡ Some n → k ≡ j
apart_changed number v at old p f there once new k j n hk hj =
    let here = place_here v at old p f there in
    let of_new : (x y : LinkPlace) → x ≡ at → y ≢ at → number (place_at (placed v at p f) x) ≡ Some n → number (place_at (placed v at p f) y) ≡ Some n → x ≡ y = λ x y ex ny hx hy.
    let has : number (Some p) ≡ Some n = ap number (sym here) ∙ ap (λ (z : LinkPlace). number (place_at (placed v at p f) z)) (sym ex) ∙ hx in
    let other : number (place_at v y) ≡ Some n = ap number (sym (place_there v at y p f ny)) ∙ hy in
    ⊎_elim (λ same. ex ∙ once at y n (ap number there ∙ same) other) (λ fresh. absurd (fresh y other)) (new n has) in
    ⊎_elim
    (λ ek. ⊎_elim (λ ej. ek ∙ sym ej) (λ nj. of_new k j ek nj hk hj) (place_cases j at))
    (λ nk. ⊎_elim (λ ej. sym (of_new j k ej nk hj hk)) (λ nj. once k j n (ap number (sym (place_there v at k p f nk)) ∙ hk) (ap number (sym (place_there v at j p f nj)) ∙ hj)) (place_cases j at))
    (place_cases k at)

-- each database's stack, once one pool has changed
restacked_in : (o : Option DatabasePool) (i : ℕ) (p : Place) (f : List ℕ → List ℕ) → ((pool : DatabasePool) → o ≡ Some pool → IsStack is_free (set pool.places i p) (f pool.free)) → IsStacked (option_map (λ (pool : DatabasePool). at_place pool i p f) o)
restacked_in None i p f h = tt
restacked_in (Some pool) i p f h = h pool refl

-- what a change at one place has to keep of the stack
abbrev pub Restacks : PoolView → LinkPlace → Place → (List ℕ → List ℕ) → Type 0
Restacks v at p f = (pool : DatabasePool) → slice_get v.pools at.database ≡ Some pool → IsStack is_free (set pool.places at.index p) (f pool.free)

restacked : (v : PoolView) (at : LinkPlace) (p : Place) (f : List ℕ → List ℕ) → IsPool v → Restacks v at p f → (d : ℕ) → IsStacked (slice_get (placed v at p f).pools d)
restacked v at p f whole stack d = ⊎_elim
    (λ same. subst (λ (e : ℕ). IsStacked (slice_get (placed v at p f).pools e)) (sym same) (subst IsStacked (sym (changed_here v.pools at.database _)) (restacked_in (slice_get v.pools at.database) at.index p f stack)))
    (λ apart. subst IsStacked (sym (changed_there v.pools at.database d _ apart)) (whole.stacks d))
    (cases_eq d at.database)

-- the place that is taken next is free
free_place : (o : Option Place) → is_free o ≡ true → o ≡ Some place.Free
free_place (Some place.Free) h = refl
free_place o h = absurd (cc)

next_in : (o : Option DatabasePool) (i : ℕ) → IsStacked o → top (free_in o) ≡ Some i → place_in o i ≡ Some place.Free
next_in None i stack h = absurd (cc)
next_in (Some pool) i stack h = free_place (slice_get pool.places i) (of_top is_free pool.places pool.free i stack h)

pub next_is_free : (v : PoolView) (at : LinkPlace) → IsPool v → top (free_at v at.database) ≡ Some at.index → place_at v at ≡ Some place.Free
next_is_free v at whole h = next_in (slice_get v.pools at.database) at.index (whole.stacks at.database) h

-- a place that wasn't free is put on the stack, if it is free now; the next free one is taken off
put_back : (v : PoolView) (at : LinkPlace) (old p : Place) → IsPool v → place_at v at ≡ Some old → is_free (Some old) ≡ false → Restacks v at p (put_on (is_free (Some p)) at.index)
put_back v at old p whole there out pool is =
    relisted is_free pool.places pool.free at.index old p (ap (λ (o : Option DatabasePool). place_in o at.index) (sym is) ∙ there) out (subst IsStacked is (whole.stacks at.database))

pub taken_off : (v : PoolView) (at : LinkPlace) (old p : Place) → IsPool v → place_at v at ≡ Some old → top (free_at v at.database) ≡ Some at.index → is_free (Some p) ≡ false → Restacks v at p under_top
taken_off v at old p whole there next out pool is =
    topped is_free pool.places pool.free at.index old p (ap (λ (o : Option DatabasePool). top (free_in o)) (sym is) ∙ next) (ap (λ (o : Option DatabasePool). place_in o at.index) (sym is) ∙ there) out (subst IsStacked is (whole.stacks at.database))

-- after a change at one place and for one client
pub moved_by : {old : Place} {was : Claim} (v : PoolView) (at : LinkPlace) (slot : ℕ) (p : Place) (claim : Claim) (f : List ℕ → List ℕ) → IsPool v → IsOf v at slot old was → Alone at slot p claim → Fits v at (Some p)
    → IsNew link_number v old p → IsNew permit_number v old p → Restacks v at p f → IsPool (with_claim (placed v at p f) slot claim)
moved_by {old} {was} v at slot p claim f whole of alone fits link permit stack =
    let here = place_here v at old p f of.there in
    let now = slice_get-set_same v.claims slot claim of.within in
    let wait : (d : ℕ) → waits d (Some claim) ≡ waits d (Some was) = λ d. alone.no_wait d ∙ sym (of.alone.no_wait d) in
    let tie = agree_changed says tells (place_at v) (place_at (placed v at p f)) (slice_get v.claims) (slice_get (set v.claims slot claim)) at slot (ties v whole)
    (λ k. key_cases v at k p f) (λ s. slot_cases v.claims slot s claim)
    (λ s n. ap (tells s) here ∙ alone.others s n ∙ sym (of.alone.others s n) ∙ ap (tells s) (sym of.there))
    (λ k n. ap (says k) now ∙ alone.elsewhere k n ∙ sym (of.alone.elsewhere k n) ∙ ap (says k) (sym of.had))
    (ap (says at) now ∙ alone.here ∙ ap (tells slot) (sym here)) in
    record {
      fits = λ k. fits_more v (with_claim (placed v at p f) slot claim) k (place_at (placed v at p f) k) refl refl (omega arith) (omega arith)
          (⊎_elim (λ e. subst (λ (x : LinkPlace). Fits v x (place_at (placed v at p f) x)) (sym e) (subst (Fits v at) (sym here) fits)) (λ n. subst (Fits v k) (sym (place_there v at k p f n)) (whole.fits k)) (place_cases k at));
      links = λ s k. ap (λ (t : Bool × Bool × Bool). t.0) (tie s k);
      permits = λ s k. ap (λ (t : Bool × Bool × Bool). t.1) (tie s k);
      given = λ s k. ap (λ (t : Bool × Bool × Bool). t.2) (tie s k);
      queues = λ s d. ⊎_elim
          (λ e. subst (λ (t : ℕ). waits d (slice_get (set v.claims slot claim) t) ≡ times t (queue_at v d)) (sym e) (ap (waits d) now ∙ wait d ∙ ap (waits d) (sym of.had) ∙ whole.queues slot d))
          (λ n. ap (waits d) n.1 ∙ whole.queues s d)
          (slot_cases v.claims slot s claim);
      link_once = apart_changed link_number v at old p f of.there whole.link_once link;
      permit_once = apart_changed permit_number v at old p f of.there whole.permit_once permit;
      numbers = whole.numbers;
      stacks = restacked v at p f whole stack;
      beside = whole.beside ∙ sym (changed_long v.pools at.database _);
    }

-- where the place wasn't free
pub moved : {old : Place} {was : Claim} (v : PoolView) (at : LinkPlace) (slot : ℕ) (p : Place) (claim : Claim) → IsPool v → IsOf v at slot old was → is_free (Some old) ≡ false → Alone at slot p claim → Fits v at (Some p)
    → IsNew link_number v old p → IsNew permit_number v old p → IsPool (with_claim (with_place v at p) slot claim)
moved {old} v at slot p claim whole of out alone fits link permit =
    moved_by v at slot p claim (put_on (is_free (Some p)) at.index) whole of alone fits link permit (put_back v at old p whole of.there out)

-- after a change at one place, by which nobody has more or less
pub stayed : (v : PoolView) (at : LinkPlace) (old p : Place) → is_free (Some old) ≡ false → IsPool v → place_at v at ≡ Some old → Fits v at (Some p) → ((s : ℕ) → tells s (Some p) ≡ tells s (Some old))
    → IsNew link_number v old p → IsNew permit_number v old p → IsPool (with_place v at p)
stayed v at old p out whole there fits same link permit =
    let f = put_on (is_free (Some p)) at.index in
    let here = place_here v at old p f there in
    let tie : (s : ℕ) (k : LinkPlace) → says k (slice_get v.claims s) ≡ tells s (place_at (with_place v at p) k) = λ s k. ⊎_elim
    (λ e. subst (λ (x : LinkPlace). says x (slice_get v.claims s) ≡ tells s (place_at (with_place v at p) x)) (sym e) (ties v whole s at ∙ ap (tells s) there ∙ sym (same s) ∙ ap (tells s) (sym here)))
    (λ n. ties v whole s k ∙ ap (tells s) (sym (place_there v at k p f n)))
    (place_cases k at) in
    record {
      fits = λ k. fits_more v (with_place v at p) k (place_at (with_place v at p) k) refl refl (omega arith) (omega arith)
          (⊎_elim (λ e. subst (λ (x : LinkPlace). Fits v x (place_at (with_place v at p) x)) (sym e) (subst (Fits v at) (sym here) fits)) (λ n. subst (Fits v k) (sym (place_there v at k p f n)) (whole.fits k)) (place_cases k at));
      links = λ s k. ap (λ (t : Bool × Bool × Bool). t.0) (tie s k);
      permits = λ s k. ap (λ (t : Bool × Bool × Bool). t.1) (tie s k);
      given = λ s k. ap (λ (t : Bool × Bool × Bool). t.2) (tie s k);
      queues = whole.queues;
      link_once = apart_changed link_number v at old p f there whole.link_once link;
      permit_once = apart_changed permit_number v at old p f there whole.permit_once permit;
      numbers = whole.numbers;
      stacks = restacked v at p f whole (put_back v at old p whole there out);
      beside = whole.beside ∙ sym (changed_long v.pools at.database _);
    }

-- what a client had is as before, once one claim has changed
pub same_had : {K R : Type 0} (f : K → Option Claim → R) (g : ℕ → K → R) (claims : List Claim) (slot : ℕ) (was claim : Claim) → slice_get claims slot ≡ Some was → ((k : K) → f k (Some claim) ≡ f k (Some was)) → ((s : ℕ) (k : K) → f k (slice_get claims s) ≡ g s k)
    → (s : ℕ) (k : K) → f k (slice_get (set claims slot claim) s) ≡ g s k
same_had f g claims slot was claim had same agree s k = ⊎_elim
    (λ e. subst (λ (t : ℕ). f k (slice_get (set claims slot claim) t) ≡ g t k) (sym e) (ap (f k) (slice_get-set_same claims slot claim (slice_get_within claims slot was had)) ∙ same k ∙ ap (f k) (sym had) ∙ agree slot k))
    (λ n. ap (f k) n.1 ∙ agree s k)
    (slot_cases claims slot s claim)

-- after a change of one claim, of which places and queues know nothing
pub reclaimed : (v : PoolView) (slot : ℕ) (was claim : Claim) → IsPool v → slice_get v.claims slot ≡ Some was → ((k : LinkPlace) → says k (Some claim) ≡ says k (Some was)) → ((d : ℕ) → waits d (Some claim) ≡ waits d (Some was)) → IsPool (with_claim v slot claim)
reclaimed v slot was claim whole had same wait =
    let tie = same_had says (λ s k. tells s (place_at v k)) v.claims slot was claim had same (ties v whole) in
    record {
      fits = λ k. fits_more v (with_claim v slot claim) k (place_at v k) refl refl (omega arith) (omega arith) (whole.fits k);
      links = λ s k. ap (λ (t : Bool × Bool × Bool). t.0) (tie s k);
      permits = λ s k. ap (λ (t : Bool × Bool × Bool). t.1) (tie s k);
      given = λ s k. ap (λ (t : Bool × Bool × Bool). t.2) (tie s k);
      queues = same_had waits (λ s d. times s (queue_at v d)) v.claims slot was claim had wait whole.queues;
      link_once = whole.link_once;
      permit_once = whole.permit_once;
      numbers = whole.numbers;
      stacks = whole.stacks;
      beside = whole.beside;
    }
