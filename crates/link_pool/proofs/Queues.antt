-- Who waits, once a client has joined a queue or left it.
use Rattle.std.proofs.Common.{◌≡◌, ◌≢◌, ℕ, zero, suc, ◌<◌, Bool, List, [], ◌∷◌, map, Some, length, length-set, refl, ap, sym, ◌∙◌, arith, ⊎_elim, inl, inr}
use Rattle.std.proofs.Math.ListN.{set}
use Rattle.std.specs.List.{slice_get}
use Rattle.std.proofs.lemmas.Option.{slice_get_within}
use Rattle.std.proofs.lemmas.Bool.{cases_eq}
use Rattle.lease.specs.declared.link_place.LinkPlace.{LinkPlace}
use Rattle.slot_queues.specs.Queues.{times, times_in, others, behind, queue_of}
use Rattle.slot_queues.proofs.Times.{eq_self, eq_no, one_yes, one_no, times_joined, times_left, times_other, others_absent, sum_none}
use Rattle.link_pool.specs.declared.place.Claim.{Claim}
use Rattle.link_pool.specs.declared.place.Claim.TheVariants as claim
use Rattle.link_pool.specs.Pool.{PoolView, place_at, queue_at, with_queue, with_claim}
use Rattle.link_pool.specs.OnePlace.{waits, IsPool}
use Rattle.link_pool.proofs.Places.{slice_get-set_same}
use Rattle.link_pool.proofs.Changes.{queue_here, queue_there}
use Rattle.link_pool.proofs.Whole.{says, tells, ties, agree_changed, slot_cases, same_had, fits_more}

-- what a change of one queue and for one client has to keep
pub record Requeues (v : PoolView) (d : ℕ) (change : List ℕ → List ℕ) (slot : ℕ) (was claim : Claim) : Type 0 where
  pub there : d < length v.queues
  pub had : slice_get v.claims slot ≡ Some was
  pub same : (k : LinkPlace) → says k (Some claim) ≡ says k (Some was)
  pub others_wait : (s : ℕ) → s ≢ slot → times s (change (queue_at v d)) ≡ times s (queue_at v d)
  pub here : waits d (Some claim) ≡ times slot (change (queue_at v d))
  pub elsewhere : (e : ℕ) → e ≢ d → waits e (Some claim) ≡ waits e (Some was)

-- after a change of one queue and for one client
pub requeued : (v : PoolView) (d : ℕ) (change : List ℕ → List ℕ) (slot : ℕ) (was claim : Claim) → IsPool v → Requeues v d change slot was claim → IsPool (with_claim (with_queue v d change) slot claim)
requeued v d change slot was claim whole m =
    let now = slice_get-set_same v.claims slot claim (slice_get_within v.claims slot was m.had) in
    let made = queue_here v d change m.there in
    let tie = same_had says (λ s k. tells s (place_at v k)) v.claims slot was claim m.had m.same (ties v whole) in
    record {
      fits = λ k. fits_more v (with_claim (with_queue v d change) slot claim) k (place_at v k) refl refl (omega arith) (omega arith) (whole.fits k);
      links = λ s k. ap (λ (t : Bool × Bool × Bool). t.0) (tie s k);
      permits = λ s k. ap (λ (t : Bool × Bool × Bool). t.1) (tie s k);
      given = λ s k. ap (λ (t : Bool × Bool × Bool). t.2) (tie s k);
      queues = agree_changed waits times (queue_at v) (queue_at (with_queue v d change)) (slice_get v.claims) (slice_get (set v.claims slot claim)) d slot whole.queues
          (λ e. ⊎_elim (λ same. inl same) (λ n. inr (n, queue_there v d e change n)) (cases_eq e d))
          (λ s. slot_cases v.claims slot s claim)
          (λ s n. ap (times s) made ∙ m.others_wait s n)
          (λ e n. ap (waits e) now ∙ m.elsewhere e n ∙ ap (waits e) (sym m.had))
          (ap (waits d) now ∙ m.here ∙ ap (times slot) (sym made));
      link_once = whole.link_once;
      permit_once = whole.permit_once;
      numbers = whole.numbers;
      stacks = whole.stacks;
      beside = length-set v.queues d (change (queue_at v d)) ∙ whole.beside;
    }

-- who waits stands in a queue that there is
queue_within : (queues : List (List ℕ)) (d slot : ℕ) → 0 < times slot (queue_of queues d) → d < length queues
queue_within [] d slot h = absurd (omega arith)
queue_within (waiting ∷ queues) zero slot h = omega arith
queue_within (waiting ∷ queues) (suc d) slot h = let e = queue_within queues d slot h in omega (arith, e)

waits_self : (d : ℕ) → waits d (Some (claim.Waiting d)) ≡ 1
waits_self d = rw (eq_self d) refl

waits_not : (d e : ℕ) → e ≢ d → waits e (Some (claim.Waiting d)) ≡ 0
waits_not d e n = rw (eq_no d e (λ t. n (sym t))) refl

-- who waits for a database is once in its queue, and in no other
once_there : (v : PoolView) (d slot : ℕ) → IsPool v → slice_get v.claims slot ≡ Some (claim.Waiting d) → times slot (queue_at v d) ≡ 1
once_there v d slot whole h = sym (whole.queues slot d) ∙ ap (waits d) h ∙ waits_self d

-- a client has left the queue
pub left : (v : PoolView) (d slot : ℕ) → IsPool v → slice_get v.claims slot ≡ Some (claim.Waiting d) → IsPool (with_claim (with_queue v d (others slot)) slot claim.Nothing)
left v d slot whole h =
    let once = once_there v d slot whole h in
    let less = times_left slot (queue_at v d) (omega (arith, once)) in
    requeued v d (others slot) slot (claim.Waiting d) claim.Nothing whole record {
      there = queue_within v.queues d slot (omega (arith, once));
      had = h;
      same = λ k. refl;
      others_wait = λ s n. times_other slot s (queue_at v d) n;
      here = omega (arith, less, once);
      elsewhere = λ e n. sym (waits_not d e n);
    }

-- who waits nowhere is in no queue
none_there : (v : PoolView) (slot : ℕ) → IsPool v → slice_get v.claims slot ≡ Some claim.Nothing → (d : ℕ) → times slot (queue_at v d) ≡ 0
none_there v slot whole h d = sym (whole.queues slot d) ∙ ap (waits d) h

pub nowhere : (v : PoolView) (slot : ℕ) → IsPool v → slice_get v.claims slot ≡ Some claim.Nothing → times_in slot v.queues ≡ 0
nowhere v slot whole h = sum_none slot v.queues (none_there v slot whole h)

-- a client has joined the queue
pub joined : (v : PoolView) (d slot : ℕ) → IsPool v → d < length v.queues → slice_get v.claims slot ≡ Some claim.Nothing → IsPool (with_claim (with_queue v d (behind slot)) slot (claim.Waiting d))
joined v d slot whole there h =
    let none = none_there v slot whole h d in
    let self = times_joined slot slot (queue_at v d) in
    let one = one_yes slot slot refl in
    let is = waits_self d in
    requeued v d (behind slot) slot claim.Nothing (claim.Waiting d) whole record {
      there = there;
      had = h;
      same = λ k. refl;
      others_wait = λ s n. let e = times_joined s slot (queue_at v d) in let no = one_no slot s n in omega (arith, e, no);
      here = omega (arith, is, self, one, none);
      elsewhere = λ e n. waits_not d e n;
    }

-- to leave all queues is to leave the one that the slot is in
none_left : (slot : ℕ) (queues : List (List ℕ)) → ((d : ℕ) → times slot (queue_of queues d) ≡ 0) → map (others slot) queues ≡ queues
none_left slot [] none = refl
none_left slot (waiting ∷ queues) none = rw (others_absent slot waiting (none 0)) (ap (λ (qs : List (List ℕ)). waiting ∷ qs) (none_left slot queues (λ d. none (suc d))))

one_left : (slot : ℕ) (queues : List (List ℕ)) (d : ℕ) → ((e : ℕ) → e ≢ d → times slot (queue_of queues e) ≡ 0) → map (others slot) queues ≡ set queues d (others slot (queue_of queues d))
one_left slot [] d none = refl
one_left slot (waiting ∷ queues) zero none = ap (λ (qs : List (List ℕ)). others slot waiting ∷ qs) (none_left slot queues (λ e. none (suc e) (λ t. absurd (omega (arith, t)))))
one_left slot (waiting ∷ queues) (suc d) none =
    rw (others_absent slot waiting (none 0 (λ t. absurd (omega (arith, t))))) (ap (λ (qs : List (List ℕ)). waiting ∷ qs) (one_left slot queues d (λ e n. none (suc e) (λ t. n (omega (arith, t))))))

pub all_stay : (v : PoolView) (slot : ℕ) → IsPool v → slice_get v.claims slot ≡ Some claim.Nothing → map (others slot) v.queues ≡ v.queues
all_stay v slot whole h = none_left slot v.queues (none_there v slot whole h)

pub all_left : (v : PoolView) (d slot : ℕ) → IsPool v → slice_get v.claims slot ≡ Some (claim.Waiting d) → map (others slot) v.queues ≡ set v.queues d (others slot (queue_at v d))
all_left v d slot whole h = one_left slot v.queues d (λ e n. sym (whole.queues slot e) ∙ ap (waits e) h ∙ waits_not d e n)
