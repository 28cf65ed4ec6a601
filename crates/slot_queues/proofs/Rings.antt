-- Rings of nodes, once two nodes have exchanged those that follow them.
use Rattle.std.proofs.Common.{◌≡◌, ◌≢◌, ℕ, zero, suc, ◌<◌, ◌≤◌, ◌+◌, ◌-◌, Bool, true, false, List, [], ◌∷◌, length, map, get_or, replicate, slice_index, slice_get, Some, None, ◌^◌, refl, ap, sym, subst, ◌∙◌, arith, length-set, ⊎_elim, ◌⊎◌, inl, inr, ◌==◌}
use Rattle.std.proofs.Math.ListN.{set}
use Rattle.std.proofs.lemmas.Bool.{cases_eq, lt-ltb, le-ltb}
use Rattle.std.proofs.lemmas.Grind.{get_or_default_zero}
use Rattle.std.proofs.lemmas.List.{set-get_or, get_or-set_same, get_or-set_other, get_or-map, ext_get_or, length-map, length-replicate}
use Rattle.std.proofs.lemmas.List.FromFn.{get_or-map-range_with_len, length-map-range_with_len}
use Rattle.slot_queues.specs.Queues.{times, times_in, others, behind, queue_of}
use Rattle.slot_queues.specs.Rings.{walk, ring, queues_in, IsSlot, Leads, IsTied, IsApart}
use Rattle.slot_queues.proofs.Times.{eq_self, eq_yes, eq_no, one_of, one_yes, one_no, times_joined, not_first, sum_fewer, sum_other, sum_empty, times_in-set, times_in-le, few}

-- a ring's slots are those that lead to its queue
walks : (next : List ℕ) (slots fuel from : ℕ) (waiting : List ℕ) (to : ℕ) → Leads next slots from waiting to → slots ≤ to → length waiting ≤ fuel → walk next slots fuel (slice_index next from) ≡ waiting
walks next slots zero from [] to leads far long = refl
walks next slots (suc fuel) from [] to leads far long = rw (leads, le-ltb to slots far) refl
walks next slots zero from (x ∷ rest) to leads far long = absurd (omega (arith, long))
walks next slots (suc fuel) from (x ∷ rest) to leads far long = rw (leads.0, lt-ltb x slots leads.1.below) (ap (λ (xs : List ℕ). x ∷ xs) (walks next slots fuel x rest to leads.2 far (omega (arith, long))))

none_past : (next : List ℕ) (slots from : ℕ) (waiting : List ℕ) (to : ℕ) → Leads next slots from waiting to → (s : ℕ) → slots ≤ s → times s waiting ≡ 0
none_past next slots from [] to leads s far = refl
none_past next slots from (x ∷ rest) to leads s far =
    let below = leads.1.below in
    let no = eq_no x s (λ e. absurd (omega (arith, below, far, e))) in
    let none = none_past next slots x rest to leads.2 s far in
    rw no (omega (arith, none))

-- the queues of tied rings are those that the rings show
ring_is : (next prev : List ℕ) (slots : ℕ) (queues : List (List ℕ)) → IsTied next prev slots queues → (queue : ℕ) → queue < length queues → ring next slots queue ≡ queue_of queues queue
ring_is next prev slots queues tied queue there =
    let leads = tied.rings queue there in
    walks next slots slots (slots + queue) (queue_of queues queue) (slots + queue) leads (omega arith)
    (few slots (queue_of queues queue) (λ s. let a = times_in-le s queues queue in let b = tied.once s in omega (arith, a, b)) (none_past next slots (slots + queue) (queue_of queues queue) (slots + queue) leads))

pub shown : (next prev : List ℕ) (slots : ℕ) (queues : List (List ℕ)) → IsTied next prev slots queues → queues_in next slots ≡ queues
shown next prev slots queues tied =
    let all = tied.next_all in
    let count : length next - slots ≡ length queues = omega (arith, all) in
    let long = length-map-range_with_len (ring next slots) 0 (length next - slots) in
    ext_get_or [] (queues_in next slots) queues (long ∙ count) (λ queue h.
    get_or-map-range_with_len (ring next slots) 0 (length next - slots) queue queue [] (omega (arith, h, long)) (omega arith)
    ∙ ring_is next prev slots queues tied queue (omega (arith, h, long, count)))

-- what two nodes' exchange leaves: a is followed by what followed b, and b by what followed a
pub record Exchanges (next prev new_next new_prev : List ℕ) (a b : ℕ) : Type 0 where
  pub next_all : length new_next ≡ length next
  pub prev_all : length new_prev ≡ length prev
  pub next_a : slice_index new_next a ≡ slice_index next b
  pub next_b : slice_index new_next b ≡ slice_index next a
  pub next_else : (node : ℕ) → node ≢ a → node ≢ b → slice_index new_next node ≡ slice_index next node
  pub prev_a : slice_index new_prev (slice_index next b) ≡ a
  pub prev_b : slice_index new_prev (slice_index next a) ≡ b
  pub prev_else : (node : ℕ) → node ≢ slice_index next b → node ≢ slice_index next a → slice_index new_prev node ≡ slice_index prev node

set_first : (xs : List ℕ) (i j x y : ℕ) → i < length xs → (i ≡ j → x ≡ y) → slice_index (set (set xs i x) j y) i ≡ x
set_first xs i j x y within same = ⊎_elim
    (λ e. ap (slice_index (set (set xs i x) j y)) e ∙ get_or-set_same (set xs i x) j y 0 (let long = length-set xs i x in omega (arith, within, long, e)) ∙ sym (same e))
    (λ n. get_or-set_other (set xs i x) j i y 0 n ∙ get_or-set_same xs i x 0 within)
    (cases_eq i j)

set_last : (xs : List ℕ) (i j x y : ℕ) → j < length xs → slice_index (set (set xs i x) j y) j ≡ y
set_last xs i j x y within = get_or-set_same (set xs i x) j y 0 (let long = length-set xs i x in omega (arith, within, long))

set_else : (xs : List ℕ) (i j x y k : ℕ) → k ≢ i → k ≢ j → slice_index (set (set xs i x) j y) k ≡ slice_index xs k
set_else xs i j x y k n m = get_or-set_other (set xs i x) j k y 0 m ∙ get_or-set_other xs i k x 0 n

pub exchanges : (next prev : List ℕ) (slots : ℕ) (queues : List (List ℕ)) (a b : ℕ) → IsTied next prev slots queues → a < length next → b < length next
    → Exchanges next prev (set (set next a (slice_index next b)) b (slice_index next a)) (set (set prev (slice_index next b) a) (slice_index next a) b) a b
exchanges next prev slots queues a b tied in_a in_b =
    let long : length prev ≡ length next = tied.prev_all ∙ sym tied.next_all in
    let below_a = tied.next_below a in_a in
    let below_b = tied.next_below b in_b in
    record {
      next_all = length-set (set next a (slice_index next b)) b (slice_index next a) ∙ length-set next a (slice_index next b);
      prev_all = length-set (set prev (slice_index next b) a) (slice_index next a) b ∙ length-set prev (slice_index next b) a;
      next_a = set_first next a b (slice_index next b) (slice_index next a) in_a (λ e. ap (slice_index next) (sym e));
      next_b = set_last next a b (slice_index next b) (slice_index next a) in_b;
      next_else = λ node n m. set_else next a b (slice_index next b) (slice_index next a) node n m;
      prev_a = set_first prev (slice_index next b) (slice_index next a) a b (omega (arith, below_b, long)) (λ e. sym (tied.back a in_a) ∙ ap (slice_index prev) (sym e) ∙ tied.back b in_b);
      prev_b = set_last prev (slice_index next b) (slice_index next a) a b (omega (arith, below_a, long));
      prev_else = λ node n m. set_else prev (slice_index next b) (slice_index next a) a b node n m;
    }

-- a node is one of two, or neither
of_two : (x a b : ℕ) → (x ≡ a) ⊎ ((x ≡ b) ⊎ ((x ≢ a) × (x ≢ b)))
of_two x a b = ⊎_elim (λ e. inl e) (λ n. ⊎_elim (λ e. inr (inl e)) (λ m. inr (inr (n, m))) (cases_eq x b)) (cases_eq x a)

-- after an exchange the queues are these, if their rings have their slots and a slot that waits
-- nowhere is alone
retied : (next prev new_next new_prev : List ℕ) (slots : ℕ) (queues new : List (List ℕ)) (a b : ℕ) → IsTied next prev slots queues → Exchanges next prev new_next new_prev a b → a < length next → b < length next → length new ≡ length queues
    → ((queue : ℕ) → queue < length new → Leads new_next slots (slots + queue) (queue_of new queue) (slots + queue))
    → ((slot : ℕ) → slot < slots → times_in slot new ≡ 0 → slice_index new_next slot ≡ slot)
    → ((slot : ℕ) → times_in slot new ≤ 1)
    → IsTied new_next new_prev slots new
retied next prev new_next new_prev slots queues new a b tied x in_a in_b same rings alone once =
    let next_same = x.next_all in
    let below_a = tied.next_below a in_a in
    let below_b = tied.next_below b in_b in
    record {
      next_all = x.next_all ∙ tied.next_all ∙ ap (λ n. slots + n) (sym same);
      prev_all = x.prev_all ∙ tied.prev_all ∙ ap (λ n. slots + n) (sym same);
      next_below = λ node h. ⊎_elim
          (λ e. let is : slice_index new_next node ≡ slice_index next b = ap (slice_index new_next) e ∙ x.next_a in omega (arith, is, below_b, next_same))
          (λ r. ⊎_elim
          (λ e. let is : slice_index new_next node ≡ slice_index next a = ap (slice_index new_next) e ∙ x.next_b in omega (arith, is, below_a, next_same))
          (λ n. let is = x.next_else node n.0 n.1 in let old = tied.next_below node (omega (arith, h, next_same)) in omega (arith, is, old, next_same))
          r)
          (of_two node a b);
      prev_below = λ node h. ⊎_elim
          (λ e. let is : slice_index new_prev node ≡ a = ap (slice_index new_prev) e ∙ x.prev_a in omega (arith, is, in_a, next_same))
          (λ r. ⊎_elim
          (λ e. let is : slice_index new_prev node ≡ b = ap (slice_index new_prev) e ∙ x.prev_b in omega (arith, is, in_b, next_same))
          (λ n. let is = x.prev_else node n.0 n.1 in let old = tied.prev_below node (omega (arith, h, next_same)) in omega (arith, is, old, next_same))
          r)
          (of_two node (slice_index next b) (slice_index next a));
      back = λ node h. let within : node < length next = omega (arith, h, next_same) in ⊎_elim
          (λ e. ap (slice_index new_prev) (ap (slice_index new_next) e ∙ x.next_a) ∙ x.prev_a ∙ sym e)
          (λ r. ⊎_elim
          (λ e. ap (slice_index new_prev) (ap (slice_index new_next) e ∙ x.next_b) ∙ x.prev_b ∙ sym e)
          (λ n. ap (slice_index new_prev) (x.next_else node n.0 n.1)
          ∙ x.prev_else (slice_index next node) (λ e. n.1 (sym (tied.back node within) ∙ ap (slice_index prev) e ∙ tied.back b in_b)) (λ e. n.0 (sym (tied.back node within) ∙ ap (slice_index prev) e ∙ tied.back a in_a))
          ∙ tied.back node within)
          r)
          (of_two node a b);
      forth = λ node h. let within : node < length next = omega (arith, h, next_same) in ⊎_elim
          (λ e. ap (slice_index new_next) (ap (slice_index new_prev) e ∙ x.prev_a) ∙ x.next_a ∙ sym e)
          (λ r. ⊎_elim
          (λ e. ap (slice_index new_next) (ap (slice_index new_prev) e ∙ x.prev_b) ∙ x.next_b ∙ sym e)
          (λ n. ap (slice_index new_next) (x.prev_else node n.0 n.1)
          ∙ x.next_else (slice_index prev node) (λ e. n.1 (sym (tied.forth node within) ∙ ap (slice_index next) e)) (λ e. n.0 (sym (tied.forth node within) ∙ ap (slice_index next) e))
          ∙ tied.forth node within)
          r)
          (of_two node (slice_index next b) (slice_index next a));
      rings = rings;
      alone = alone;
      once = once;
    }

-- a node that isn't the slot, and that isn't followed by this node, is followed by what followed
-- it
abbrev pub Keeps : List ℕ → List ℕ → ℕ → ℕ → Type 0
Keeps next new slot to = (node : ℕ) → node ≢ slot → slice_index next node ≢ to → slice_index new node ≡ slice_index next node

tail_none : (slot x : ℕ) (rest : List ℕ) → times slot (x ∷ rest) ≡ 0 → times slot rest ≡ 0
tail_none slot x rest none = omega (arith, none)

kept : (next new : List ℕ) (slots slot to : ℕ) → Keeps next new slot to → ((x : ℕ) → x < slots → x ≢ slot → x ≢ to) → (from : ℕ) (waiting : List ℕ) (end : ℕ) → Leads next slots from waiting end → from ≢ slot → times slot waiting ≡ 0 → end ≢ to
    → Leads new slots from waiting end
kept next new slots slot to keeps other from [] end leads n none far = keeps from n (λ e. far (sym leads ∙ e)) ∙ leads
kept next new slots slot to keeps other from (x ∷ rest) end leads n none far =
    let apart = not_first slot x rest none in
    (keeps from n (λ e. other x leads.1.below apart (sym leads.0 ∙ e)) ∙ leads.0, leads.1, kept next new slots slot to keeps other x rest end leads.2 apart (tail_none slot x rest none) far)

-- a queue's ring, once the slot has left
after_it : (next new : List ℕ) (slots slot : ℕ) → Keeps next new slot slot → (from : ℕ) (rest : List ℕ) (end : ℕ) → slice_index new from ≡ slice_index next slot → Leads next slots slot rest end → times slot rest ≡ 0 → end ≢ slot → Leads new slots from rest end
after_it next new slots slot keeps from [] end is leads none far = is ∙ leads
after_it next new slots slot keeps from (x ∷ rest) end is leads none far =
    (is ∙ leads.0, leads.1, kept next new slots slot slot keeps (λ y below n. n) x rest end leads.2 (not_first slot x rest none) (tail_none slot x rest none) far)

-- what follows a node that was followed by this one
abbrev pub Skips : List ℕ → List ℕ → ℕ → ℕ → Type 0
Skips next new was is = (node : ℕ) → node < length next → slice_index next node ≡ was → slice_index new node ≡ is

left_at : (next new : List ℕ) (slots slot : ℕ) → Keeps next new slot slot → Skips next new slot (slice_index next slot) → (from x : ℕ) (rest : List ℕ) (end : ℕ) (b : Bool) → (x == slot) ≡ b → Leads next slots from (x ∷ rest) end → from < length next → from ≢ slot → times slot (x ∷ rest) ≤ 1 → end ≢ slot
    → (times slot rest ≤ 1 → x ≢ slot → Leads new slots x (others slot rest) end)
    → Leads new slots from (others slot (x ∷ rest)) end
left_at next new slots slot keeps skips from x rest end true e leads within n once far more =
    let is = eq_yes x slot e in
    let last : times slot rest ≡ 0 = let two = rw e at once in omega (arith, two) in
    rw e (after_it next new slots slot keeps from rest end (skips from within (leads.0 ∙ is)) (subst (λ (y : ℕ). Leads next slots y rest end) is leads.2) last far)
left_at next new slots slot keeps skips from x rest end false e leads within n once far more =
    let apart : x ≢ slot = λ same. let f : true ≡ false = sym (eq_self slot) ∙ ap (λ (y : ℕ). y == slot) (sym same) ∙ e in absurd (cc) in
    rw e (keeps from n (λ same. apart (sym leads.0 ∙ same)) ∙ leads.0, leads.1, more (omega (arith, once)) apart)

left : (next new : List ℕ) (slots slot : ℕ) → Keeps next new slot slot → Skips next new slot (slice_index next slot) → slots ≤ length next → (from : ℕ) (waiting : List ℕ) (end : ℕ) → Leads next slots from waiting end → from < length next → from ≢ slot → times slot waiting ≤ 1 → end ≢ slot
    → Leads new slots from (others slot waiting) end
left next new slots slot keeps skips room from [] end leads within n once far = keeps from n (λ e. far (sym leads ∙ e)) ∙ leads
left next new slots slot keeps skips room from (x ∷ rest) end leads within n once far =
    let below = leads.1.below in
    left_at next new slots slot keeps skips from x rest end (x == slot) refl leads within n once far (λ fewer apart. left next new slots slot keeps skips room x rest end leads.2 (omega (arith, below, room)) apart fewer far)

-- a queue's ring, once the slot has joined
joined : (next new : List ℕ) (slots slot end : ℕ) → Keeps next new slot end → Skips next new end slot → slice_index new slot ≡ end → IsSlot slots slot → slots ≤ end → slots ≤ length next → (from : ℕ) (waiting : List ℕ) → Leads next slots from waiting end → from < length next → from ≢ slot → times slot waiting ≡ 0
    → Leads new slots from (behind slot waiting) end
joined next new slots slot end keeps skips is own far room from [] leads within n none = (skips from within leads, own, is)
joined next new slots slot end keeps skips is own far room from (x ∷ rest) leads within n none =
    let below = leads.1.below in
    let apart = not_first slot x rest none in
    (keeps from n (λ e. let same : x ≡ end = sym leads.0 ∙ e in absurd (omega (arith, below, far, same))) ∙ leads.0, leads.1, joined next new slots slot end keeps skips is own far room x rest leads.2 (omega (arith, below, room)) apart (tail_none slot x rest none))

-- a slot has left all queues
pub tied_left : (next prev new_next new_prev : List ℕ) (slots : ℕ) (queues : List (List ℕ)) (slot : ℕ) → IsTied next prev slots queues → slot < slots → Exchanges next prev new_next new_prev (slice_index prev slot) slot → IsTied new_next new_prev slots (map (others slot) queues)
tied_left next prev new_next new_prev slots queues slot tied below x =
    let all = tied.next_all in
    let within : slot < length next = omega (arith, all, below) in
    let before = tied.forth slot within in
    let keeps : Keeps next new_next slot slot = λ node n m. x.next_else node (λ e. m (ap (slice_index next) e ∙ before)) n in
    let skips : Skips next new_next slot (slice_index next slot) = λ node h e. ap (slice_index new_next) (sym (tied.back node h) ∙ ap (slice_index prev) e) ∙ x.next_a in
    let long = length-map queues (others slot) in
    retied next prev new_next new_prev slots queues (map (others slot) queues) (slice_index prev slot) slot tied x (tied.prev_below slot within) within long
    (λ queue h. let there : queue < length queues = omega (arith, h, long) in
    rw (get_or-map (others slot) queues queue [] [] there)
    (left next new_next slots slot keeps skips (omega (arith, all)) (slots + queue) (queue_of queues queue) (slots + queue) (tied.rings queue there) (omega (arith, all, there)) (λ e. absurd (omega (arith, e, below)))
    (let a = times_in-le slot queues queue in let b = tied.once slot in omega (arith, a, b)) (λ e. absurd (omega (arith, e, below)))))
    (λ s small none. ⊎_elim
    (λ same. ap (slice_index new_next) same ∙ x.next_b ∙ before ∙ sym same)
    (λ apart. let alone = tied.alone s small (sym (sum_other slot s queues apart) ∙ none) in keeps s apart (λ e. apart (sym alone ∙ e)) ∙ alone)
    (cases_eq s slot))
    (λ s. let a = sum_fewer slot s queues in let b = tied.once s in omega (arith, a, b))

-- a slot has joined a queue
sum_joined : (slot s : ℕ) (queues : List (List ℕ)) (queue : ℕ) → queue < length queues → times_in s (set queues queue (behind slot (queue_of queues queue))) ≡ times_in s queues + one_of slot s
sum_joined slot s queues queue there =
    let e = times_in-set s queues queue (behind slot (queue_of queues queue)) there in
    let f = times_joined s slot (queue_of queues queue) in
    omega (arith, e, f)

pub tied_joined : (next prev new_next new_prev : List ℕ) (slots : ℕ) (queues : List (List ℕ)) (queue slot : ℕ) → IsTied next prev slots queues → queue < length queues → IsSlot slots slot → times_in slot queues ≡ 0 → Exchanges next prev new_next new_prev (slice_index prev (slots + queue)) slot
    → IsTied new_next new_prev slots (set queues queue (behind slot (queue_of queues queue)))
tied_joined next prev new_next new_prev slots queues queue slot tied there own none x =
    let all = tied.next_all in
    let below = own.below in
    let within : slot < length next = omega (arith, all, below) in
    let inside : slots + queue < length next = omega (arith, all, there) in
    let before = tied.forth (slots + queue) inside in
    let alone = tied.alone slot below none in
    let keeps : Keeps next new_next slot (slots + queue) = λ node n m. x.next_else node (λ e. m (ap (slice_index next) e ∙ before)) n in
    let skips : Skips next new_next (slots + queue) slot = λ node h e. ap (slice_index new_next) (sym (tied.back node h) ∙ ap (slice_index prev) e) ∙ x.next_a ∙ alone in
    let long = length-set queues queue (behind slot (queue_of queues queue)) in
    let nowhere : (q : ℕ) → times slot (queue_of queues q) ≡ 0 = λ q. let e = times_in-le slot queues q in omega (arith, e, none) in
    retied next prev new_next new_prev slots queues (set queues queue (behind slot (queue_of queues queue))) (slice_index prev (slots + queue)) slot tied x (tied.prev_below (slots + queue) inside) within long
    (λ q h. let has : q < length queues = omega (arith, h, long) in ⊎_elim
    (λ same. subst (λ (y : ℕ). Leads new_next slots (slots + y) (queue_of (set queues queue (behind slot (queue_of queues queue))) y) (slots + y)) (sym same)
    (rw (get_or-set_same queues queue (behind slot (queue_of queues queue)) [] there)
    (joined next new_next slots slot (slots + queue) keeps skips (x.next_b ∙ before) own (omega arith) (omega (arith, all)) (slots + queue) (queue_of queues queue) (tied.rings queue there) inside (λ e. absurd (omega (arith, e, below))) (nowhere queue))))
    (λ apart. rw (get_or-set_other queues queue q (behind slot (queue_of queues queue)) [] apart)
    (kept next new_next slots slot (slots + queue) keeps (λ y small n e. absurd (omega (arith, small, e))) (slots + q) (queue_of queues q) (slots + q) (tied.rings q has) (λ e. absurd (omega (arith, e, below))) (nowhere q) (λ e. apart (omega (arith, e)))))
    (cases_eq q queue))
    (λ s small zero_is. let e = sum_joined slot s queues queue there in ⊎_elim
    (λ same. let one = one_yes slot s same in absurd (omega (arith, e, one, zero_is)))
    (λ apart. let stays = tied.alone s small (omega (arith, e, zero_is)) in keeps s apart (λ t. absurd (omega (arith, small, t, stays))) ∙ stays)
    (cases_eq s slot))
    (λ s. let e = sum_joined slot s queues queue there in let f = tied.once s in ⊎_elim
    (λ same. let one = one_yes slot s same in let was : times_in s queues ≡ 0 = ap (λ (t : ℕ). times_in t queues) same ∙ none in omega (arith, e, one, was))
    (λ apart. let no = one_no slot s apart in omega (arith, e, f, no))
    (cases_eq s slot))

-- nobody waits where each node leads to itself
none_of : (count queue : ℕ) → queue_of (replicate count []) queue ≡ []
none_of zero queue = refl
none_of (suc count) zero = refl
none_of (suc count) (suc queue) = none_of count queue

pub tied_apart : (next prev : List ℕ) (slots count : ℕ) → IsApart (slots + count) next → IsApart (slots + count) prev → IsTied next prev slots (replicate count [])
tied_apart next prev slots count ahead before =
    let long = length-replicate {A = List ℕ} count [] in
    let all = ahead.all in
    record {
      next_all = omega (arith, all, long);
      prev_all = let other = before.all in omega (arith, other, long);
      next_below = λ node h. let e = ahead.alone node (omega (arith, h, all)) in omega (arith, e, h);
      prev_below = λ node h. let e = before.alone node (omega (arith, h, all)) in omega (arith, e, h);
      back = λ node h. ap (slice_index prev) (ahead.alone node (omega (arith, h, all))) ∙ before.alone node (omega (arith, h, all));
      forth = λ node h. ap (slice_index next) (before.alone node (omega (arith, h, all))) ∙ ahead.alone node (omega (arith, h, all));
      rings = λ queue h. rw (none_of count queue) (ahead.alone (slots + queue) (omega (arith, h, long)));
      alone = λ slot small none. ahead.alone slot (omega (arith, small));
      once = λ slot. let e = sum_empty slot count in omega (arith, e);
    }

-- the first of a queue follows its node
first_some : (next : List ℕ) (slots from : ℕ) (waiting : List ℕ) (to : ℕ) → Leads next slots from waiting to → slots ≤ to → slice_index next from < slots → (slice_get waiting 0 ≡ Some (slice_index next from)) × (slice_index next from < 2 ^ 16)
first_some next slots from [] to leads far below = absurd (omega (arith, leads, far, below))
first_some next slots from (x ∷ rest) to leads far below = let named = leads.1.named in let is = leads.0 in (ap Some (sym is), omega (arith, is, named))

first_none : (next : List ℕ) (slots from : ℕ) (waiting : List ℕ) (to : ℕ) → Leads next slots from waiting to → slots ≤ slice_index next from → slice_get waiting 0 ≡ None
first_none next slots from [] to leads past = refl
first_none next slots from (x ∷ rest) to leads past = let below = leads.1.below in let is = leads.0 in absurd (omega (arith, is, below, past))

-- what was read of a queue's node
read_at : (nodes next prev : List ℕ) (slots queue node : ℕ) → IsTied next prev slots (queues_in next slots) → length nodes ≡ length next → queue < length (queues_in next slots) → node ≡ get_or nodes (slots + queue) node → node ≡ slice_index nodes (slots + queue)
read_at nodes next prev slots queue node tied same there e = let all = tied.next_all in e ∙ get_or_default_zero nodes (slots + queue) node (omega (arith, all, same, there))

pub is_first : (next prev : List ℕ) (slots queue node : ℕ) → IsTied next prev slots (queues_in next slots) → queue < length (queues_in next slots) → node ≡ get_or next (slots + queue) node → node < slots → (slice_get (queue_of (queues_in next slots) queue) 0 ≡ Some node) × (node < 2 ^ 16)
is_first next prev slots queue node tied there e below =
    let is = read_at next next prev slots queue node tied refl there e in
    let found = first_some next slots (slots + queue) (queue_of (queues_in next slots) queue) (slots + queue) (tied.rings queue there) (omega arith) (omega (arith, is, below)) in
    (found.0 ∙ ap Some (sym is), let named = found.1 in omega (arith, is, named))

pub no_first : (next prev : List ℕ) (slots queue node : ℕ) → IsTied next prev slots (queues_in next slots) → queue < length (queues_in next slots) → node ≡ get_or next (slots + queue) node → slots ≤ node → slice_get (queue_of (queues_in next slots) queue) 0 ≡ None
no_first next prev slots queue node tied there e past =
    let is = read_at next next prev slots queue node tied refl there e in
    first_none next slots (slots + queue) (queue_of (queues_in next slots) queue) (slots + queue) (tied.rings queue there) (omega (arith, is, past))

-- as the rings show them
pub own : (next prev : List ℕ) (slots : ℕ) (queues : List (List ℕ)) → IsTied next prev slots queues → IsTied next prev slots (queues_in next slots)
own next prev slots queues tied = subst (IsTied next prev slots) (sym (shown next prev slots queues tied)) tied

-- the nodes after an exchange of two
pub record Written (next prev new_next new_prev : List ℕ) (a b : ℕ) : Type 0 where
  pub next_is : new_next ≡ set (set next a (slice_index next b)) b (slice_index next a)
  pub prev_is : new_prev ≡ set (set prev (slice_index next b) a) (slice_index next a) b

written : (next prev new_next new_prev : List ℕ) (slots : ℕ) (queues : List (List ℕ)) (a b : ℕ) → IsTied next prev slots queues → a < length next → b < length next → Written next prev new_next new_prev a b → Exchanges next prev new_next new_prev a b
written next prev new_next new_prev slots queues a b tied in_a in_b w = rw (w.next_is, w.prev_is) (exchanges next prev slots queues a b tied in_a in_b)

-- after a push
pub pushed : (next prev new_next new_prev : List ℕ) (slots queue slot last node : ℕ) → IsTied next prev slots (queues_in next slots) → queue < length (queues_in next slots) → slot < slots → slot < 2 ^ 16 → times_in slot (queues_in next slots) ≡ 0
    → last ≡ get_or prev (slots + queue) last → node ≡ slot → Written next prev new_next new_prev last node
    → IsTied new_next new_prev slots (set (queues_in next slots) queue (behind slot (queue_of (queues_in next slots) queue)))
pushed next prev new_next new_prev slots queue slot last node tied there below named none e same w =
    let all = tied.next_all in
    let is = read_at prev next prev slots queue last tied (tied.prev_all ∙ sym tied.next_all) there e in
    let made : Written next prev new_next new_prev (slice_index prev (slots + queue)) slot = subst (λ (a : ℕ). Written next prev new_next new_prev a slot) is (subst (λ (b : ℕ). Written next prev new_next new_prev last b) same w) in
    tied_joined next prev new_next new_prev slots (queues_in next slots) queue slot tied there (record { below = below; named = named }) none
    (written next prev new_next new_prev slots (queues_in next slots) (slice_index prev (slots + queue)) slot tied (tied.prev_below (slots + queue) (omega (arith, all, there))) (omega (arith, all, below)) made)

-- after a slot was removed
pub removed : (next prev new_next new_prev : List ℕ) (slots slot before node : ℕ) → IsTied next prev slots (queues_in next slots) → slot < slots → node ≡ slot → before ≡ get_or prev node before → Written next prev new_next new_prev before node
    → IsTied new_next new_prev slots (map (others slot) (queues_in next slots))
removed next prev new_next new_prev slots slot before node tied below same e w =
    let all = tied.next_all in
    let same_long : length prev ≡ length next = tied.prev_all ∙ sym tied.next_all in
    let is : before ≡ slice_index prev slot = e ∙ get_or_default_zero prev node before (omega (arith, all, same_long, below, same)) ∙ ap (slice_index prev) same in
    let made : Written next prev new_next new_prev (slice_index prev slot) slot = subst (λ (a : ℕ). Written next prev new_next new_prev a slot) is (subst (λ (b : ℕ). Written next prev new_next new_prev before b) same w) in
    tied_left next prev new_next new_prev slots (queues_in next slots) slot tied below
    (written next prev new_next new_prev slots (queues_in next slots) (slice_index prev slot) slot tied (tied.prev_below slot (omega (arith, all, below))) (omega (arith, all, below)) made)

-- two nodes that are one: nothing is written
unwritten : (next prev : List ℕ) (n : ℕ) → slice_index next n ≡ n → slice_index prev n ≡ n → Written next prev next prev n n
unwritten next prev n ahead behind =
    let kept : set prev n n ≡ prev = subst (λ (m : ℕ). set prev n m ≡ prev) behind (set-get_or prev n 0) in
    record {
      next_is = sym (ap (λ xs. set xs n (slice_index next n)) (set-get_or next n 0) ∙ set-get_or next n 0);
      prev_is = subst (λ (m : ℕ). prev ≡ set (set prev m n) m n) (sym ahead) (sym (ap (λ xs. set xs n n) kept ∙ kept));
    }

-- a slot that comes before itself waits nowhere
pub left_alone : (next prev : List ℕ) (slots slot before node : ℕ) → IsTied next prev slots (queues_in next slots) → slot < slots → node ≡ slot → before ≡ get_or prev node before → before ≡ node
    → map (others slot) (queues_in next slots) ≡ queues_in next slots
left_alone next prev slots slot before node tied below same e own_is =
    let all = tied.next_all in
    let same_long : length prev ≡ length next = tied.prev_all ∙ sym tied.next_all in
    let is : before ≡ slice_index prev node = e ∙ get_or_default_zero prev node before (omega (arith, all, same_long, below, same)) in
    let behind : slice_index prev node ≡ node = sym is ∙ own_is in
    let ahead : slice_index next node ≡ node = ap (slice_index next) (sym behind) ∙ tied.forth node (omega (arith, all, below, same)) in
    let tied_still = removed next prev next prev slots slot before node tied below same e (subst (λ (b : ℕ). Written next prev next prev b node) (sym own_is) (unwritten next prev node ahead behind)) in
    sym (shown next prev slots (map (others slot) (queues_in next slots)) tied_still)

-- after all nodes were parted
pub parted : (next prev new_next new_prev : List ℕ) (slots : ℕ) (queues : List (List ℕ)) → IsTied next prev slots queues → IsApart (length next) new_next → IsApart (length prev) new_prev → IsTied new_next new_prev slots (replicate (length queues) [])
parted next prev new_next new_prev slots queues tied a b =
    tied_apart new_next new_prev slots (length queues) (subst (λ (n : ℕ). IsApart n new_next) tied.next_all a) (subst (λ (n : ℕ). IsApart n new_prev) tied.prev_all b)
