-- What the slab of a table says of its slots, and what each step keeps.
use Rattle.std.proofs.Common.{◌≡◌, ◌≢◌, ℕ, zero, suc, ◌-◌, ◌<◌, ◌≤◌, List, [], ◌∷◌, Option, Some, None, length, get_or, cond, nat_lt, is_some, count_by, ap, sym, subst, ◌∙◌, arith, length-set, ⊎_elim}
use Rattle.std.proofs.Math.ListN.{set, replicate}
use Rattle.std.specs.List.{slice_get}
use Rattle.std.proofs.lemmas.Bool.{cases_lt, cases_eq, lt-ltb, le-ltb, cond-true, cond-false}
use Rattle.std.proofs.lemmas.List.{get_or-set_same, get_or-set_other, length-replicate, get_or-replicate}
use Rattle.std.proofs.lemmas.List.FromFn.{length-map-range_with_len, get_or-map-range_with_len, fill_by_all}
use Rattle.std.proofs.lemmas.List.Sums.{sum_by-cons}
use Rattle.std.proofs.lemmas.Option.{slice_get-get_or, slice_get_within, slice_get_past, same_Some, none-some}
use Rattle.slab.specs.Slab.{Slab, get, slab_len, Updates}
use Rattle.pg_ids.specs.declared.any_key.AnyKey.{AnyKey}
use Rattle.key_table.specs.Slots.{IsNext, is_opened}
use Rattle.key_table.specs.Live.{slots_of, next_of, IsTable}
use Rattle.key_table.specs.declared.entry.Entry.{Entry}

-- there are as many slots as there is room for
pub length_slots : (s : Slab Entry) → length (slots_of s) ≡ s.capacity
length_slots s = length-map-range_with_len (get s) 0 s.capacity

-- each has what the slab has under its number
pub slot_at : (s : Slab Entry) (slot : ℕ) → slot < s.capacity → slice_get (slots_of s) slot ≡ Some (get s slot)
slot_at s slot within =
    let inside : slot < length (slots_of s) = omega (arith, length_slots s) in
    slice_get-get_or (slots_of s) slot None inside ∙ ap Some (get_or-map-range_with_len (get s) 0 s.capacity slot slot None within (omega arith))

-- what a slot has, the slab has
pub slab_at : (s : Slab Entry) (slot : ℕ) (x : Option Entry) → slice_get (slots_of s) slot ≡ Some x → get s slot ≡ x
slab_at s slot x found =
    let inside = slice_get_within (slots_of s) slot x found in
    same_Some (get s slot) x (sym (slot_at s slot (omega (arith, inside, length_slots s))) ∙ found)

-- a key opens a slot where it opens what the slab has there
pub opened_at : (s : Slab Entry) (slot : ℕ) (key : AnyKey) → IsTable s → is_opened (slice_get (slots_of s) slot) key ≡ is_opened (Some (get s slot)) key
opened_at s slot key kept = ⊎_elim
    (λ within. ap (λ (o : Option (Option Entry)). is_opened o key) (slot_at s slot within))
    (λ past. ap (λ (o : Option (Option Entry)). is_opened o key) (slice_get_past (slots_of s) slot (omega (arith, length_slots s))) ∙ sym (ap (λ (o : Option Entry). is_opened (Some o) key) (kept.none_past slot past)))
    (cases_lt slot s.capacity)

-- a slab with nothing: each slot is free
pub all_free : (s : Slab Entry) → s.slots ≡ [] → slots_of s ≡ replicate s.capacity None
all_free s none = sym (fill_by_all (get s) (replicate s.capacity None) s.capacity None (length-replicate s.capacity None) (λ key within. get_or-replicate s.capacity key None None within ∙ sym (ap (λ (slots : List (Option Entry)). get_or slots key None) none)))

-- a step that changes one slot
pub written : (old new : Slab Entry) (slot : ℕ) (x : Option Entry) → Updates old new slot x → new.capacity ≡ old.capacity → slots_of new ≡ set (slots_of old) slot x
written old new slot x updates same = sym (fill_by_all (get new) (set (slots_of old) slot x) new.capacity None (length-set (slots_of old) slot x ∙ length_slots old ∙ sym same) at)
  where
    at : (key : ℕ) → key < new.capacity → get_or (set (slots_of old) slot x) key None ≡ get new key
    at key within = ⊎_elim
        (λ (is : key ≡ slot). ap (λ (n : ℕ). get_or (set (slots_of old) slot x) n None) is ∙ get_or-set_same (slots_of old) slot x None (omega (arith, length_slots old)) ∙ sym updates.changed ∙ ap (get new) (sym is))
        (λ (other : key ≢ slot). get_or-set_other (slots_of old) slot key x None other ∙ get_or-map-range_with_len (get old) 0 old.capacity key key None (omega arith) (omega arith) ∙ sym (updates.others key other))
        (cases_eq key slot)

-- an entry under the next key, and then one under the key after, which is taken back
pub and_back : (old one two new : Slab Entry) (slot next : ℕ) (x y : Option Entry) → Updates old one slot x → Updates one two next y → Updates two new next None → get one next ≡ None → Updates old new slot x
and_back old one two new slot next x y first second back none =
    record { changed = same slot ∙ first.changed; others = λ key other. same key ∙ first.others key other }
  where
    same : (key : ℕ) → get new key ≡ get one key
    same key = ⊎_elim
        (λ (is : key ≡ next). ap (get new) is ∙ back.changed ∙ sym none ∙ ap (get one) (sym is))
        (λ (other : key ≢ next). back.others key other ∙ second.others key other)
        (cases_eq key next)

-- with no value from n on there are n values at most
few : (slots : List (Option Entry)) (n : ℕ) → ((key : ℕ) → n ≤ key → get_or slots key None ≡ None) → count_by is_some slots ≤ n
few [] n none = omega arith
few (None ∷ rest) n none =
    omega (arith, few rest (n - 1) (λ key past. none (suc key) (omega arith)), sum_by-cons (λ o. cond (is_some o) 1 0) None rest)
few (Some x ∷ rest) zero none = absurd (none-some x (sym (none 0 (omega arith))))
few (Some x ∷ rest) (suc n) none =
    omega (arith, few rest n (λ key past. none (suc key) (omega arith)), sum_by-cons (λ o. cond (is_some o) 1 0) (Some x) rest)

-- and where there are n, each place before has one
full : (slots : List (Option Entry)) (n key : ℕ) → ((key : ℕ) → n ≤ key → get_or slots key None ≡ None) → n ≤ count_by is_some slots → key < n → get_or slots key None ≢ None
full [] n key none many before found = omega arith
full (None ∷ rest) n key none many before found =
    omega (arith, few rest (n - 1) (λ key past. none (suc key) (omega arith)), sum_by-cons (λ o. cond (is_some o) 1 0) None rest)
full (Some x ∷ rest) n zero none many before found = none-some x (sym found)
full (Some x ∷ rest) n (suc key) none many before found =
    full rest (n - 1) key (λ key past. none (suc key) (omega arith)) (omega (arith, sum_by-cons (λ o. cond (is_some o) 1 0) (Some x) rest)) (omega arith) found

-- so no slot is free where no room is left
pub none_free : (s : Slab Entry) → IsTable s → s.capacity ≤ slab_len s → (slot : ℕ) → slice_get (slots_of s) slot ≢ Some None
none_free s kept no_room slot free =
    let inside = slice_get_within (slots_of s) slot None free in
    full s.slots s.capacity slot kept.none_past no_room (omega (arith, inside, length_slots s)) (slab_at s slot None free)

-- the slot that is given next is free, and there is none only where none is free
pub is_next : (s : Slab Entry) → IsTable s → IsNext (slots_of s) (next_of s)
is_next s kept = ⊎_elim
    (λ some. subst (IsNext (slots_of s)) (sym (cond-true (nat_lt (slab_len s) s.capacity) (Some s.vacant_key) None (lt-ltb (slab_len s) s.capacity some))) (slot_at s s.vacant_key (kept.within some) ∙ ap Some (kept.vacant some)))
    (λ no_room. subst (IsNext (slots_of s)) (sym (cond-false (nat_lt (slab_len s) s.capacity) (Some s.vacant_key) None (le-ltb (slab_len s) s.capacity no_room))) (none_free s kept no_room))
    (cases_lt (slab_len s) s.capacity)
