-- What is true of new pools, and of pools that were emptied.
use Rattle.std.proofs.Common.{◌≡◌, ℕ, zero, suc, ◌<◌, ◌≤◌, ◌^◌, false, List, [], ◌∷◌, ◌++◌, Option, Some, None, length, get_or, map, option_map, replicate, take, drop, refl, ap, subst, sym, ◌∙◌, arith, ⊎_elim, ◌⊎◌, inl, inr, if◌then◌else◌}
use Rattle.std.proofs.Math.ListN.{set}
use Rattle.std.specs.List.{slice_get}
use Rattle.std.proofs.lemmas.List.{length-map, length-replicate}
use Rattle.std.proofs.lemmas.Option.{slice_get-map}
use Rattle.lease.specs.declared.link_place.LinkPlace.{LinkPlace}
use Rattle.link_pool.specs.declared.entry.Entry.TheVariants as entry
use Rattle.link_pool.specs.declared.place.Claim.{Claim}
use Rattle.link_pool.specs.declared.place.Claim.TheVariants as claim
use Rattle.link_pool.specs.declared.place.Place.{Place}
use Rattle.link_pool.specs.declared.place.Place.TheVariants as place
use Rattle.link_pool.specs.Pool.{DatabasePool, PoolView, place_in, place_at, is_free}
use Rattle.link_pool.specs.OnePlace.{Fits, has_link, has_permit, has_given, held_by, open_for, given_by, waits, link_number, permit_number, IsStacked, IsPool}
use Rattle.slot_queues.specs.Queues.{times, queue_of}
use Rattle.link_pool.specs.PoolStep.{empty_pool, empty_pools, emptied, fresh}
use Rattle.link_pool.specs.Entries.{Entries, place_of, stream_of, idle_entry, freed, new_links, pool_in, streams_in}
use Rattle.link_pool.specs.Streams.{stream_there, stored_in, NothingStored}
use Rattle.link_pool.specs.Stacks.{how_many, IsStack, all_places}
use Rattle.link_pool.proofs.Stacking.{all_stacked}

none_idle : (S : Type 0) (n : ℕ) → how_many (idle_entry {S = S}) (replicate n entry.Free) ≡ 0
none_idle S zero = refl
none_idle S (suc n) = let e = none_idle S n in omega (arith, e)

not_idle : (S : Type 0) (n i : ℕ) → idle_entry {S = S} (slice_get (replicate n entry.Free) i) ≡ false
not_idle S zero i = refl
not_idle S (suc n) zero = refl
not_idle S (suc n) (suc i) = not_idle S n i

-- nothing is listed where nothing is idle
pub none_listed_idle : (S : Type 0) (n : ℕ) → IsStack (idle_entry {S = S}) (replicate n entry.Free) []
none_listed_idle S n = record { once = λ i. sym (ap (λ b. if b then 1 else 0) (not_idle S n i)); counted = sym (none_idle S n) }

-- nothing else is there than this
abbrev pub NoOther : {X : Type 0} → X → Option X → Type 0
NoOther x o = (o ≡ None) ⊎ (o ≡ Some x)

in_replicate : {X : Type 0} (x : X) (n i : ℕ) → NoOther x (slice_get (replicate n x) i)
in_replicate x zero i = inl refl
in_replicate x (suc n) zero = inr refl
in_replicate x (suc n) (suc i) = in_replicate x n i

-- what doesn't tell it from none
alike : {X R : Type 0} (f : Option X → R) (x : X) (o : Option X) → f None ≡ f (Some x) → NoOther x o → f o ≡ f None
alike f x o e h = ⊎_elim (λ n. ap f n) (λ s. ap f s ∙ sym e) h

in_empty : {X : Type 0} (size : X → ℕ) (o : Option X) (i : ℕ) → NoOther place.Free (place_in (option_map (λ x. empty_pool (size x)) o) i)
in_empty size None i = inl refl
in_empty size (Some x) i = in_replicate place.Free (size x) i

none_waits : (s n d : ℕ) → times s (queue_of (replicate n []) d) ≡ 0
none_waits s zero d = refl
none_waits s (suc n) zero = refl
none_waits s (suc n) (suc d) = none_waits s n d

-- a new pool's stack has all places
stacked_empty : {X : Type 0} (size : X → ℕ) (o : Option X) → IsStacked (option_map (λ x. empty_pool (size x)) o)
stacked_empty size None = tt
stacked_empty size (Some x) = all_stacked is_free place.Free (size x) refl refl

-- pools with nothing at any place, for which nobody waits
whole_empty : {X : Type 0} (peer incarnation link permit ticket slots : ℕ) (size : X → ℕ) (xs : List X)
    → (link ≤ 2 ^ 64) × (permit ≤ 2 ^ 64) × (ticket ≤ 2 ^ 64) × (incarnation < 2 ^ 64)
    → IsPool (record { peer = peer; incarnation = incarnation; pools = map (λ x. empty_pool (size x)) xs; queues = replicate (length xs) []; claims = replicate slots claim.Nothing; next_link = link; next_permit = permit; next_ticket = ticket })
whole_empty peer incarnation link permit ticket slots size xs numbers =
    let pools : List DatabasePool = map (λ x. empty_pool (size x)) xs in
    let v : PoolView = record { peer = peer; incarnation = incarnation; pools = pools; queues = replicate (length xs) []; claims = replicate slots claim.Nothing; next_link = link; next_permit = permit; next_ticket = ticket } in
    let pool : (d : ℕ) → slice_get pools d ≡ option_map (λ x. empty_pool (size x)) (slice_get xs d) = λ d. slice_get-map (λ x. empty_pool (size x)) xs d in
    let free : (at : LinkPlace) → NoOther place.Free (place_at v at) = λ at. subst (λ o. NoOther place.Free (place_in o at.index)) (sym (pool at.database)) (in_empty size (slice_get xs at.database) at.index) in
    let none : (s : ℕ) → NoOther claim.Nothing (slice_get v.claims s) = λ s. in_replicate claim.Nothing slots s in
    record {
      fits = λ at. ⊎_elim (λ n. subst (Fits v at) (sym n) tt) (λ s. subst (Fits v at) (sym s) tt) (free at);
      links = λ s at. alike (has_link at) claim.Nothing (slice_get v.claims s) refl (none s) ∙ sym (alike (held_by s) place.Free (place_at v at) refl (free at));
      permits = λ s at. alike (has_permit at) claim.Nothing (slice_get v.claims s) refl (none s) ∙ sym (alike (open_for s) place.Free (place_at v at) refl (free at));
      given = λ s at. alike (has_given at) claim.Nothing (slice_get v.claims s) refl (none s) ∙ sym (alike (given_by s) place.Free (place_at v at) refl (free at));
      queues = λ s d. alike (waits d) claim.Nothing (slice_get v.claims s) refl (none s) ∙ sym (none_waits s (length xs) d);
      link_once = λ at other n h k. let e : None ≡ Some n = sym (alike link_number place.Free (place_at v at) refl (free at)) ∙ h in absurd (cc);
      permit_once = λ at other n h k. let e : None ≡ Some n = sym (alike permit_number place.Free (place_at v at) refl (free at)) ∙ h in absurd (cc);
      numbers = numbers;
      stacks = λ d. subst IsStacked (sym (pool d)) (stacked_empty size (slice_get xs d));
      beside = length-replicate {A = List ℕ} (length xs) [] ∙ sym (length-map xs (λ x. empty_pool (size x)));
    }

-- new pools
pub whole_fresh : (peer : ℕ) (sizes : List ℕ) (slots : ℕ) → IsPool (fresh peer sizes slots)
whole_fresh peer sizes slots = whole_empty peer 0 0 0 0 slots (λ size. size) sizes (omega arith, omega arith, omega arith, omega arith)

-- pools after a new start
pub whole_emptied : (v : PoolView) (next : ℕ) → IsPool v → next < 2 ^ 64 → IsPool (record v { incarnation = next; pools = emptied v.pools; queues = replicate (length v.queues) []; claims = replicate (length v.claims) claim.Nothing })
whole_emptied v next whole h = rw whole.beside (whole_empty v.peer next v.next_link v.next_permit v.next_ticket (length v.claims) (λ (pool : DatabasePool). length pool.places) v.pools (whole.numbers.0, whole.numbers.1, whole.numbers.2, h))

-- new entries, as the view sees them
places_free : (S : Type 0) (n : ℕ) → map (place_of {S = S}) (replicate n entry.Free) ≡ replicate n place.Free
places_free S zero = refl
places_free S (suc n) = ap (λ (ps : List Place). place.Free ∷ ps) (places_free S n)

new_pool_seen : (S : Type 0) (size : ℕ) → pool_in (new_links {S = S} size) ≡ empty_pool size
new_pool_seen S size = ap {B = DatabasePool} (λ (ps : List Place). record { places = ps; free = all_places size }) (places_free S size)

pub new_seen : (S : Type 0) (sizes : List ℕ) → map pool_in (map (new_links {S = S}) sizes) ≡ empty_pools sizes
new_seen S [] = refl
new_seen S (size ∷ sizes) =
    ap (λ (p : DatabasePool). p ∷ map pool_in (map (new_links {S = S}) sizes)) (new_pool_seen S size) ∙ ap (λ (ps : List DatabasePool). empty_pool size ∷ ps) (new_seen S sizes)

pub freed_seen : {S : Type 0} (pools : List (Entries S)) → map pool_in (map freed pools) ≡ emptied (map pool_in pools)
freed_seen [] = refl
freed_seen {S} (pool ∷ pools) =
    ap (λ (p : DatabasePool). p ∷ map pool_in (map freed pools)) (new_pool_seen S (length pool.entries) ∙ ap empty_pool (sym (length-map pool.entries place_of)))
    ∙ ap (λ (ps : List DatabasePool). empty_pool (length (map place_of pool.entries)) ∷ ps) (freed_seen pools)

-- no stream lies in them
streams_free : (S : Type 0) (n i : ℕ) → stream_there (slice_get (map (stream_of {S = S}) (replicate n entry.Free)) i) ≡ None
streams_free S zero i = refl
streams_free S (suc n) zero = refl
streams_free S (suc n) (suc i) = streams_free S n i

none_stored : {X : Type 0} (S : Type 0) (size : X → ℕ) (xs : List X) (d i : ℕ) → stored_in (slice_get (map streams_in (map (λ x. new_links {S = S} (size x)) xs)) d) i ≡ None
none_stored S size [] d i = refl
none_stored S size (x ∷ xs) zero i = streams_free S (size x) i
none_stored S size (x ∷ xs) (suc d) i = none_stored S size xs d i

pub new_stored : (S : Type 0) (sizes : List ℕ) → NothingStored (map streams_in (map (new_links {S = S}) sizes))
new_stored S sizes at = none_stored S (λ size. size) sizes at.database at.index

pub freed_stored : {S : Type 0} (pools : List (Entries S)) → NothingStored (map streams_in (map freed pools))
freed_stored {S} pools at = none_stored S (λ (pool : Entries S). length pool.entries) pools at.database at.index

-- the first items of a list are changed
pub get_mapped : {X : Type 0} (f : X → X) (old : List X) (i : ℕ) (d : X) → i < length old → get_or (map f (take i old) ++ drop i old) i d ≡ get_or old i d
get_mapped f [] i d h = absurd (omega arith)
get_mapped f (x ∷ xs) zero d h = refl
get_mapped f (x ∷ xs) (suc i) d h = get_mapped f xs i d (omega arith)

pub set_mapped : {X : Type 0} (f : X → X) (old : List X) (i : ℕ) (d : X) → i < length old → set (map f (take i old) ++ drop i old) i (f (get_or old i d)) ≡ map f (take (suc i) old) ++ drop (suc i) old
set_mapped f [] i d h = absurd (omega arith)
set_mapped f (x ∷ xs) zero d h = refl
set_mapped f (x ∷ xs) (suc i) d h = ap (λ ys. f x ∷ ys) (set_mapped f xs i d (omega arith))

pub set_nothing : (old : List Claim) (i : ℕ) → i < length old → set (replicate i claim.Nothing ++ drop i old) i claim.Nothing ≡ replicate (suc i) claim.Nothing ++ drop (suc i) old
set_nothing [] i h = absurd (omega arith)
set_nothing (c ∷ cs) zero h = refl
set_nothing (c ∷ cs) (suc i) h = ap (λ (qs : List Claim). claim.Nothing ∷ qs) (set_nothing cs i (omega arith))
