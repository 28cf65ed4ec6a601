-- What is at a place: as an entry, and in the view.
use Rattle.std.proofs.Common.{◌≡◌, ◌≢◌, true, false, List, Option, Some, None, IfNone, is_some, ℕ, map, option_map, length, get_or, ◌<◌, arith, refl, ap, sym, ◌∙◌, ⊎_elim}
use Rattle.std.proofs.Math.ListN.{set}
use Rattle.std.specs.List.{slice_get, slice_set}
use Rattle.std.proofs.lemmas.Option.{slice_get_within, slice_get-map, same_Some}
use Rattle.std.proofs.lemmas.Bool.{cases_eq}
use Rattle.std.proofs.lemmas.List.{map-set, length-map}
use Rattle.lease.specs.declared.link_place.LinkPlace.{LinkPlace}
use Rattle.link_pool.specs.Pool.{DatabasePool, at_place, place_in, is_free, changed}
use Rattle.link_pool.specs.Stacks.{put_on}
use Rattle.link_pool.specs.Streams.{stream_there, stored_in, stored_at, has_stream, Moves}
use Rattle.link_pool.proofs.Places.{slice_get-set_same, slice_get-set_other, set_same}
use Rattle.link_pool.proofs.Changes.{changed_here, changed_there, changed_is_set, wrote, was_read, one_place}
use Rattle.link_pool.specs.declared.entry.Entry.{Entry}
use Rattle.link_pool.specs.declared.entry.Entry.TheVariants as entry
use Rattle.link_pool.specs.declared.place.Place.{Place}
use Rattle.link_pool.specs.declared.place.Place.TheVariants as place
use Rattle.link_pool.specs.Entries.{Entries, place_of, stream_of, idle_entry, free_entry, pool_in, streams_in, put_at, with_entry}
use Rattle.link_pool.specs.PoolOf.{pool_of}
use Rattle.link_pool.specs.PoolStep.{is_idle, StaleLease}
use Rattle.link_pool.specs.Parts.{is_taken, Stores, IsStaleIn}
use Rattle.link_pool.specs.declared.pool.Pool.TheInside.{Inside}
use Rattle.lease.specs.declared.link_record.LinkRecord.{LinkRecord}
use Rattle.lease.specs.LinkValue.{LinkValue}

-- what is free in the view is free
pub free_is : {S : Type 0} (o : Option (Entry S)) → option_map place_of o ≡ Some place.Free → o ≡ Some entry.Free
free_is None h = absurd (cc)
free_is (Some entry.Free) h = refl
free_is (Some (entry.Open permit slot)) h = absurd (cc)
free_is (Some (entry.Held details key hold slot)) h = absurd (cc)
free_is (Some (entry.Idle link key)) h = absurd (cc)
free_is (Some (entry.Quarantined link key hold giver)) h = absurd (cc)

-- a place that a client has: no stream lies there
pub record IsTakenEntry {S : Type 0} (o : Option (Entry S)) : Type 0 where
  pub was : Entry S
  pub is : o ≡ Some was
  pub not_idle : idle_entry (Some was) ≡ false
  pub not_free : free_entry (Some was) ≡ false
  pub no_stream : stream_of was ≡ None

pub taken_entry : {S : Type 0} (o : Option (Entry S)) → is_taken (option_map place_of o) ≡ true → IsTakenEntry o
taken_entry None h = absurd (cc)
taken_entry (Some entry.Free) h = absurd (cc)
taken_entry (Some (entry.Open permit slot)) h = record { was = entry.Open permit slot; is = refl; not_idle = refl; not_free = refl; no_stream = refl }
taken_entry (Some (entry.Held details key hold slot)) h = record { was = entry.Held details key hold slot; is = refl; not_idle = refl; not_free = refl; no_stream = refl }
taken_entry (Some (entry.Idle link key)) h = absurd (cc)
taken_entry (Some (entry.Quarantined link key hold giver)) h = absurd (cc)

-- an idle link
pub record IsIdleEntry {S : Type 0} (o : Option (Entry S)) : Type 0 where
  pub link : LinkValue S
  pub key : List ℕ
  pub is : o ≡ Some (entry.Idle link key)

pub idle_one : {S : Type 0} (o : Option (Entry S)) → idle_entry o ≡ true → IsIdleEntry o
idle_one None h = absurd (cc)
idle_one (Some entry.Free) h = absurd (cc)
idle_one (Some (entry.Open permit slot)) h = absurd (cc)
idle_one (Some (entry.Held details key hold slot)) h = absurd (cc)
idle_one (Some (entry.Idle link key)) h = record { link = link; key = key; is = refl }
idle_one (Some (entry.Quarantined link key hold giver)) h = absurd (cc)

pub free_one : {S : Type 0} (o : Option (Entry S)) → free_entry o ≡ true → o ≡ Some entry.Free
free_one (Some entry.Free) h = refl
free_one o h = absurd (cc)

-- what is at a place of the pools
abbrev pub entry_in : {S : Type 0} → Option (Entries S) → ℕ → Option (Entry S)
entry_in None index = None
entry_in (Some pool) index = slice_get pool.entries index

abbrev pub entry_at : {S : Type 0} → List (Entries S) → LinkPlace → Option (Entry S)
entry_at pools at = entry_in (slice_get pools at.database) at.index

place_inside : {S : Type 0} (o : Option (Entries S)) (i : ℕ) → place_in (option_map pool_in o) i ≡ option_map place_of (entry_in o i)
place_inside None i = refl
place_inside (Some pool) i = slice_get-map place_of pool.entries i

stored_inside : {S : Type 0} (o : Option (Entries S)) (i : ℕ) → stored_in (option_map streams_in o) i ≡ stream_there (option_map stream_of (entry_in o i))
stored_inside None i = refl
stored_inside (Some pool) i = ap stream_there (slice_get-map stream_of pool.entries i)

-- as the view sees it
pub seen_at : {S : Type 0} (pools : List (Entries S)) (at : LinkPlace) → place_in (slice_get (map pool_in pools) at.database) at.index ≡ option_map place_of (entry_at pools at)
seen_at pools at = ap (λ o. place_in o at.index) (slice_get-map pool_in pools at.database) ∙ place_inside (slice_get pools at.database) at.index

pub stored_by : {S : Type 0} (pools : List (Entries S)) (at : LinkPlace) → stored_at (map streams_in pools) at ≡ stream_there (option_map stream_of (entry_at pools at))
stored_by pools at = ap (λ o. stored_in o at.index) (slice_get-map streams_in pools at.database) ∙ stored_inside (slice_get pools at.database) at.index

has_its_stream : {S : Type 0} (o : Option (Entry S)) → is_some (stream_there (option_map stream_of o)) ≡ has_stream (option_map place_of o)
has_its_stream None = refl
has_its_stream (Some entry.Free) = refl
has_its_stream (Some (entry.Open permit slot)) = refl
has_its_stream (Some (entry.Held details key hold slot)) = refl
has_its_stream (Some (entry.Idle link key)) = refl
has_its_stream (Some (entry.Quarantined link key hold giver)) = refl

-- a stream lies exactly where a link is idle or quarantined
pub are_stored : {S : Type 0} (pools : List (Entries S)) (at : LinkPlace) → is_some (stored_at (map streams_in pools) at) ≡ has_stream (place_in (slice_get (map pool_in pools) at.database) at.index)
are_stored pools at = ap is_some (stored_by pools at) ∙ has_its_stream (entry_at pools at) ∙ ap has_stream (sym (seen_at pools at))

-- the streams with this at a place
abbrev pub with_stream : {S : Type 0} → List (List (Option S)) → LinkPlace → Option S → List (List (Option S))
with_stream rows at stream = changed rows at.database (λ row. slice_set row at.index stream)

abbrev stored_row : {S : Type 0} → Option (List (Option S)) → ℕ → Option (Option S)
stored_row None index = None
stored_row (Some row) index = slice_get row index

row_inside : {S : Type 0} (o : Option (Entries S)) (i : ℕ) (was : Entry S) → entry_in o i ≡ Some was → stored_row (option_map streams_in o) i ≡ Some (stream_of was)
row_inside None i was h = absurd (cc)
row_inside (Some pool) i was h = slice_get-map stream_of pool.entries i ∙ ap (option_map stream_of) h

here : {S : Type 0} (o : Option (List (Option S))) (i : ℕ) (was stream : Option S) → stored_row o i ≡ Some was → stored_in (option_map (λ row. set row i stream) o) i ≡ stream
here None i was stream h = absurd (cc)
here (Some row) i was stream h = ap stream_there (slice_get-set_same row i stream (slice_get_within row i was h))

beside : {S : Type 0} (o : Option (List (Option S))) (i j : ℕ) (stream : Option S) → j ≢ i → stored_in (option_map (λ row. set row i stream) o) j ≡ stored_in o j
beside None i j stream n = refl
beside (Some row) i j stream n = ap stream_there (slice_get-set_other row i j stream n)

there : {S : Type 0} (rows : List (List (Option S))) (at other : LinkPlace) (stream : Option S) → other ≢ at → stored_at (with_stream rows at stream) other ≡ stored_at rows other
there rows at other stream n = ⊎_elim
    (λ same. ap (λ (d : ℕ). stored_in (slice_get (with_stream rows at stream) d) other.index) same
    ∙ ap (λ o. stored_in o other.index) (changed_here rows at.database _)
    ∙ beside (slice_get rows at.database) at.index other.index stream (λ e. n (one_place other at same e))
    ∙ ap (λ (d : ℕ). stored_in (slice_get rows d) other.index) (sym same))
    (λ apart. ap (λ o. stored_in o other.index) (changed_there rows at.database other.database _ apart))
    (cases_eq other.database at.database)

-- where an entry is, a stream can be
row_at : {S : Type 0} (pools : List (Entries S)) (at : LinkPlace) (was : Entry S) → entry_at pools at ≡ Some was → stored_row (slice_get (map streams_in pools) at.database) at.index ≡ Some (stream_of was)
row_at pools at was h = ap (λ o. stored_row o at.index) (slice_get-map streams_in pools at.database) ∙ row_inside (slice_get pools at.database) at.index was h

-- one entry has changed: its stream moves, and no other
pub moves : {S : Type 0} (pools : List (Entries S)) (at : LinkPlace) (was : Entry S) (stream : Option S) → entry_at pools at ≡ Some was → Moves at (stream_of was) stream (map streams_in pools) (with_stream (map streams_in pools) at stream)
moves pools at was stream h = record {
  before = stored_by pools at ∙ ap (λ o. stream_there (option_map stream_of o)) h;
  after = ap (λ o. stored_in o at.index) (changed_here (map streams_in pools) at.database _) ∙ here (slice_get (map streams_in pools) at.database) at.index (stream_of was) stream (row_at pools at was h);
  elsewhere = λ other n. there (map streams_in pools) at other stream n;
}

same_in_row : {S : Type 0} (o : Option (List (Option S))) (rows : List (List (Option S))) (at : LinkPlace) (stream : Option S) → slice_get rows at.database ≡ o → stored_row o at.index ≡ Some stream → with_stream rows at stream ≡ rows
same_in_row None rows at stream e h = absurd (cc)
same_in_row (Some row) rows at stream e h =
    changed_is_set rows at.database row (λ r. set r at.index stream) e ∙ set_same rows at.database (set row at.index stream) (e ∙ ap Some (sym (set_same row at.index stream h)))

-- the same stream, or none as before
pub stays : {S : Type 0} (pools : List (Entries S)) (at : LinkPlace) (was : Entry S) (stream : Option S) → entry_at pools at ≡ Some was → stream_of was ≡ stream → with_stream (map streams_in pools) at stream ≡ map streams_in pools
stays pools at was stream h e = same_in_row (slice_get (map streams_in pools) at.database) (map streams_in pools) at stream refl (row_at pools at was h ∙ ap Some e)

-- a write of one entry, as the view sees it
pub wrote_placed : {S : Type 0} (pools : List (Entries S)) (at : LinkPlace) (n : ℕ) (pool new : Entries S) (e : Entry S) (f : List ℕ → List ℕ) → n ≡ at.database → slice_get pools at.database ≡ Some pool → new ≡ put_at at.index e f pool
    → map pool_in (set pools n new) ≡ changed (map pool_in pools) at.database (λ q. at_place q at.index (place_of e) f)
wrote_placed pools at n pool new e f same is made = wrote pool_in (put_at at.index e f) (λ q. at_place q at.index (place_of e) f)
    (λ p. ap {B = DatabasePool} (λ (ps : List Place). record { places = ps; free = f p.free }) (map-set place_of p.entries at.index e)) pools n at.database pool new same is made

pub wrote_streamed : {S : Type 0} (pools : List (Entries S)) (at : LinkPlace) (n : ℕ) (pool new : Entries S) (e : Entry S) (f : List ℕ → List ℕ) → n ≡ at.database → slice_get pools at.database ≡ Some pool → new ≡ put_at at.index e f pool
    → map streams_in (set pools n new) ≡ with_stream (map streams_in pools) at (stream_of e)
wrote_streamed pools at n pool new e f same is made = wrote streams_in (put_at at.index e f) (λ row. set row at.index (stream_of e)) (λ p. map-set stream_of p.entries at.index e) pools n at.database pool new same is made

-- where it wasn't free
pub wrote_place : {S : Type 0} (pools : List (Entries S)) (at : LinkPlace) (n : ℕ) (pool new : Entries S) (e : Entry S) → n ≡ at.database → slice_get pools at.database ≡ Some pool → new ≡ with_entry at.index e pool
    → map pool_in (set pools n new) ≡ changed (map pool_in pools) at.database (λ q. at_place q at.index (place_of e) (put_on (is_free (Some (place_of e))) at.index))
wrote_place pools at n pool new e same is made = wrote_placed pools at n pool new e (put_on (is_free (Some (place_of e))) at.index) same is made

pub wrote_stream : {S : Type 0} (pools : List (Entries S)) (at : LinkPlace) (n : ℕ) (pool new : Entries S) (e : Entry S) → n ≡ at.database → slice_get pools at.database ≡ Some pool → new ≡ with_entry at.index e pool → map streams_in (set pools n new) ≡ with_stream (map streams_in pools) at (stream_of e)
wrote_stream pools at n pool new e same is made = wrote_streamed pools at n pool new e (put_on (is_free (Some (place_of e))) at.index) same is made

-- a place of the view, as an entry
pub record IsEntry {S : Type 0} (o : Option (Entry S)) (p : Place) : Type 0 where
  pub was : Entry S
  pub is : o ≡ Some was
  pub same : place_of was ≡ p

entry_of : {S : Type 0} (o : Option (Entry S)) (p : Place) → option_map place_of o ≡ Some p → IsEntry o p
entry_of None p h = absurd (cc)
entry_of (Some e) p h = record { was = e; is = refl; same = same_Some (place_of e) p h }

pub entry_seen : {S : Type 0} (pools : List (Entries S)) (at : LinkPlace) (p : Place) → place_in (slice_get (map pool_in pools) at.database) at.index ≡ Some p → IsEntry (entry_at pools at) p
entry_seen pools at p h = entry_of (entry_at pools at) p (sym (seen_at pools at) ∙ h)

pub free_seen : {S : Type 0} (pools : List (Entries S)) (at : LinkPlace) → place_in (slice_get (map pool_in pools) at.database) at.index ≡ Some place.Free → entry_at pools at ≡ Some entry.Free
free_seen pools at h = free_is (entry_at pools at) (sym (seen_at pools at) ∙ h)

pub taken_seen : {S : Type 0} (pools : List (Entries S)) (at : LinkPlace) → is_taken (place_in (slice_get (map pool_in pools) at.database) at.index) ≡ true → IsTakenEntry (entry_at pools at)
taken_seen pools at h = taken_entry (entry_at pools at) (ap is_taken (sym (seen_at pools at)) ∙ h)

-- an entry is in a pool that there is
pool_inside : {S : Type 0} (o : Option (Entries S)) (i : ℕ) (was : Entry S) → entry_in o i ≡ Some was → (pool : Entries S) × (o ≡ Some pool)
pool_inside None i was h = absurd (cc)
pool_inside (Some pool) i was h = (pool, refl)

pub pool_within : {S : Type 0} (pools : List (Entries S)) (at : LinkPlace) (was : Entry S) → entry_at pools at ≡ Some was → at.database < length pools
pool_within pools at was h = let pool = pool_inside (slice_get pools at.database) at.index was h in slice_get_within pools at.database pool.0 pool.1

-- the entry in the pool that was read
pub read_entry : {S : Type 0} (pools : List (Entries S)) (at : LinkPlace) (pool : Entries S) (was : Entry S) → slice_get pools at.database ≡ Some pool → entry_at pools at ≡ Some was → slice_get pool.entries at.index ≡ Some was
read_entry pools at pool was there h = ap (λ o. entry_in o at.index) (sym there) ∙ h

-- where no stream lay, one is stored, or none
pub stores : {S : Type 0} (pools : List (Entries S)) (at : LinkPlace) (was : Entry S) (stream : Option S) → entry_at pools at ≡ Some was → stream_of was ≡ None → Stores at stream (map streams_in pools) (with_stream (map streams_in pools) at stream)
stores pools at was None h none = stays pools at was None h none
stores pools at was (Some stream) h none = let moved = moves pools at was (Some stream) h in record { before = moved.before ∙ none; after = moved.after; elsewhere = moved.elsewhere }

-- an entry, as the view sees it
pub seen : {S : Type 0} (pools : List (Entries S)) (at : LinkPlace) (pool : Entries S) (e : Entry S) → slice_get pools at.database ≡ Some pool → slice_get pool.entries at.index ≡ Some e → place_in (slice_get (map pool_in pools) at.database) at.index ≡ Some (place_of e)
seen pools at pool e there is = seen_at pools at ∙ ap (option_map place_of) (ap (λ o. entry_in o at.index) there ∙ is)

pub not_free_at : {S : Type 0} (pools : List (Entries S)) (at : LinkPlace) (pool : Entries S) → slice_get pools at.database ≡ Some pool → free_entry (slice_get pool.entries at.index) ≡ false → place_in (slice_get (map pool_in pools) at.database) at.index ≢ Some place.Free
not_free_at pools at pool there not h =
    let yes : free_entry (slice_get pool.entries at.index) ≡ true = ap is_free (sym (seen_at pools at ∙ ap (option_map place_of) (ap (λ o. entry_in o at.index) there)) ∙ h) in
    absurd (cc)

pub not_idle_at : {S : Type 0} (pools : List (Entries S)) (at : LinkPlace) (pool : Entries S) → slice_get pools at.database ≡ Some pool → idle_entry (slice_get pool.entries at.index) ≡ false → is_idle (place_in (slice_get (map pool_in pools) at.database) at.index) ≡ false
not_idle_at pools at pool there not = ap is_idle (seen_at pools at ∙ ap (option_map place_of) (ap (λ o. entry_in o at.index) there)) ∙ not

pub idle_at : {S : Type 0} (pools : List (Entries S)) (at : LinkPlace) (pool : Entries S) → slice_get pools at.database ≡ Some pool → idle_entry (slice_get pool.entries at.index) ≡ true → is_idle (place_in (slice_get (map pool_in pools) at.database) at.index) ≡ true
idle_at pools at pool there is = ap is_idle (seen_at pools at ∙ ap (option_map place_of) (ap (λ o. entry_in o at.index) there)) ∙ is

pub pool_seen : {S : Type 0} (pools : List (Entries S)) (d : ℕ) (pool : Entries S) → slice_get pools d ≡ Some pool → slice_get (map pool_in pools) d ≡ Some (pool_in pool)
pool_seen pools d pool there = slice_get-map pool_in pools d ∙ ap (option_map pool_in) there

-- the pool that was read of a database that there is
pub read_pool : {S : Type 0} (pools : List (Entries S)) (d n : ℕ) (pool : Entries S) → n ≡ d → d < length (map pool_in pools) → pool ≡ get_or pools n pool → slice_get pools d ≡ Some pool
read_pool pools d n pool same within read = let long = length-map pools pool_in in was_read pools n d pool same (omega (arith, same, within, long)) read

-- and of a place that there is
pub read_at : {S : Type 0} (pools : List (Entries S)) (at : LinkPlace) (n : ℕ) (pool : Entries S) (was : Entry S) → n ≡ at.database → entry_at pools at ≡ Some was → pool ≡ get_or pools n pool → slice_get pools at.database ≡ Some pool
read_at pools at n pool was same is read = let within = pool_within pools at was is in was_read pools n at.database pool same (omega (arith, same, within)) read

-- a lease that is stale in its place is stale
pub stale_seen : {S X : Type 0} (p : Inside S) (lease : LinkRecord) (pool : Entries S) (o : Option X) → slice_get p.pools.items lease.at.database ≡ Some pool
    → IfNone o (IsStaleIn lease (option_map place_of (slice_get pool.entries lease.at.index))) → IfNone o (StaleLease lease (pool_of p).view)
stale_seen p lease pool (Some x) there stale = tt
stale_seen p lease pool None there stale = λ link slot is. stale link slot (record {
  there = sym (seen_at p.pools.items lease.at ∙ ap (option_map place_of) (ap (λ o. entry_in o lease.at.index) there)) ∙ is.at;
  says = is.says;
  held = is.held;
})
