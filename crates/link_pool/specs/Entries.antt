-- The places of one database with the streams that lie there (internal).
use Rattle.std.specs.Prelude.{ℕ, ◌≡◌, Bool, List, length, map, replicate, Option, None, Some, option_map, slice_get, slice_set}
use Rattle.lease.specs.LinkValue.{LinkValue}
use Rattle.lease.specs.declared.link_place.LinkPlace.{LinkPlace}
use Rattle.quarantine.specs.OpenTickets.{OpenTickets}
use Rattle.quarantine.specs.HoldStates.{state_of}
use Rattle.quarantine.specs.declared.hold.HoldState.{HoldState}
use Rattle.quarantine.specs.declared.hold.HoldState.TheVariants.{Clear, Waiting, Condemned}
use Rattle.link_pool.specs.declared.entry.Entry.{Entry}
use Rattle.link_pool.specs.declared.entry.Entry.TheVariants as entry
use Rattle.link_pool.specs.declared.place.Place.{Place}
use Rattle.link_pool.specs.declared.place.Place.TheVariants as place
use Rattle.link_pool.specs.declared.place.LinkState.TheVariants as state
use Rattle.link_pool.specs.declared.place.Claim.{Claim}
use Rattle.link_pool.specs.declared.place.Claim.TheVariants as claim
use Rattle.link_pool.specs.PoolStep.{is_idle, new_hold}
use Rattle.link_pool.specs.Pool.{DatabasePool, is_free}
use Rattle.link_pool.specs.Stacks.{put_on, all_places}

-- the place that an entry is in the view
abbrev pub place_of : {S : Type 0} → Entry S → Place
place_of entry.Free = place.Free
place_of (entry.Open permit slot) = place.Open permit slot
place_of (entry.Held details key hold slot) =
    place.Link record { details = details; key = key; state = state.Held slot; hold = hold }
place_of (entry.Idle link key) =
    place.Link record { details = link.details; key = key; state = state.Idle; hold = new_hold }
place_of (entry.Quarantined link key hold giver) =
    place.Link record {
      details = link.details;
      key = key;
      state = state.Quarantined giver;
      hold = hold;
    }

-- the stream that lies there
abbrev pub stream_of : {S : Type 0} → Entry S → Option S
stream_of entry.Free = None
stream_of (entry.Open permit slot) = None
stream_of (entry.Held details key hold slot) = None
stream_of (entry.Idle link key) = Some link.stream
stream_of (entry.Quarantined link key hold giver) = Some link.stream

-- what the client claims that has the place, or gave its link back, and nothing where there is none
abbrev pub claim_of : {S : Type 0} → LinkPlace → Entry S → Claim
claim_of at entry.Free = claim.Nothing
claim_of at (entry.Open permit slot) = claim.Open at
claim_of at (entry.Held details key hold slot) = claim.Link at
claim_of at (entry.Idle link key) = claim.Nothing
claim_of at (entry.Quarantined link key hold None) = claim.Nothing
claim_of at (entry.Quarantined link key hold (Some slot)) = claim.Gave at

-- whether an entry is an idle link
abbrev pub idle_entry : {S : Type 0} → Option (Entry S) → Bool
idle_entry o = is_idle (option_map place_of o)

-- whether an entry is free
abbrev pub free_entry : {S : Type 0} → Option (Entry S) → Bool
free_entry o = is_free (option_map place_of o)

-- a quarantined link, by how it stands by its tickets
abbrev pub settled_by : {S : Type 0}
    → HoldState → LinkValue S → List ℕ → OpenTickets → Option ℕ → Entry S
settled_by Clear link key hold giver = entry.Idle link key
settled_by (Waiting tickets) link key hold giver = entry.Quarantined link key hold giver
settled_by Condemned link key hold giver = entry.Free

-- an entry, once its link has these tickets
abbrev pub settled : {S : Type 0} → OpenTickets → Entry S → Entry S
settled hold entry.Free = entry.Free
settled hold (entry.Open permit slot) = entry.Open permit slot
settled hold (entry.Held details key had slot) = entry.Held details key hold slot
settled hold (entry.Idle link key) = entry.Idle link key
settled hold (entry.Quarantined link key had giver) = settled_by (state_of hold) link key hold giver

-- the stream of a link that leaves its place, as it stands by its tickets
abbrev pub leaving_by : {S : Type 0} → HoldState → S → Option S
leaving_by Clear stream = None
leaving_by (Waiting tickets) stream = None
leaving_by Condemned stream = Some stream

-- the stream of a link that leaves its place, once it has these tickets
abbrev pub leaving : {S : Type 0} → OpenTickets → Entry S → Option S
leaving hold entry.Free = None
leaving hold (entry.Open permit slot) = None
leaving hold (entry.Held details key had slot) = None
leaving hold (entry.Idle link key) = None
leaving hold (entry.Quarantined link key had giver) = leaving_by (state_of hold) link.stream

-- the link of an entry that no client has
abbrev pub stored_link : {S : Type 0} → Entry S → Option (LinkValue S)
stored_link entry.Free = None
stored_link (entry.Open permit slot) = None
stored_link (entry.Held details key hold slot) = None
stored_link (entry.Idle link key) = Some link
stored_link (entry.Quarantined link key hold giver) = Some link

-- the entry, once the client of the slot has got its link, if no client had it
abbrev pub lent : {S : Type 0} → ℕ → Entry S → Entry S
lent slot entry.Free = entry.Free
lent slot (entry.Open permit other) = entry.Open permit other
lent slot (entry.Held details key hold other) = entry.Held details key hold other
lent slot (entry.Idle link key) = entry.Held link.details key new_hold slot
lent slot (entry.Quarantined link key hold giver) = entry.Held link.details key hold slot

-- the entry, once the client has left that gave its link back
abbrev pub ungiven : {S : Type 0} → Entry S → Entry S
ungiven entry.Free = entry.Free
ungiven (entry.Open permit slot) = entry.Open permit slot
ungiven (entry.Held details key hold slot) = entry.Held details key hold slot
ungiven (entry.Idle link key) = entry.Idle link key
ungiven (entry.Quarantined link key hold giver) = entry.Quarantined link key hold None

-- a quarantined link is there
pub record IsQuarantined {S : Type 0} (o : Option (Entry S)) : Type 0 where
  pub link : LinkValue S
  pub key : List ℕ
  pub hold : OpenTickets
  pub giver : Option ℕ
  pub is : o ≡ Some (entry.Quarantined link key hold giver)

-- the entries of one database, and the stack of its free places
pub record Entries (S : Type 0) : Type 0 where
  pub entries : List (Entry S)
  pub free : List ℕ

-- with this at a place, and this done to the stack
abbrev pub put_at : {S : Type 0} → ℕ → Entry S → (List ℕ → List ℕ) → Entries S → Entries S
put_at index entry restack pool = record {
  entries = slice_set pool.entries index entry;
  free = restack pool.free;
}

-- with this at a place, which wasn't free
abbrev pub with_entry : {S : Type 0} → ℕ → Entry S → Entries S → Entries S
with_entry index entry pool = put_at index entry (put_on (free_entry (Some entry)) index) pool

-- an idle link is with the client of the slot from now on
pub record TakesIdle {S : Type 0} (slot : ℕ) (lease : LinkValue S)
    (old new : Entries S) : Type 0 where
  pub index : ℕ
  pub key : List ℕ
  pub was : slice_get old.entries index ≡ Some (entry.Idle lease key)
  pub after : new ≡ with_entry index (entry.Held lease.details key new_hold slot) old

-- the pool of the view
abbrev pub pool_in : {S : Type 0} → Entries S → DatabasePool
pool_in pool = record { places = map place_of pool.entries; free = pool.free }

-- the streams that lie in it
abbrev pub streams_in : {S : Type 0} → Entries S → List (Option S)
streams_in pool = map stream_of pool.entries

-- the entries of a pool of this size, all free
abbrev pub new_links : {S : Type 0} → ℕ → Entries S
new_links size = record { entries = replicate size entry.Free; free = all_places size }

-- with nothing at any place
abbrev pub freed : {S : Type 0} → Entries S → Entries S
freed pool = new_links (length pool.entries)
