-- The slots of a node (own): for each slot in use the secret of its key and, if that is long, boot
-- and serial; and the slot that comes next, which is any free one. `opens`: a key has all that its
-- slot has. `names`: a key names a slot in use. `Issues` and `Frees` are the two changes.
use Rattle.std.specs.Prelude.{ℕ, ◌≡◌, ◌≢◌, ◌==◌, ◌&&◌, Bool, false, List, Option, Some, None, is_none, slice_get, slice_set}
use Rattle.pg_ids.specs.AnyKey.{any_key, short_of, peer_of, slot_of, long_part_of}
use Rattle.pg_ids.specs.declared.client_key.ClientKey.{ClientKey}
use Rattle.pg_ids.specs.declared.any_key.AnyKey.{AnyKey}
use Rattle.pg_ids.specs.declared.long_part.LongPart.{LongPart}
use Rattle.key_table.specs.declared.entry.Entry.{Entry}
use Rattle.key_table.specs.declared.entry.Entry.TheVariants.{Short, Long}

-- A pooler's number; by slot number, where the slot is live, its secret and, if its key is long,
-- the key's boot and serial; the slot that is given next.
pub record Slots : Type 0 where
  pub peer : ℕ
  pub entries : List (Option Entry)
  pub next : Option ℕ

-- the slot is free
abbrev pub IsFree : List (Option Entry) → ℕ → Type 0
IsFree entries slot = slice_get entries slot ≡ Some None

-- the slot is live
abbrev pub IsLive : Slots → ℕ → Type 0
IsLive t slot = (entry : Entry) × (slice_get t.entries slot ≡ Some (Some entry))

-- the next slot is any free slot, and none where none is free
abbrev pub IsNext : List (Option Entry) → Option ℕ → Type 0
IsNext entries None = (slot : ℕ) → slice_get entries slot ≢ Some None
IsNext entries (Some slot) = IsFree entries slot

-- the entry of a slot with this secret and, if its key is long, this part
abbrev pub entry_of : ℕ → Option LongPart → Entry
entry_of secret None = Short secret
entry_of secret (Some part) = Long secret part.boot part.serial

-- whether a key has this boot and this serial
abbrev pub has_part : ℕ → ℕ → Option LongPart → Bool
has_part boot serial None = false
has_part boot serial (Some part) = (boot == part.boot) && (serial == part.serial)

-- whether a key is of the slot's kind, with its secret and, if it is long, its boot and serial
abbrev pub opens : Entry → AnyKey → Bool
opens (Short secret) key = (secret == (short_of key).secret) && is_none (long_part_of key)
opens (Long secret boot serial) key =
    (secret == (short_of key).secret) && has_part boot serial (long_part_of key)

-- a place of the table is live, and the key opens it
abbrev pub is_opened : Option (Option Entry) → AnyKey → Bool
is_opened None key = false
is_opened (Some None) key = false
is_opened (Some (Some entry)) key = opens entry key

-- whether the key names a live slot: the peer is the table's, the slot live, and the key opens it
abbrev pub names : Slots → AnyKey → Bool
names t key =
    (peer_of key == t.peer) && is_opened (slice_get t.entries (slot_of key)) key

-- the first eight bytes of a slot's key, with all its hops
abbrev pub first_key : ℕ → ℕ → ℕ → ClientKey
first_key peer slot secret = record { peer = peer; slot = slot; secret = secret; hops = 3 }

-- from old, a client is given this key with this secret and, if it is long, this part: the next
-- slot becomes live, and no other changes
pub record Issues (old : Slots) (secret : ℕ) (long : Option LongPart) (issued : AnyKey)
    (new : Slots) : Type 0 where
  pub slot : old.next ≡ Some (slot_of issued)
  pub key : issued ≡ any_key (first_key old.peer (slot_of issued) secret) long
  pub entries : new.entries ≡ slice_set old.entries (slot_of issued) (Some (entry_of secret long))
  pub peer : new.peer ≡ old.peer

-- from old, a slot is freed, and no other changes
pub record Frees (old : Slots) (slot : ℕ) (new : Slots) : Type 0 where
  pub entries : new.entries ≡ slice_set old.entries slot None
  pub peer : new.peer ≡ old.peer
