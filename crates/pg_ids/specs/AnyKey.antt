-- Cancel keys of both kinds (own layout; PostgreSQL manual, "Canceling Requests in Progress": the
-- secret key of protocol 3.2 may be longer than four bytes). A short key has eight bytes; a long
-- one has the pooler's boot number and a serial behind them, eight bytes each. `any_bytes` are the
-- bytes of a key, `any_identity_of` its identity, `any_lowered` the key with one hop fewer.
use Rattle.std.specs.Prelude.{ℕ, ◌^◌, ◌<◌, List, ◌++◌, Option, Some, None}
use Rattle.byteorder.specs.Endian.{big_bytes}
use Rattle.pg_ids.specs.Key.{IsKey, key_bytes, identity_of, lowered}
use Rattle.pg_ids.specs.declared.client_key.ClientKey.{ClientKey}
use Rattle.pg_ids.specs.declared.long_part.LongPart.{LongPart}
use Rattle.pg_ids.specs.declared.any_key.AnyKey.{AnyKey}
use Rattle.pg_ids.specs.declared.any_key.AnyKey.TheVariants.{Short, Long}
use Rattle.pg_ids.specs.declared.any_key.Kind.{Kind}
use Rattle.pg_ids.specs.declared.any_key.Kind.TheVariants as kind
use Rattle.pg_ids.specs.declared.any_key.KeyBytes.{KeyBytes}
use Rattle.pg_ids.specs.declared.any_key.KeyBytes.TheVariants as bytes
use Rattle.pg_ids.specs.declared.any_key.Identity.{Identity}
use Rattle.pg_ids.specs.declared.any_key.Identity.TheVariants as identity

-- both numbers of a long key's part are in their range
pub record IsLongPart (part : LongPart) : Type 0 where
  pub boot : part.boot < 2 ^ 64
  pub serial : part.serial < 2 ^ 64

-- its sixteen bytes: both numbers, big-endian
abbrev pub long_part_bytes : LongPart → List ℕ
long_part_bytes part = big_bytes 8 part.boot ++ big_bytes 8 part.serial

-- each number of the key is in its range
abbrev pub IsAnyKey : AnyKey → Type 0
IsAnyKey (Short key) = IsKey key
IsAnyKey (Long key part) = IsKey key × IsLongPart part

-- the key of a short one and, if it is long, its part
abbrev pub any_key : ClientKey → Option LongPart → AnyKey
any_key key None = Short key
any_key key (Some part) = Long key part

-- the bytes of a key: a long key's begin as a short one's
abbrev pub any_bytes : AnyKey → KeyBytes
any_bytes (Short key) = bytes.Short (key_bytes key)
any_bytes (Long key part) = bytes.Long (key_bytes key ++ long_part_bytes part)

-- as a list
abbrev pub bytes_of : KeyBytes → List ℕ
bytes_of (bytes.Short list) = list
bytes_of (bytes.Long list) = list

abbrev pub any_key_bytes : AnyKey → List ℕ
any_key_bytes key = bytes_of (any_bytes key)

-- short or long
abbrev pub kind_of : AnyKey → Kind
kind_of (Short key) = kind.Short
kind_of (Long key part) = kind.Long

-- the key's first eight bytes are a short key
abbrev pub short_of : AnyKey → ClientKey
short_of (Short key) = key
short_of (Long key part) = key

-- the pooler that issued the key, and the client's slot there
abbrev pub peer_of : AnyKey → ℕ
peer_of key = (short_of key).peer

abbrev pub slot_of : AnyKey → ℕ
slot_of key = (short_of key).slot

-- what a long key has behind its first eight bytes
abbrev pub long_part_of : AnyKey → Option LongPart
long_part_of (Short key) = None
long_part_of (Long key part) = Some part

-- what stays of a key on its way: a short identity is never a long one
abbrev pub any_identity_of : AnyKey → Identity
any_identity_of (Short key) = identity.Short (identity_of key)
any_identity_of (Long key part) = identity.Long (identity_of key) part

-- the key with one hop less
abbrev pub any_lowered : AnyKey → AnyKey
any_lowered (Short key) = Short (lowered key)
any_lowered (Long key part) = Long (lowered key) part
