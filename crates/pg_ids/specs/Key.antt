-- A short cancel key (own layout; PostgreSQL manual, "Canceling Requests in Progress"): 14 bits of
-- peer, 16 of slot, 32 of secret, 2 of hops. Its bytes are its number in big-endian order. Its
-- identity is the number divided by 4, which stays the same when the hops are lowered.
use Rattle.std.specs.Prelude.{ℕ, ◌+◌, ◌-◌, ◌*◌, ◌/◌, ◌^◌, ◌<◌, List}
use Rattle.byteorder.specs.Endian.{big_bytes}
use Rattle.pg_ids.specs.declared.client_key.ClientKey.{ClientKey}

-- each part is in its range: 14 bits of peer, 16 of slot, 32 of secret, 2 of hops
pub record IsKey (k : ClientKey) : Type 0 where
  pub peer : k.peer < 2 ^ 14
  pub slot : k.slot < 2 ^ 16
  pub secret : k.secret < 2 ^ 32
  pub hops : k.hops < 4

-- the number of a key
abbrev pub number_of : ClientKey → ℕ
number_of k = k.peer * 2 ^ 50 + k.slot * 2 ^ 34 + k.secret * 4 + k.hops

-- the eight bytes of a key: its number, big-endian
abbrev pub key_bytes : ClientKey → List ℕ
key_bytes k = big_bytes 8 (number_of k)

-- what stays of a key on its way: its number without the hops
abbrev pub identity_of : ClientKey → ℕ
identity_of k = number_of k / 4

-- the key with one hop less
abbrev pub lowered : ClientKey → ClientKey
lowered k = record k { hops = k.hops - 1 }
