-- A key of HMAC as it is kept: two hashers, which have taken in the key's blocks (internal).
use Rattle.std.specs.Prelude.{ℕ, List}
use Rattle.sha2.specs.Hashers.{Holds256}
use Rattle.scram.specs.Hmac.{key_pad}
use Rattle.scram.specs.declared.mac.HmacKey.{HmacKey}

-- the hashers hold the blocks of this key
pub record IsKeyedBy (kept : HmacKey) (key : List ℕ) : Type 0 where
  pub inner : Holds256 kept.inner (key_pad 0x36 key)
  pub outer : Holds256 kept.outer (key_pad 0x5C key)
