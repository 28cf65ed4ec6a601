-- What a reader of base64 answers (internal).
use Rattle.std.specs.Prelude.{ℕ, ◌≡◌, ◌≢◌, List, Option, None, Some}
use Rattle.std.specs.declared.vec.Vec.{Vec}
use Rattle.std.specs.declared.alloc.Global.{Global}
use Rattle.base64.specs.GeneralPurpose.{IsBytes}
use Rattle.scram.specs.Base64.{base64}
use Rattle.scram.specs.Server.{IsDigest}

-- the bytes of this text, or that it is the base64 of none
abbrev pub Decodes : List ℕ → Option (Vec ℕ Global) → Type 0
Decodes text (Some bytes) =
    IsBytes bytes.items × (text ≡ base64 bytes.items)
    × ((other : List ℕ) → IsBytes other → text ≡ base64 other → other ≡ bytes.items)
Decodes text None = (bytes : List ℕ) → IsBytes bytes → text ≢ base64 bytes

-- the 32 bytes of this text, or that it is the base64 of none
abbrev pub DecodesDigest : List ℕ → Option (List ℕ) → Type 0
DecodesDigest text (Some digest) = IsDigest digest × (text ≡ base64 digest)
DecodesDigest text None = (digest : List ℕ) → IsDigest digest → text ≢ base64 digest
