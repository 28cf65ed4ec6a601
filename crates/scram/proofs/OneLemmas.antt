-- Base64 tells texts apart.
use Rattle.std.proofs.Common.{◌≡◌, ℕ, List, sym, ◌∙◌, ap, refl}
use Rattle.base64.specs.Engines.{standard}
use Rattle.base64.specs.GeneralPurpose.{IsBytes, decode_of}
use Rattle.base64.proofs.EngineFacts.{decode_of-encode_of}
use Rattle.scram.specs.Base64.{base64}
use Rattle.scram.specs.Server.{IsDigest}

pub one_text : (x y : List ℕ) → IsBytes x → IsBytes y → base64 x ≡ base64 y → x ≡ y
unfolding base64
one_text x y bx bytes same =
    let both = sym (decode_of-encode_of standard x refl bx) ∙ ap (decode_of standard) same ∙ decode_of-encode_of standard y refl bytes in
    cc both

pub one_digest : (x y : List ℕ) → IsDigest x → IsDigest y → base64 x ≡ base64 y → x ≡ y
one_digest x y dx dy same = one_text x y dx.are dy.are same
