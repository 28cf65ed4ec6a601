-- A client's proof is right for the StoredKey of the same password.
use Rattle.std.proofs.Common.{◌≡◌, ℕ, List, [], ◌∷◌, length, bit_xor, refl, sym, ap, ◌∙◌, arith}
use lib.Bits.{xor_self, xor_assoc, xor_zero_r}
use Rattle.sha2.specs.Sha256.{sha256}
use Rattle.sha2.proofs.Facts256.{length-sha256}
use Rattle.scram.specs.Hmac.{hmac, xor_bytes}
use Rattle.scram.specs.Values.{client_key, client_proof, client_signature, stored_key, Proves}

xor_twice : (x y : ℕ) → bit_xor (bit_xor x y) y ≡ x
xor_twice x y = xor_assoc x y y ∙ ap (λ (n : ℕ). bit_xor x n) (xor_self y) ∙ xor_zero_r x

xor_back : (xs ys : List ℕ) → length xs ≡ length ys → xor_bytes (xor_bytes xs ys) ys ≡ xs
xor_back [] ys same = refl
xor_back (x ∷ xs) [] same = absurd (omega arith)
xor_back (x ∷ xs) (y ∷ ys) same =
    ap (λ (z : ℕ). z ∷ xor_bytes (xor_bytes xs ys) ys) (xor_twice x y) ∙ ap (λ (zs : List ℕ). x ∷ zs) (xor_back xs ys (omega arith))

length-hmac : (key text : List ℕ) → length (hmac key text) ≡ 32
unfolding hmac
length-hmac key text = length-sha256 _

pub right_proof : (salted message : List ℕ) → Proves (stored_key salted) message (client_proof salted message)
right_proof salted message =
    ap sha256 (xor_back (client_key salted) (client_signature (stored_key salted) message) (length-hmac _ _ ∙ sym (length-hmac _ _)))
