-- An entry's text has one reading.
use Rattle.std.proofs.Common.{◌≡◌, ◌<◌, ◌^◌, ℕ, List, sym, ◌∙◌, arith}
use Rattle.std.specs.Fmt.{decimal}
use Rattle.scram.specs.Base64.{base64}
use Rattle.scram.specs.Entry.{IsEntry, kept_text}
use Rattle.scram.specs.Exchange.{Kept}
use Rattle.scram.specs.KeptText.{HasKept}
use Rattle.scram.proofs.LackLemmas.{base64_colon, base64_dollar, decimal_colon}
use Rattle.scram.proofs.PartsLemmas.{one_cut}

pub kept_parts : (text : List ℕ) (kept : Kept) → IsEntry kept → text ≡ kept_text kept → HasKept text (decimal kept.iterations) (base64 kept.salt) (base64 kept.stored_key) (base64 kept.server_key)
kept_parts text kept is spelled =
    let low : kept.iterations < 2 ^ 64 = omega (arith, is.count.high) in
    record {
      spelled = spelled;
      count_lacks = decimal_colon kept.iterations low;
      salt_lacks = base64_dollar kept.salt;
      stored_lacks = base64_colon kept.stored_key;
    }

-- two readings are the same
pub record SameParts (a b x y count salt stored server : List ℕ) : Type 0 where
  pub count_is : a ≡ count
  pub salt_is : b ≡ salt
  pub stored_is : x ≡ stored
  pub server_is : y ≡ server

pub one_kept : (text a b x y count salt stored server : List ℕ) → HasKept text a b x y → HasKept text count salt stored server → SameParts a b x y count salt stored server
one_kept text a b x y count salt stored server h k =
    let first = one_cut 58 _ _ _ _ h.count_lacks k.count_lacks (sym h.spelled ∙ k.spelled) in
    let second = one_cut 36 _ _ _ _ h.salt_lacks k.salt_lacks first.1 in
    let third = one_cut 58 _ _ _ _ h.stored_lacks k.stored_lacks second.1 in
    record { count_is = first.0; salt_is = second.0; stored_is = third.0; server_is = third.1 }
