-- A server-first-message that may be accepted is.
use Rattle.std.proofs.Common.{◌≡◌, ℕ, List, [], ◌∷◌, codes, Result, Ok, Err, sym, ◌∙◌, subst, arith, IsOkUnless, refl}
use Rattle.std.specs.Fmt.{decimal}
use Rattle.base64.specs.GeneralPurpose.{IsBytes}
use Rattle.scram.specs.Base64.{base64}
use Rattle.scram.specs.Client.{TellsAsked, HasFirst}
use Rattle.scram.specs.Exchange.{Asked}
use Rattle.scram.specs.Messages.{Lacks, IsPrintable, IsCount, attribute, and_then, server_first}
use Rattle.scram.specs.Nonces.{Extends}
use Rattle.scram.specs.declared.client_error.ClientError.{ClientError}
use Rattle.scram.specs.declared.client_error.ClientError.TheVariants.{BadNonce, Malformed, Extension, OtherNonce, BadSalt, BadIterations, OtherSalt, Refused, BadSignature, Memory}
use Rattle.scram.proofs.LackLemmas.{base64_comma, Lacks-append}
use Rattle.scram.proofs.PartsLemmas.{one_attribute, same_rest, heads_differ, r_isnt, s_isnt}

pub printable_lacks : (text : List ℕ) → IsPrintable text → Lacks 44 text
printable_lacks [] all = tt
printable_lacks (b ∷ bs) all = (all.0.2, printable_lacks bs all.1)

pub record SameFirst (a b d nonce salt count : List ℕ) : Type 0 where
  pub nonce_is : a ≡ nonce
  pub salt_is : b ≡ salt
  pub count_is : d ≡ count

-- such a message has one reading
one_first : (text a b d nonce salt count : List ℕ) → HasFirst text a b d → HasFirst text nonce salt count → SameFirst a b d nonce salt count
one_first text a b d nonce salt count h k =
    let first = one_attribute 114 text _ _ _ _ r_isnt h.nonce_lacks k.nonce_lacks h.spelled k.spelled in
    let rest = and_then (attribute (codes "s") b) (attribute (codes "i") d) in
    let second = one_attribute 115 rest _ _ _ _ s_isnt h.salt_lacks k.salt_lacks refl first.1 in
    record { nonce_is = first.0; salt_is = second.0; count_is = same_rest (105 ∷ 61 ∷ []) _ _ second.1 }

-- a message of these values, for a client whose nonce has no comma
pub record May (own text nonce salt : List ℕ) (iterations : ℕ) : Type 0 where
  pub spelled : text ≡ server_first nonce salt iterations
  pub lacks : Lacks 44 nonce
  pub extends : Extends own nonce
  pub bytes : IsBytes salt
  pub count : IsCount iterations

has_first : (own text nonce salt : List ℕ) (iterations : ℕ) → May own text nonce salt iterations → HasFirst text nonce (base64 salt) (decimal iterations)
has_first own text nonce salt iterations may =
    record { spelled = may.spelled; nonce_lacks = may.lacks; salt_lacks = base64_comma salt }

pub first_accepted : (own text : List ℕ) (r : Result Asked ClientError) → TellsAsked own text r → (nonce salt : List ℕ) (iterations : ℕ) → May own text nonce salt iterations → IsOkUnless r Memory
first_accepted own text (Ok asked) tells nonce salt iterations may = tt
first_accepted own text (Err Memory) tells nonce salt iterations may = refl
first_accepted own text (Err Extension) tells nonce salt iterations may =
    absurd (heads_differ 109 114 _ _ (λ e. omega arith) (sym tells.1 ∙ may.spelled))
first_accepted own text (Err Malformed) tells nonce salt iterations may =
    absurd (tells.1 nonce (base64 salt) (decimal iterations) (has_first own text nonce salt iterations may))
first_accepted own text (Err OtherNonce) tells nonce salt iterations may =
    let same = one_first text _ _ _ _ _ _ tells.3 (has_first own text nonce salt iterations may) in
    absurd (tells.4 (subst (Extends own) (sym same.nonce_is) may.extends))
first_accepted own text (Err BadSalt) tells nonce salt iterations may =
    let same = one_first text _ _ _ _ _ _ tells.3 (has_first own text nonce salt iterations may) in
    absurd (tells.5 salt may.bytes same.salt_is)
first_accepted own text (Err BadIterations) tells nonce salt iterations may =
    let same = one_first text _ _ _ _ _ _ tells.3 (has_first own text nonce salt iterations may) in
    absurd (tells.5 iterations may.count same.count_is)
first_accepted own text (Err BadNonce) tells nonce salt iterations may = absurd tells
first_accepted own text (Err OtherSalt) tells nonce salt iterations may = absurd tells
first_accepted own text (Err Refused) tells nonce salt iterations may = absurd tells
first_accepted own text (Err BadSignature) tells nonce salt iterations may = absurd tells

-- the whole nonce has no comma
pub extended_lacks : (own nonce : List ℕ) → IsPrintable own → Extends own nonce → Lacks 44 nonce
extended_lacks own nonce printable extends =
    subst (Lacks 44) (sym extends.2) (Lacks-append 44 own extends.0 (printable_lacks own printable) (printable_lacks extends.0 extends.1.printable))
