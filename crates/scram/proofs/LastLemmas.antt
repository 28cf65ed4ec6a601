-- A client's messages that may be accepted are.
use Rattle.std.proofs.Common.{◌≡◌, ◌≢◌, ℕ, List, [], ◌∷◌, ◌++◌, codes, Result, Ok, Err, sym, ◌∙◌, subst, arith, IsOkUnless, refl}
use Rattle.scram.specs.Base64.{base64}
use Rattle.scram.specs.Exchange.{Greeted, Asking}
use Rattle.scram.specs.Flag.{gs2_header, gs2_start}
use Rattle.scram.specs.Messages.{Lacks, attribute, and_then, client_first, client_final}
use Rattle.scram.specs.Server.{AsksBinding, IsFirst, TellsGreeted, HasLast, HasFinal, IsDigest, Satisfies, TellsProved}
use Rattle.scram.specs.declared.flag.Gs2Flag.{Gs2Flag}
use Rattle.scram.specs.declared.flag.Gs2Flag.TheVariants.{Unsupported, Unadvertised}
use Rattle.scram.specs.declared.server_error.ServerError.{ServerError}
use Rattle.scram.specs.declared.server_error.ServerError.TheVariants.{BadNonce, Malformed, ChannelBinding, Authorization, Extension, OtherBinding, OtherNonce, BadProof, Memory}
use Rattle.scram.proofs.LackLemmas.{base64_comma}
use Rattle.scram.proofs.OneLemmas.{one_digest}
use Rattle.scram.proofs.PartsLemmas.{one_attribute, same_rest, heads_differ, nested, c_isnt, r_isnt}

-- the byte at the front of a text
second_differs : (x a b : ℕ) (xs ys : List ℕ) → a ≢ b → x ∷ a ∷ xs ≡ x ∷ b ∷ ys → ⊥
second_differs x a b xs ys other same = heads_differ a b xs ys other (same_rest (x ∷ []) (a ∷ xs) (b ∷ ys) same)

-- a client-first-message binds no channel
no_binding : (text user nonce : List ℕ) (flag : Gs2Flag) → text ≡ client_first flag user nonce → AsksBinding text → ⊥
no_binding text user nonce Unsupported is asks = heads_differ 112 110 _ _ (λ e. omega arith) (sym asks.1 ∙ is)
no_binding text user nonce Unadvertised is asks = heads_differ 112 121 _ _ (λ e. omega arith) (sym asks.1 ∙ is)

-- asks for no other identity
no_identity : (text user nonce rest : List ℕ) (flag other : Gs2Flag) → text ≡ client_first flag user nonce → text ≡ (gs2_start other ++ codes "a") ++ rest → ⊥
no_identity text user nonce rest Unsupported Unsupported is asks = heads_differ 97 44 _ _ (λ e. omega arith) (same_rest (110 ∷ 44 ∷ []) (97 ∷ rest) _ (sym asks ∙ is))
no_identity text user nonce rest Unadvertised Unadvertised is asks = heads_differ 97 44 _ _ (λ e. omega arith) (same_rest (121 ∷ 44 ∷ []) (97 ∷ rest) _ (sym asks ∙ is))
no_identity text user nonce rest Unsupported Unadvertised is asks = heads_differ 121 110 _ _ (λ e. omega arith) (sym asks ∙ is)
no_identity text user nonce rest Unadvertised Unsupported is asks = heads_differ 110 121 _ _ (λ e. omega arith) (sym asks ∙ is)

-- and for no extension
no_extension : (text user nonce rest : List ℕ) (flag other : Gs2Flag) → text ≡ client_first flag user nonce → text ≡ (gs2_header other ++ codes "m") ++ rest → ⊥
no_extension text user nonce rest Unsupported Unsupported is asks = heads_differ 109 110 _ _ (λ e. omega arith) (same_rest (110 ∷ 44 ∷ 44 ∷ []) (109 ∷ rest) _ (sym asks ∙ is))
no_extension text user nonce rest Unadvertised Unadvertised is asks = heads_differ 109 110 _ _ (λ e. omega arith) (same_rest (121 ∷ 44 ∷ 44 ∷ []) (109 ∷ rest) _ (sym asks ∙ is))
no_extension text user nonce rest Unsupported Unadvertised is asks = heads_differ 121 110 _ _ (λ e. omega arith) (sym asks ∙ is)
no_extension text user nonce rest Unadvertised Unsupported is asks = heads_differ 110 121 _ _ (λ e. omega arith) (sym asks ∙ is)

pub greeted_accepted : (text : List ℕ) (r : Result Greeted ServerError) → TellsGreeted text r → (flag : Gs2Flag) (user nonce : List ℕ) → IsFirst text flag user nonce → IsOkUnless r Memory
greeted_accepted text (Ok greeted) tells flag user nonce is = tt
greeted_accepted text (Err Memory) tells flag user nonce is = refl
greeted_accepted text (Err ChannelBinding) tells flag user nonce is = absurd (no_binding text user nonce flag is.spelled tells)
greeted_accepted text (Err Authorization) tells flag user nonce is = absurd (no_identity text user nonce tells.1.0 flag tells.0 is.spelled tells.1.1)
greeted_accepted text (Err Extension) tells flag user nonce is = absurd (no_extension text user nonce tells.1.0 flag tells.0 is.spelled tells.1.1)
greeted_accepted text (Err Malformed) tells flag user nonce is = absurd (tells.3 flag user nonce is)
greeted_accepted text (Err BadNonce) tells flag user nonce is = absurd tells
greeted_accepted text (Err OtherBinding) tells flag user nonce is = absurd tells
greeted_accepted text (Err OtherNonce) tells flag user nonce is = absurd tells
greeted_accepted text (Err BadProof) tells flag user nonce is = absurd tells

pub record SameLast (a b x binding nonce proof : List ℕ) : Type 0 where
  pub binding_is : a ≡ binding
  pub nonce_is : b ≡ nonce
  pub proof_is : x ≡ proof

-- one attribute after the other
pub spelled_out : (text binding nonce proof : List ℕ) → HasLast text binding nonce proof → text ≡ and_then (attribute (codes "c") binding) (and_then (attribute (codes "r") nonce) (attribute (codes "p") proof))
spelled_out text binding nonce proof has = has.spelled ∙ nested (attribute (codes "c") binding) (attribute (codes "r") nonce) (attribute (codes "p") proof)

-- a client-final-message has one reading
pub one_last : (text a b x binding nonce proof : List ℕ) → HasLast text a b x → HasLast text binding nonce proof → SameLast a b x binding nonce proof
one_last text a b x binding nonce proof h k =
    let first = one_attribute 99 text _ _ _ _ c_isnt h.binding_lacks k.binding_lacks (spelled_out text a b x h) (spelled_out text binding nonce proof k) in
    let rest = and_then (attribute (codes "r") b) (attribute (codes "p") x) in
    let second = one_attribute 114 rest _ _ _ _ r_isnt h.nonce_lacks k.nonce_lacks refl first.1 in
    record { binding_is = first.0; nonce_is = second.0; proof_is = same_rest (112 ∷ 61 ∷ []) _ _ second.1 }

-- the message with this proof
pub final_parts : (text nonce proof : List ℕ) (flag : Gs2Flag) → Lacks 44 nonce → IsDigest proof → text ≡ client_final flag nonce proof → HasFinal text (base64 (gs2_header flag)) nonce proof
final_parts text nonce proof flag lacks digest is =
    record {
      last = record { spelled = is; binding_lacks = base64_comma (gs2_header flag); nonce_lacks = lacks };
      digest = digest;
    }

pub proof_accepted : (asking : Asking) (text : List ℕ) (r : Result (List ℕ) ServerError) → TellsProved asking text r → Lacks 44 asking.nonce → (proof : List ℕ) → IsDigest proof → text ≡ client_final asking.flag asking.nonce proof → Satisfies asking proof → IsOkUnless r Memory
proof_accepted asking text (Ok message) tells lacks proof digest is right = tt
proof_accepted asking text (Err Memory) tells lacks proof digest is right = refl
proof_accepted asking text (Err Malformed) tells lacks proof digest is right =
    absurd (tells (base64 (gs2_header asking.flag)) asking.nonce proof (final_parts text asking.nonce proof asking.flag lacks digest is))
proof_accepted asking text (Err OtherBinding) tells lacks proof digest is right =
    let same = one_last text _ _ _ _ _ _ tells.3.last (final_parts text asking.nonce proof asking.flag lacks digest is).last in
    absurd (tells.4 same.binding_is)
proof_accepted asking text (Err OtherNonce) tells lacks proof digest is right =
    let same = one_last text _ _ _ _ _ _ tells.2.last (final_parts text asking.nonce proof asking.flag lacks digest is).last in
    absurd (tells.3 same.nonce_is)
proof_accepted asking text (Err BadProof) tells lacks proof digest is right =
    let same = one_last text _ _ _ _ _ _ tells.1.last (final_parts text asking.nonce proof asking.flag lacks digest is).last in
    absurd (tells.2 (subst (Satisfies asking) (sym (one_digest tells.0 proof tells.1.digest digest same.proof_is)) right))
proof_accepted asking text (Err BadNonce) tells lacks proof digest is right = absurd tells
proof_accepted asking text (Err ChannelBinding) tells lacks proof digest is right = absurd tells
proof_accepted asking text (Err Authorization) tells lacks proof digest is right = absurd tells
proof_accepted asking text (Err Extension) tells lacks proof digest is right = absurd tells
