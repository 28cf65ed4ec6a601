-- What a client reads and answers (RFC 5802, sections 5 and 7). `Tells..` says by cases which result
-- a text has.
use Rattle.std.specs.Prelude.{ℕ, ◌≡◌, ◌≢◌, List, [], codes, Result, Ok, Err}
use Rattle.std.specs.Fmt.{decimal}
use Rattle.base64.specs.GeneralPurpose.{IsBytes}
use Rattle.scram.specs.Base64.{base64}
use Rattle.scram.specs.Exchange.{Salted, Asked, Claim}
use Rattle.scram.specs.Messages.{Lacks, IsNonce, IsCount, attribute, and_then, client_first_bare, server_first, server_final, server_error, without_proof, client_final}
use Rattle.scram.specs.Nonces.{Extends}
use Rattle.scram.specs.Values.{auth_message, client_proof, server_key, server_signature, stored_key, Proves}
use Rattle.scram.specs.declared.flag.Gs2Flag.TheVariants.{Unsupported}
use Rattle.scram.specs.declared.client_error.ClientError.{ClientError}
use Rattle.scram.specs.declared.client_error.ClientError.TheVariants.{BadNonce, Malformed, Extension, OtherNonce, BadSalt, BadIterations, OtherSalt, Refused, BadSignature, Memory}

-- a client begins with this nonce
abbrev pub TellsNonce : List ℕ → Result (List ℕ) ClientError → Type 0
TellsNonce nonce (Ok own) = IsNonce nonce × (own ≡ nonce)
TellsNonce nonce (Err BadNonce) = ¬ (IsNonce nonce)
TellsNonce nonce (Err Memory) = Unit {0}
TellsNonce nonce (Err Malformed) = ⊥
TellsNonce nonce (Err Extension) = ⊥
TellsNonce nonce (Err OtherNonce) = ⊥
TellsNonce nonce (Err BadSalt) = ⊥
TellsNonce nonce (Err BadIterations) = ⊥
TellsNonce nonce (Err OtherSalt) = ⊥
TellsNonce nonce (Err Refused) = ⊥
TellsNonce nonce (Err BadSignature) = ⊥

-- the attributes of a server-first-message, whatever their values
pub record HasFirst (text nonce salt count : List ℕ) : Type 0 where
  pub spelled : text ≡ and_then (attribute (codes "r") nonce) (and_then (attribute (codes "s") salt) (attribute (codes "i") count))
  pub nonce_lacks : Lacks 44 nonce
  pub salt_lacks : Lacks 44 salt

-- the text asks this client for this
pub record Asks (own text : List ℕ) (asked : Asked) : Type 0 where
  pub spelled : text ≡ server_first asked.nonce asked.salt asked.iterations
  pub extends : Extends own asked.nonce
  pub salt : IsBytes asked.salt
  pub count : IsCount asked.iterations
  pub bare : asked.bare ≡ client_first_bare [] own
  pub first : asked.server_first ≡ text

-- a client with its own nonce reads this text, in which a server-first-message is due
abbrev pub TellsAsked : List ℕ → List ℕ → Result Asked ClientError → Type 0
TellsAsked own text (Ok asked) = Asks own text asked
TellsAsked own text (Err Extension) = (value : List ℕ) × (text ≡ attribute (codes "m") value)
TellsAsked own text (Err Malformed) =
    ((value : List ℕ) → text ≢ attribute (codes "m") value)
    × ((nonce salt count : List ℕ) → ¬ (HasFirst text nonce salt count))
TellsAsked own text (Err OtherNonce) =
    (nonce : List ℕ) × (salt : List ℕ) × (count : List ℕ)
    × HasFirst text nonce salt count × ¬ (Extends own nonce)
TellsAsked own text (Err BadSalt) =
    (nonce : List ℕ) × (salt : List ℕ) × (count : List ℕ)
    × HasFirst text nonce salt count × Extends own nonce
    × ((bytes : List ℕ) → IsBytes bytes → salt ≢ base64 bytes)
TellsAsked own text (Err BadIterations) =
    (nonce : List ℕ) × (salt : List ℕ) × (count : List ℕ)
    × HasFirst text nonce salt count × Extends own nonce
    × ((iterations : ℕ) → IsCount iterations → count ≢ decimal iterations)
TellsAsked own text (Err Memory) = Unit {0}
TellsAsked own text (Err BadNonce) = ⊥
TellsAsked own text (Err OtherSalt) = ⊥
TellsAsked own text (Err Refused) = ⊥
TellsAsked own text (Err BadSignature) = ⊥

-- AuthMessage of a client
abbrev pub asked_message : Asked → List ℕ
asked_message asked = auth_message asked.bare asked.server_first (without_proof Unsupported asked.nonce)

-- a salted password is of the salt and the iterations that are asked for
pub record IsFor (salted : Salted) (asked : Asked) : Type 0 where
  pub salt : salted.salt ≡ asked.salt
  pub iterations : salted.iterations ≡ asked.iterations

-- a client that is asked for this proves this salted password
abbrev pub TellsClaim : Asked → Salted → Result Claim ClientError → Type 0
TellsClaim asked salted (Ok claim) =
    IsFor salted asked
    × (claim.message ≡ client_final Unsupported asked.nonce (client_proof salted.key (asked_message asked)))
    × (claim.signature ≡ server_signature (server_key salted.key) (asked_message asked))
    × Proves (stored_key salted.key) (asked_message asked) (client_proof salted.key (asked_message asked))
TellsClaim asked salted (Err OtherSalt) = ¬ (IsFor salted asked)
TellsClaim asked salted (Err Memory) = Unit {0}
TellsClaim asked salted (Err BadNonce) = ⊥
TellsClaim asked salted (Err Malformed) = ⊥
TellsClaim asked salted (Err Extension) = ⊥
TellsClaim asked salted (Err OtherNonce) = ⊥
TellsClaim asked salted (Err BadSalt) = ⊥
TellsClaim asked salted (Err BadIterations) = ⊥
TellsClaim asked salted (Err Refused) = ⊥
TellsClaim asked salted (Err BadSignature) = ⊥

-- a client that expects this signature reads this text, in which a server-final-message is due
abbrev pub TellsFinal : List ℕ → List ℕ → Result (Unit {0}) ClientError → Type 0
TellsFinal signature text (Ok done) = text ≡ server_final signature
TellsFinal signature text (Err Refused) = (reason : List ℕ) × (text ≡ server_error reason)
TellsFinal signature text (Err BadSignature) =
    (value : List ℕ) × (text ≡ attribute (codes "v") value) × (value ≢ base64 signature)
TellsFinal signature text (Err Malformed) =
    ((reason : List ℕ) → text ≢ server_error reason)
    × ((value : List ℕ) → text ≢ attribute (codes "v") value)
TellsFinal signature text (Err BadNonce) = ⊥
TellsFinal signature text (Err Extension) = ⊥
TellsFinal signature text (Err OtherNonce) = ⊥
TellsFinal signature text (Err BadSalt) = ⊥
TellsFinal signature text (Err BadIterations) = ⊥
TellsFinal signature text (Err OtherSalt) = ⊥
TellsFinal signature text (Err Memory) = ⊥
