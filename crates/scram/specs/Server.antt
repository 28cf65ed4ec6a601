-- What a server reads and answers (RFC 5802, sections 5 and 7; which requests are refused and how is
-- as in PostgreSQL's auth-scram.c). `Tells..` says by cases which result a text has.
use Rattle.std.specs.Prelude.{ℕ, ◌≡◌, ◌≢◌, ◌++◌, false, List, codes, length, Result, Ok, Err}
use Rattle.base64.specs.GeneralPurpose.{IsBytes}
use Rattle.scram.specs.Base64.{base64}
use Rattle.scram.specs.Exchange.{Verified, Greeted, Asking}
use Rattle.scram.specs.Flag.{gs2_header, gs2_start}
use Rattle.scram.specs.Messages.{Lacks, IsNonce, attribute, and_then, client_first, client_first_bare, server_first, server_final, without_proof, client_final}
use Rattle.scram.specs.Values.{auth_message, server_signature, Proves}
use Rattle.scram.specs.declared.flag.Gs2Flag.{Gs2Flag}
use Rattle.scram.specs.declared.server_error.ServerError.{ServerError}
use Rattle.scram.specs.declared.server_error.ServerError.TheVariants.{BadNonce, Malformed, ChannelBinding, Authorization, Extension, OtherBinding, OtherNonce, BadProof, Memory}

-- the text begins with this one
abbrev pub Begins : List ℕ → List ℕ → Type 0
Begins text front = (rest : List ℕ) × (text ≡ front ++ rest)

-- it asks to bind a channel, for another identity, or for an extension
abbrev pub AsksBinding : List ℕ → Type 0
AsksBinding text = Begins text (codes "p")

abbrev pub AsksIdentity : List ℕ → Type 0
AsksIdentity text = (flag : Gs2Flag) × Begins text (gs2_start flag ++ codes "a")

abbrev pub AsksExtension : List ℕ → Type 0
AsksExtension text = (flag : Gs2Flag) × Begins text (gs2_header flag ++ codes "m")

-- the text is a client-first-message with this flag, name and nonce
pub record IsFirst (text : List ℕ) (flag : Gs2Flag) (user nonce : List ℕ) : Type 0 where
  pub spelled : text ≡ client_first flag user nonce
  pub user_lacks : Lacks 44 user
  pub nonce_is : IsNonce nonce

-- a client-first-message-bare
pub record IsBare (bare user nonce : List ℕ) : Type 0 where
  pub spelled : bare ≡ client_first_bare user nonce
  pub user_lacks : Lacks 44 user
  pub nonce_is : IsNonce nonce

-- a server reads this text, in which a client-first-message is due
abbrev pub TellsGreeted : List ℕ → Result Greeted ServerError → Type 0
TellsGreeted text (Ok greeted) =
    (user : List ℕ) × IsFirst text greeted.flag user greeted.nonce
    × (greeted.bare ≡ client_first_bare user greeted.nonce)
TellsGreeted text (Err ChannelBinding) = AsksBinding text
TellsGreeted text (Err Authorization) = AsksIdentity text
TellsGreeted text (Err Extension) = AsksExtension text
TellsGreeted text (Err Malformed) =
    ¬ (AsksBinding text) × ¬ (AsksIdentity text) × ¬ (AsksExtension text)
    × ((flag : Gs2Flag) (user nonce : List ℕ) → ¬ (IsFirst text flag user nonce))
TellsGreeted text (Err Memory) = Unit {0}
TellsGreeted text (Err BadNonce) = ⊥
TellsGreeted text (Err OtherBinding) = ⊥
TellsGreeted text (Err OtherNonce) = ⊥
TellsGreeted text (Err BadProof) = ⊥

-- a server asks a client that has greeted it, by this entry, and with these bytes behind its nonce
pub record AsksBack (greeted : Greeted) (verified : Verified) (added : List ℕ) (asking : Asking) : Type 0 where
  pub added_is : IsNonce added
  pub nonce : asking.nonce ≡ greeted.nonce ++ added
  pub server_first : asking.server_first ≡ server_first asking.nonce verified.entry.salt verified.entry.iterations
  pub flag : asking.flag ≡ greeted.flag
  pub bare : asking.bare ≡ greeted.bare
  pub stored_key : asking.stored_key ≡ verified.entry.stored_key
  pub server_key : asking.server_key ≡ verified.entry.server_key
  pub is_mock : asking.is_mock ≡ verified.is_mock

abbrev pub TellsAsking : Greeted → Verified → List ℕ → Result Asking ServerError → Type 0
TellsAsking greeted verified added (Ok asking) = AsksBack greeted verified added asking
TellsAsking greeted verified added (Err BadNonce) = ¬ (IsNonce added)
TellsAsking greeted verified added (Err Memory) = Unit {0}
TellsAsking greeted verified added (Err ChannelBinding) = ⊥
TellsAsking greeted verified added (Err Authorization) = ⊥
TellsAsking greeted verified added (Err Extension) = ⊥
TellsAsking greeted verified added (Err Malformed) = ⊥
TellsAsking greeted verified added (Err OtherBinding) = ⊥
TellsAsking greeted verified added (Err OtherNonce) = ⊥
TellsAsking greeted verified added (Err BadProof) = ⊥

-- the attributes of a client-final-message, whatever their values
pub record HasLast (text binding nonce proof : List ℕ) : Type 0 where
  pub spelled : text ≡ and_then (and_then (attribute (codes "c") binding) (attribute (codes "r") nonce)) (attribute (codes "p") proof)
  pub binding_lacks : Lacks 44 binding
  pub nonce_lacks : Lacks 44 nonce

-- 32 bytes
pub record IsDigest (bytes : List ℕ) : Type 0 where
  pub len : length bytes ≡ 32
  pub are : IsBytes bytes

-- the attributes of a client-final-message, of which the proof is 32 bytes
pub record HasFinal (text binding nonce proof : List ℕ) : Type 0 where
  pub last : HasLast text binding nonce (base64 proof)
  pub digest : IsDigest proof

-- AuthMessage of a server
abbrev pub asking_message : Asking → List ℕ
asking_message asking = auth_message asking.bare asking.server_first (without_proof asking.flag asking.nonce)

-- a proof satisfies the entry, which isn't nobody's
pub record Satisfies (asking : Asking) (proof : List ℕ) : Type 0 where
  pub known : asking.is_mock ≡ false
  pub proves : Proves asking.stored_key (asking_message asking) proof

-- a server that has asked reads this text, in which a client-final-message is due; the result is the
-- server-final-message
abbrev pub TellsProved : Asking → List ℕ → Result (List ℕ) ServerError → Type 0
TellsProved asking text (Ok message) =
    (proof : List ℕ) × IsDigest proof × (text ≡ client_final asking.flag asking.nonce proof)
    × Satisfies asking proof
    × (message ≡ server_final (server_signature asking.server_key (asking_message asking)))
TellsProved asking text (Err Malformed) =
    (binding nonce proof : List ℕ) → ¬ (HasFinal text binding nonce proof)
TellsProved asking text (Err OtherBinding) =
    (binding : List ℕ) × (nonce : List ℕ) × (proof : List ℕ) × HasFinal text binding nonce proof
    × (binding ≢ base64 (gs2_header asking.flag))
TellsProved asking text (Err OtherNonce) =
    (nonce : List ℕ) × (proof : List ℕ)
    × HasFinal text (base64 (gs2_header asking.flag)) nonce proof × (nonce ≢ asking.nonce)
TellsProved asking text (Err BadProof) =
    (proof : List ℕ) × HasFinal text (base64 (gs2_header asking.flag)) asking.nonce proof
    × ¬ (Satisfies asking proof)
TellsProved asking text (Err Memory) = Unit {0}
TellsProved asking text (Err BadNonce) = ⊥
TellsProved asking text (Err ChannelBinding) = ⊥
TellsProved asking text (Err Authorization) = ⊥
TellsProved asking text (Err Extension) = ⊥

-- a server that has asked checks this proof
abbrev pub TellsChecked : Asking → List ℕ → Result (List ℕ) ServerError → Type 0
TellsChecked asking proof (Ok message) =
    Satisfies asking proof
    × (message ≡ server_final (server_signature asking.server_key (asking_message asking)))
TellsChecked asking proof (Err BadProof) = ¬ (Satisfies asking proof)
TellsChecked asking proof (Err Memory) = Unit {0}
TellsChecked asking proof (Err Malformed) = ⊥
TellsChecked asking proof (Err OtherBinding) = ⊥
TellsChecked asking proof (Err OtherNonce) = ⊥
TellsChecked asking proof (Err BadNonce) = ⊥
TellsChecked asking proof (Err ChannelBinding) = ⊥
TellsChecked asking proof (Err Authorization) = ⊥
TellsChecked asking proof (Err Extension) = ⊥
