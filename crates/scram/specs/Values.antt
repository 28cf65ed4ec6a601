-- The values of an exchange (RFC 5802, section 3), with SHA-256 as H (RFC 7677, section 3).
use Rattle.std.specs.Prelude.{ℕ, ◌≡◌, List, codes}
use Rattle.sha2.specs.Sha256.{sha256}
use Rattle.scram.specs.Hmac.{hi, hmac, xor_bytes}
use Rattle.scram.specs.Messages.{and_then}

-- SaltedPassword := Hi(Normalize(password), salt, i), of a password that is normalized
abbrev pub salted_password : List ℕ → List ℕ → ℕ → List ℕ
salted_password password salt iterations = hi password salt iterations

-- ClientKey := HMAC(SaltedPassword, "Client Key")
abbrev pub client_key : List ℕ → List ℕ
client_key salted = hmac salted (codes "Client Key")

-- StoredKey := H(ClientKey)
abbrev pub stored_key : List ℕ → List ℕ
stored_key salted = sha256 (client_key salted)

-- ServerKey := HMAC(SaltedPassword, "Server Key")
abbrev pub server_key : List ℕ → List ℕ
server_key salted = hmac salted (codes "Server Key")

-- AuthMessage := client-first-message-bare + "," + server-first-message + "," +
-- client-final-message-without-proof
abbrev pub auth_message : List ℕ → List ℕ → List ℕ → List ℕ
auth_message bare first final = and_then (and_then bare first) final

-- ClientSignature := HMAC(StoredKey, AuthMessage)
abbrev pub client_signature : List ℕ → List ℕ → List ℕ
client_signature stored message = hmac stored message

-- ClientProof := ClientKey XOR ClientSignature
abbrev pub client_proof : List ℕ → List ℕ → List ℕ
client_proof salted message
    = xor_bytes (client_key salted) (client_signature (stored_key salted) message)

-- ServerSignature := HMAC(ServerKey, AuthMessage)
abbrev pub server_signature : List ℕ → List ℕ → List ℕ
server_signature key message = hmac key message

-- a proof is right if H(ClientProof XOR ClientSignature) is StoredKey
abbrev pub Proves : List ℕ → List ℕ → List ℕ → Type 0
Proves stored message proof = sha256 (xor_bytes proof (client_signature stored message)) ≡ stored
