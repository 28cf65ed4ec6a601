-- The four messages of an exchange (RFC 5802, section 7), as PostgreSQL has them: no channel is
-- bound, and no message has an extension.
use Rattle.std.specs.Prelude.{ℕ, ◌≢◌, ◌≤◌, List, [], ◌∷◌, ◌++◌, codes}
use Rattle.std.specs.List.{AllByRecursion}
use Rattle.std.specs.Fmt.{decimal}
use Rattle.scram.specs.Base64.{base64}
use Rattle.scram.specs.Flag.{gs2_header}
use Rattle.scram.specs.declared.flag.Gs2Flag.{Gs2Flag}

-- no byte of the text is this one
abbrev pub Lacks : ℕ → List ℕ → Type 0
Lacks byte text = AllByRecursion (λ b. b ≢ byte) text

-- printable: 0x21 to 0x7E, and no comma
abbrev pub IsPrintable : List ℕ → Type 0
IsPrintable text = AllByRecursion (λ b. (33 ≤ b) × (b ≤ 126) × (b ≢ 44)) text

-- a nonce, or what a server adds to one: at least one byte
pub record IsNonce (text : List ℕ) : Type 0 where
  pub some : text ≢ []
  pub printable : IsPrintable text

-- an attribute: its name, an equals sign, and its value
abbrev pub attribute : List ℕ → List ℕ → List ℕ
attribute name value = name ++ 61 ∷ value

-- one text, a comma, and another
abbrev pub and_then : List ℕ → List ℕ → List ℕ
and_then before after = before ++ 44 ∷ after

-- client-first-message-bare: a user's name, to which PostgreSQL pays no attention, and a nonce
abbrev pub client_first_bare : List ℕ → List ℕ → List ℕ
client_first_bare user nonce = and_then (attribute (codes "n") user) (attribute (codes "r") nonce)

-- client-first-message
abbrev pub client_first : Gs2Flag → List ℕ → List ℕ → List ℕ
client_first flag user nonce = gs2_header flag ++ client_first_bare user nonce

-- server-first-message: the whole nonce, the salt and the count of iterations
abbrev pub server_first : List ℕ → List ℕ → ℕ → List ℕ
server_first nonce salt iterations =
    and_then (attribute (codes "r") nonce)
    (and_then (attribute (codes "s") (base64 salt)) (attribute (codes "i") (decimal iterations)))

-- client-final-message-without-proof: the gs2-header again, as the channel's binding, and the whole
-- nonce
abbrev pub without_proof : Gs2Flag → List ℕ → List ℕ
without_proof flag nonce =
    and_then (attribute (codes "c") (base64 (gs2_header flag))) (attribute (codes "r") nonce)

-- client-final-message
abbrev pub client_final : Gs2Flag → List ℕ → List ℕ → List ℕ
client_final flag nonce proof
    = and_then (without_proof flag nonce) (attribute (codes "p") (base64 proof))

-- server-final-message: a signature, or why there is none
abbrev pub server_final : List ℕ → List ℕ
server_final signature = attribute (codes "v") (base64 signature)

abbrev pub server_error : List ℕ → List ℕ
server_error reason = attribute (codes "e") reason

-- a count of iterations that is taken: at most a million (own)
pub record IsCount (iterations : ℕ) : Type 0 where
  pub low : 1 ≤ iterations
  pub high : iterations ≤ 1000000
