-- A nonce of both sides (RFC 5802, section 5.1): the client's part, and behind it the server's.
use Rattle.std.specs.Prelude.{ℕ, ◌≡◌, List, ◌++◌}
use Rattle.scram.specs.Messages.{IsNonce}

-- the server has added to the client's part
abbrev pub Extends : List ℕ → List ℕ → Type 0
Extends own nonce = (added : List ℕ) × IsNonce added × (nonce ≡ own ++ added)
