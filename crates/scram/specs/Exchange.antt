-- The states of both sides, as contracts see them.
use Rattle.std.specs.Prelude.{ℕ, List, Bool}
use Rattle.scram.specs.declared.flag.Gs2Flag.{Gs2Flag}

-- what a salted password is
pub record Salted : Type 0 where
  pub salt : List ℕ
  pub iterations : ℕ
  pub key : List ℕ

-- a client that was asked to prove its password: what was said (client-first-message-bare and
-- server-first-message), and what the server asks for
pub record Asked : Type 0 where
  pub bare : List ℕ
  pub server_first : List ℕ
  pub nonce : List ℕ
  pub salt : List ℕ
  pub iterations : ℕ

-- a client that has its proof: the message, and the signature that has to come back
pub record Claim : Type 0 where
  pub message : List ℕ
  pub signature : List ℕ

-- an entry by which a server knows a user's password: its keys, and whether nobody's
pub record Kept : Type 0 where
  pub salt : List ℕ
  pub iterations : ℕ
  pub stored_key : List ℕ
  pub server_key : List ℕ

-- what a client proves itself by: an entry, or one of nobody, which no proof satisfies
pub record Verified : Type 0 where
  pub entry : Kept
  pub is_mock : Bool

-- a server that has read a client's first message
pub record Greeted : Type 0 where
  pub flag : Gs2Flag
  pub bare : List ℕ
  pub nonce : List ℕ

-- a server that has asked for a proof
pub record Asking : Type 0 where
  pub flag : Gs2Flag
  pub bare : List ℕ
  pub server_first : List ℕ
  pub nonce : List ℕ
  pub stored_key : List ℕ
  pub server_key : List ℕ
  pub is_mock : Bool
