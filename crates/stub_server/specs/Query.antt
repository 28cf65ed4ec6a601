-- The queries of the stand-in server (own), and the message that carries one (PostgreSQL manual,
-- "Message Formats": Query).
use Rattle.std.specs.Prelude.{ℕ, ◌≡◌, List, ◌++◌, codes}
use Rattle.pg_frames.specs.declared.frame.Frame.{Frame}
use Rattle.startup.specs.StartupMessage.{HasNoZero}
use Rattle.startup.specs.Replies.{zero_ended}

-- what a query asks for
pub data Query : Type 0 where
  Hold : Query
  Echo : (value : List ℕ) → Query
  Begin : Query
  Commit : Query
  Other : Query

-- the texts of the queries that the server knows
abbrev pub IsKnown : Query → List ℕ → Type 0
IsKnown Hold text = text ≡ codes "hold"
IsKnown (Echo value) text = text ≡ codes "echo " ++ value
IsKnown Begin text = text ≡ codes "begin"
IsKnown Commit text = text ≡ codes "commit"
IsKnown Other text = ⊥

-- a text asks for this
abbrev pub Asks : Query → List ℕ → Type 0
Asks Hold text = IsKnown Hold text
Asks (Echo value) text = IsKnown (Echo value) text
Asks Begin text = IsKnown Begin text
Asks Commit text = IsKnown Commit text
Asks Other text = (query : Query) → IsKnown query text → ⊥

-- the message is Query with this text: one string
pub record IsQuery (message : Frame) (text : List ℕ) : Type 0 where
  pub kind : message.kind ≡ 81
  pub no_zero : HasNoZero text
  pub body : message.body ≡ zero_ended text
