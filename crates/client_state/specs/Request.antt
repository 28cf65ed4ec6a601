-- A client's request, by its text: a Query, or messages of an extended query and their Sync
-- (PostgreSQL manual, "Message Flow").
use Rattle.std.specs.Prelude.{ℕ, ◌≡◌, List, [], ◌∷◌, ◌++◌, length}
use Rattle.pg_frames.specs.declared.frame.Frame.{Frame}
use Rattle.pg_frames.specs.FrameText.{text, texts, IsFrame}
use Rattle.client_state.specs.ClientMessage.{client_message}
use Rattle.client_state.specs.declared.client_message.ClientMessage.{ClientMessage}
use Rattle.client_state.specs.declared.client_message.ClientMessage.TheVariants.{Request, Gathered}

-- messages of an extended query that are gathered, after some with this text
abbrev pub AreGathered : ℕ → List ℕ → List Frame → Type 0
AreGathered limit before [] = Unit {0}
AreGathered limit before (frame ∷ frames) = IsFrame limit frame
    × (client_message limit (length before) frame ≡ Gathered)
    × AreGathered limit (before ++ text frame) frames

-- a client's message, after others that are gathered
pub record Asks (limit : ℕ) (parts : List Frame) (last : Frame) (message : ClientMessage)
    : Type 0 where
  pub gathered : AreGathered limit [] parts
  pub is_frame : IsFrame limit last
  pub means : client_message limit (length (texts parts)) last ≡ message

-- the text of the request that is whole with the last message
abbrev pub request_of : List Frame → Frame → List ℕ
request_of parts last = texts parts ++ text last

-- these bytes are the text of a request where nothing was gathered before
abbrev pub IsRequest : ℕ → List ℕ → Type 0
IsRequest limit bytes = (parts : List Frame) × (last : Frame) × Asks limit parts last Request
    × (bytes ≡ request_of parts last)
