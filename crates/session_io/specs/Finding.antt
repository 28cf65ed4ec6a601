-- How a client's next request is read (own, after PgBouncer's transaction pooling; PostgreSQL
-- manual, "Message Flow"). `AsksNext`: it was read, or the client leaves. `gathering`: a session
-- with nothing outstanding.
use Rattle.std.specs.Prelude.{◌≡◌, ◌⊎◌, ℕ, Bool, List, [], ◌++◌, length, Some, None, Result, Ok, Err}
use Rattle.peer_forward.specs.Calls.{Call}
use Rattle.pg_frames.specs.declared.frame.Frame.{Frame}
use Rattle.pg_frames.specs.declared.error.FrameError.{FrameError}
use Rattle.pg_frames.specs.declared.error.FrameError.TheVariants.{BadLength, TooLong, BadType, Memory}
use Rattle.pg_frames.specs.FrameText.{text, texts, IsFrame, BeginsNoFrame, fault_at}
use Rattle.startup.specs.declared.error_code.ErrorCode.TheVariants.{ProtocolViolation}
use Rattle.client_state.specs.Session.{Session}
use Rattle.client_state.specs.ClientMessage.{client_message}
use Rattle.client_state.specs.declared.client_message.ClientMessage.{ClientMessage}
use Rattle.client_state.specs.declared.client_message.ClientMessage.TheVariants as message
use Rattle.client_state.specs.Request.{AreGathered, Asks, request_of}
use Rattle.session_io.specs.declared.session.requests.Found.{Found}
use Rattle.session_io.specs.declared.session.requests.Found.TheVariants.{More, Request, End}
use Rattle.session_io.specs.StreamCalls.{Read, ReadToEnd}
use Rattle.session_io.specs.Asking.{IsError, IsSaid, Leaving, Leaves}
use Rattle.session_io.specs.Progress.{asking}

-- a session with nothing outstanding that has gathered this for its next request, with a lease, as
-- in an open transaction, or without one
abbrev pub gathering : ℕ → Bool → ℕ → List ℕ → Session
gathering limit leased database gathered = record {
  limit = limit;
  database = database;
  leased = leased;
  outstanding = 0;
  gathered = gathered;
}

-- Messages were gathered after those of which the session knows, and then this one came.
pub record Comes (limit : ℕ) (old : Session) (kept : List ℕ) (parts : List Frame) (last : Frame)
    (message : ClientMessage) (left : List ℕ) : Type 0 where
  pub whole : kept ≡ texts parts ++ (text last ++ left)
  pub gathered : AreGathered limit old.gathered parts
  pub is_frame : IsFrame limit last
  pub means : client_message limit (length (old.gathered ++ texts parts)) last ≡ message

-- What was cut from the bytes that were read of a client, and what is left of them. Memory may have
-- been refused.
abbrev pub Finds : ℕ → Session → List ℕ → Found → Session → List ℕ → Type 0
Finds limit old kept More new left = (parts : List Frame) × (kept ≡ texts parts ++ left)
    × AreGathered limit old.gathered parts × BeginsNoFrame limit left
    × (new ≡ gathering limit old.leased old.database (old.gathered ++ texts parts))
Finds limit old kept (Request request) new left = (parts : List Frame) × (last : Frame)
    × Comes limit old kept parts last message.Request left
    × (request ≡ (old.gathered ++ texts parts) ++ text last) × (new ≡ asking limit old.database)
Finds limit old kept (End reply) new left =
    ((parts : List Frame) × (last : Frame) × (says : ClientMessage)
    × Comes limit old kept parts last says left × IsSaid says reply)
    ⊎ ((parts : List Frame) × (rest : List ℕ) × (kept ≡ texts parts ++ rest)
    × AreGathered limit old.gathered parts × (reply ≡ []))

-- what is written to a client whose bytes can't be taken because of this
abbrev pub IsRefusal : FrameError → List ℕ → Type 0
IsRefusal BadLength reply = IsError ProtocolViolation reply
IsRefusal TooLong reply = IsError ProtocolViolation reply
IsRefusal BadType reply = IsError ProtocolViolation reply
IsRefusal Memory reply = reply ≡ []

-- the session ends where no whole frame was there
abbrev pub Quits : ℕ → List ℕ → List Call → List ℕ → List ℕ → Type 0
Quits limit kept calls reply left =
    ((fault : FrameError) × (calls ≡ []) × (fault_at limit kept ≡ Some fault) × (left ≡ kept)
    × IsError ProtocolViolation reply)
    ⊎ (ReadToEnd [] calls × (fault_at limit kept ≡ None) × (left ≡ kept) × (reply ≡ []))
    ⊎ ((bytes : List ℕ) × Read bytes calls × (reply ≡ []))

-- the next request was read, or the client leaves
abbrev pub AsksNext : ℕ → List ℕ → List Call → Result (List ℕ) (List ℕ) → List ℕ → Type 0
AsksNext limit kept calls (Ok request) left = (bytes : List ℕ) × (parts : List Frame)
    × (last : Frame)
    × Read bytes calls × (kept ++ bytes ≡ request_of parts last ++ left)
    × Asks limit parts last message.Request × (request ≡ request_of parts last)
AsksNext limit kept calls (Err reply) left =
    (leaving : Leaving) × Leaves limit leaving kept calls reply left
