-- How a client goes on in an open transaction: its next request, or its end (own, after PgBouncer's
-- transaction pooling; PostgreSQL manual, "Message Flow").
use Rattle.std.specs.Prelude.{◌≡◌, ◌⊎◌, ℕ, List, [], ◌++◌, Some, None}
use Rattle.peer_forward.specs.Calls.{Call}
use Rattle.pg_frames.specs.declared.frame.Frame.{Frame}
use Rattle.pg_frames.specs.declared.error.FrameError.{FrameError}
use Rattle.pg_frames.specs.FrameText.{texts, BeginsNoFrame, fault_at}
use Rattle.startup.specs.declared.error_code.ErrorCode.{ErrorCode}
use Rattle.startup.specs.declared.error_code.ErrorCode.TheVariants.{ProtocolViolation}
use Rattle.client_state.specs.Acts.{fatal}
use Rattle.client_state.specs.declared.client_message.ClientMessage.{ClientMessage}
use Rattle.client_state.specs.declared.client_message.ClientMessage.TheVariants.{Request, Gathered, Terminate, Refused}
use Rattle.client_state.specs.Request.{AreGathered, Asks, request_of}
use Rattle.session_io.specs.StreamCalls.{Sends, Read, ReadToEnd}

-- the session ends with this error, or without it where memory for it was refused
abbrev pub IsError : ErrorCode → List ℕ → Type 0
IsError code reply = (reply ≡ fatal code) ⊎ (reply ≡ [])

-- it was written, as far as the client took it
abbrev pub SendsError : ErrorCode → List Call → Type 0
SendsError code calls = (reply : List ℕ) × IsError code reply × Sends reply calls

-- how a client leaves that was to ask again, after messages that were gathered
pub data Leaving : Type 0 where
  -- with a message that isn't taken, or that asks for the end
  Says : List Frame → Frame → Leaving
  -- with bytes that are no frame
  Faulty : List Frame → FrameError → Leaving
  -- without another whole message: its input ended, or a read of it failed
  Silent : List Frame → Leaving
  -- memory for its next message was refused, and this of its input isn't taken
  NoMemory : List Frame → List ℕ → Leaving

-- what is written to the client because of its message
abbrev pub IsSaid : ClientMessage → List ℕ → Type 0
IsSaid Terminate reply = reply ≡ []
IsSaid (Refused code) reply = IsError code reply
IsSaid Request reply = ⊥
IsSaid Gathered reply = ⊥

-- The client leaves so: `kept` is what was read of it before, the calls are those that read more,
-- the reply is what is written to it then, and `left` is what follows the last frame that was
-- taken.
abbrev pub Leaves : ℕ → Leaving → List ℕ → List Call → List ℕ → List ℕ → Type 0
Leaves limit (Says parts last) kept calls reply left = (bytes : List ℕ) × (message : ClientMessage)
    × Read bytes calls × (kept ++ bytes ≡ request_of parts last ++ left)
    × Asks limit parts last message × IsSaid message reply
Leaves limit (Faulty parts fault) kept calls reply left = (bytes : List ℕ)
    × Read bytes calls × (kept ++ bytes ≡ texts parts ++ left) × AreGathered limit [] parts
    × BeginsNoFrame limit left × (fault_at limit left ≡ Some fault)
    × IsError ProtocolViolation reply
Leaves limit (Silent parts) kept calls reply left = (bytes : List ℕ)
    × ReadToEnd bytes calls × (kept ++ bytes ≡ texts parts ++ left) × AreGathered limit [] parts
    × BeginsNoFrame limit left × (fault_at limit left ≡ None) × (reply ≡ [])
Leaves limit (NoMemory parts rest) kept calls reply left = (bytes : List ℕ)
    × Read bytes calls × (kept ++ bytes ≡ texts parts ++ rest) × AreGathered limit [] parts
    × (reply ≡ [])
