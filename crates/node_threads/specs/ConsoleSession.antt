-- A session of the admin console from its login to its end (own queries; PostgreSQL manual,
-- "Message Flow": Simple Query). `ServesConsole`: the login, queries one after another, each of
-- which is answered before more is read, and the end.
use Rattle.std.specs.Prelude.{◌≡◌, ◌≢◌, ◌⊎◌, ℕ, Bool, true, false, List, [], ◌∷◌, ◌++◌, Option, Some, None}
use Rattle.std.specs.List.{list_any}
use Rattle.peer_forward.specs.Calls.{Call}
use Rattle.pg_frames.specs.declared.frame.Frame.{Frame}
use Rattle.pg_frames.specs.declared.error.FrameError.{FrameError}
use Rattle.pg_frames.specs.FrameText.{text, texts, IsFrame, BeginsNoFrame, fault_at}
use Rattle.startup.specs.Replies.{Report, login_reporting, zero_ended}
use Rattle.startup.specs.declared.error_code.ErrorCode.TheVariants.{OutOfMemory, ProtocolViolation, FeatureNotSupported}
use Rattle.client_state.specs.Text.{is_zero}
use Rattle.ini_config.specs.Node.{NodeSettings}
use Rattle.node_core.specs.View.{NodeView, IsView}
use Rattle.locked_node.specs.Lock.{CallerView}
use Rattle.locked_node.specs.Replay.{fixed_of}
use Rattle.locked_node.specs.Journal.{CountsWithin}
use Rattle.locked_node.specs.Totals.{calls_at}
use Rattle.console.specs.Rows.{Answers}
use Rattle.session_io.specs.StreamCalls.{given, IsRead, IsFailedRead, Wrote, WroteSome}
use Rattle.session_io.specs.Asking.{SendsError}
use Rattle.node_threads.specs.Words.{AreRead}

-- ---- messages

-- no message is whole, and none is faulty: more is to be read
pub record NeedsMore (limit : ℕ) (kept : List ℕ) : Type 0 where
  pub none : BeginsNoFrame limit kept
  pub sound : fault_at limit kept ≡ None

-- The calls read on, each where no message was whole. `kept` was there before, and `all` is there
-- then.
abbrev pub ReadsOn : ℕ → List ℕ → List Call → List ℕ → Type 0
ReadsOn limit kept [] all = all ≡ kept
ReadsOn limit kept (call ∷ calls) all =
    NeedsMore limit kept × IsRead call × ReadsOn limit (kept ++ given (call ∷ [])) calls all

-- the next message was read, and this is left
pub record ReadsMessage (limit : ℕ) (kept : List ℕ) (calls : List Call) (message : Frame)
    (left : List ℕ) : Type 0 where
  pub all : List ℕ
  pub reads : ReadsOn limit kept calls all
  pub whole : all ≡ text message ++ left
  pub is_frame : IsFrame limit message

-- how a client leaves before its next message is whole
pub data Parting : Type 0 where
  -- with bytes that are no message
  Faulty : FrameError → Parting
  -- its input ended, or a read of it failed
  Silent : Parting
  -- memory for its next message was refused
  NoMemory : Parting

-- it leaves so
abbrev pub Parts : ℕ → Parting → List ℕ → List Call → List ℕ → Type 0
Parts limit (Faulty fault) kept calls left = (reads : List Call) × (tells : List Call)
    × (calls ≡ reads ++ tells) × ReadsOn limit kept reads left
    × BeginsNoFrame limit left × (fault_at limit left ≡ Some fault)
    × SendsError ProtocolViolation tells
Parts limit Silent kept calls left = (reads : List Call) × (last : Call)
    × (calls ≡ reads ++ last ∷ []) × ReadsOn limit kept reads left
    × NeedsMore limit left × IsFailedRead last
Parts limit NoMemory kept calls left = (more : List ℕ) × ReadsOn limit kept calls (left ++ more)

-- the next message was read, or the client leaves
abbrev pub Awaits : ℕ → List ℕ → List Call → Option Frame → List ℕ → Type 0
Awaits limit kept calls (Some message) left = ReadsMessage limit kept calls message left
Awaits limit kept calls None left = (parting : Parting) × Parts limit parting kept calls left

-- ---- answers

-- the body of a Query is this text and a zero byte, and no other byte of it is zero
pub record IsTextOf (body query : List ℕ) : Type 0 where
  pub ended : body ≡ zero_ended query
  pub one : list_any is_zero query ≡ false

-- what answers one text answers the other
abbrev pub IsReadAs : List ℕ → List ℕ → Type 0
IsReadAs query read = (view : NodeView) (words : List ℕ) (settings : NodeSettings)
    (frames : List Frame) → Answers read view words settings frames
    → Answers query view words settings frames

-- the caller's node at a moment, after the calls that the caller made
pub record IsMoment (caller : CallerView) (view : NodeView) : Type 0 where
  pub whole : IsView view
  pub node : fixed_of view ≡ fixed_of caller.start.view
  pub since : CountsWithin (calls_at caller.tally) view

-- These messages are the node's reply to a query, by its settings, by words that were read of a
-- board, and by the node at a moment, if they show its state.
pub record IsReply (settings : NodeSettings) (caller : CallerView) (query : List ℕ)
    (frames : List Frame) : Type 0 where
  pub words : List ℕ
  pub read : AreRead words
  pub answers : ((view : NodeView) → Answers query view words settings frames)
      ⊎ ((view : NodeView) × IsMoment caller view × Answers query view words settings frames)

-- a Query's text was answered, and the client took all of it
abbrev pub Replies : NodeSettings → CallerView → List ℕ → List Frame → List Call → Type 0
Replies settings caller query frames calls =
    IsReply settings caller query frames × Wrote (texts frames) calls

-- How a Query with this body ends the session: it has no text; or the client didn't take the whole
-- reply; or memory for that was refused.
abbrev pub EndsQuery : NodeSettings → CallerView → List ℕ → List Call → Type 0
EndsQuery settings caller body calls =
    (((query : List ℕ) → IsTextOf body query → ⊥) × SendsError ProtocolViolation calls)
    ⊎ ((query : List ℕ) × IsTextOf body query
    × ((calls ≡ [])
    ⊎ ((frames : List Frame) × IsReply settings caller query frames
    × WroteSome (texts frames) calls)))

-- a Query with this body was served, and the session goes on, or ends
abbrev pub TakesQuery : NodeSettings → CallerView → List ℕ → Bool → List Call → Type 0
TakesQuery settings caller body true calls = (query : List ℕ) × IsTextOf body query
    × (frames : List Frame) × Replies settings caller query frames calls
TakesQuery settings caller body false calls = EndsQuery settings caller body calls

-- How a message ends the session: it asks for that; or it is neither Query nor Terminate; or it is
-- a Query with which it ends.
abbrev pub EndsByMessage : NodeSettings → CallerView → Frame → List Call → Type 0
EndsByMessage settings caller message calls = ((message.kind ≡ 88) × (calls ≡ []))
    ⊎ ((message.kind ≢ 88) × (message.kind ≢ 81) × SendsError FeatureNotSupported calls)
    ⊎ ((message.kind ≡ 81) × EndsQuery settings caller message.body calls)

-- a message was served, and the session goes on, or ends
abbrev pub Takes : NodeSettings → CallerView → Frame → Bool → List Call → Type 0
Takes settings caller message true calls =
    (message.kind ≡ 81) × TakesQuery settings caller message.body true calls
Takes settings caller message false calls = EndsByMessage settings caller message calls

-- ---- sessions

-- a query and the messages that answer it
pub record Answered : Type 0 where
  pub query : List ℕ
  pub frames : List Frame

-- A Query was read, and then its answer was written whole.
pub record IsAnswered (limit : ℕ) (settings : NodeSettings) (caller : CallerView)
    (round : Answered) (kept : List ℕ) (calls : List Call) (left : List ℕ) : Type 0 where
  pub reads : List Call
  pub tells : List Call
  pub calls_are : calls ≡ reads ++ tells
  pub message : Frame
  pub read : ReadsMessage limit kept reads message left
  pub kind : message.kind ≡ 81
  pub asks : IsTextOf message.body round.query
  pub replies : Replies settings caller round.query round.frames tells

-- these queries, one after another
abbrev pub Answer : ℕ → NodeSettings → CallerView → List Answered → List ℕ → List Call → List ℕ
    → Type 0
Answer limit settings caller [] kept calls left = (calls ≡ []) × (left ≡ kept)
Answer limit settings caller (round ∷ rounds) kept calls left =
    (first : List Call) × (rest : List Call) × (calls ≡ first ++ rest) × (behind : List ℕ)
    × IsAnswered limit settings caller round kept first behind
    × Answer limit settings caller rounds behind rest left

-- the session ends by the next message, or before that is whole
abbrev pub EndsConsole : ℕ → NodeSettings → CallerView → List ℕ → List Call → List ℕ → Type 0
EndsConsole limit settings caller kept calls left =
    ((reads : List Call) × (tells : List Call) × (calls ≡ reads ++ tells) × (message : Frame)
    × ReadsMessage limit kept reads message left × EndsByMessage settings caller message tells)
    ⊎ ((parting : Parting) × Parts limit parting kept calls left)

-- a session after its login
pub record Queries (limit : ℕ) (settings : NodeSettings) (caller : CallerView) (kept : List ℕ)
    (calls : List Call) (left : List ℕ) : Type 0 where
  pub served : List Call
  pub last : List Call
  pub calls_are : calls ≡ served ++ last
  pub rounds : List Answered
  pub behind : List ℕ
  pub answers : Answer limit settings caller rounds kept served behind
  pub ends : EndsConsole limit settings caller behind last left

-- The client was greeted: it took all messages of a login without a key that reports these
-- parameters; or the session ends with them, of which it didn't take all, or with an error, since
-- memory for them was refused.
abbrev pub GreetsConsole : List Report → Bool → List Call → Type 0
GreetsConsole reports true calls = Wrote (login_reporting reports None) calls
GreetsConsole reports false calls =
    WroteSome (login_reporting reports None) calls ⊎ SendsError OutOfMemory calls

-- a session from its login to its end
abbrev pub ServesConsole : ℕ → List Report → NodeSettings → CallerView → List ℕ → List Call
    → List ℕ → Type 0
ServesConsole limit reports settings caller kept calls left =
    ((greeting : List Call) × (rest : List Call) × (calls ≡ greeting ++ rest)
    × GreetsConsole reports true greeting × Queries limit settings caller kept rest left)
    ⊎ (GreetsConsole reports false calls × (left ≡ kept))
