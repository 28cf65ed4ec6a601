-- How a reply is read from the link and passed on to the client, how it may end, and what each end
-- means for the stay (own, after PgBouncer's transaction pooling; PostgreSQL manual, "Message
-- Flow").
use Rattle.std.specs.Prelude.{◌≡◌, ◌⊎◌, ℕ, ◌+◌, ◌<◌, List, [], ◌∷◌, ◌++◌, length, drop, Some, None}
use Rattle.std.specs.List.{AllByRecursion}
use Rattle.peer_forward.specs.Calls.{Call}
use Rattle.pg_frames.specs.declared.frame.Frame.{Frame}
use Rattle.pg_frames.specs.declared.error.FrameError.{FrameError}
use Rattle.pg_frames.specs.FrameText.{texts, IsFrame, fault_at}
use Rattle.pg_frames.specs.Passage.{IsHead, head_text, BeginsNoHead}
use Rattle.startup.specs.declared.error_code.ErrorCode.{ErrorCode}
use Rattle.startup.specs.declared.error_code.ErrorCode.TheVariants.{ConnectionFailure}
use Rattle.client_state.specs.Acts.{ready_text}
use Rattle.client_state.specs.LinkMessage.{link_message, status_of}
use Rattle.client_state.specs.declared.link_message.LinkMessage.TheVariants.{PassOn, Refused}
use Rattle.client_state.specs.declared.link_message.Status.{Status}
use Rattle.client_state.specs.declared.link_message.Status.TheVariants.{Idle, InTransaction, Unknown}
use Rattle.session_io.specs.declared.session.outcome.Stayed.{Stayed}
use Rattle.session_io.specs.declared.session.outcome.Stayed.TheVariants.{Release, Close, End}
use Rattle.session_io.specs.StreamCalls.{given, Wrote, WroteSome, Read, ReadToEnd}
use Rattle.session_io.specs.Asking.{IsError}

-- a frame of the link that is passed on
pub record IsPassedOn (limit : ℕ) (frame : Frame) : Type 0 where
  pub is_frame : IsFrame limit frame
  pub means : link_message frame.kind (4 + length frame.body) ≡ PassOn

-- a head whose frame is passed on, with the first bytes of its body
pub record IsBegun (limit : ℕ) (kind size : ℕ) (body : List ℕ) : Type 0 where
  pub head : IsHead limit kind size
  pub means : link_message kind size ≡ PassOn
  pub more : 4 + length body < size

-- what follows the frames of a reply that are passed on whole, before its ReadyForQuery
pub data ReplyEnd : Type 0 where
  -- its ReadyForQuery, with this status, and behind it these bytes
  Ready : (status : ℕ) (after : List ℕ) → ReplyEnd
  -- a ReadyForQuery whose status is unknown
  Unclear : (status : ℕ) (after : List ℕ) → ReplyEnd
  -- the head of a frame that isn't passed on
  Unfit : (kind size : ℕ) (after : List ℕ) → ReplyEnd
  -- bytes that are no frame
  Faulty : (rest : List ℕ) (fault : FrameError) → ReplyEnd
  -- no more of the link, and nothing more of the reply that could be passed on
  Lost : (rest : List ℕ) → ReplyEnd
  -- no more of the link, inside a frame whose head is passed on
  Cut : (kind size : ℕ) (body : List ℕ) → ReplyEnd
  -- something to be passed on, which the client doesn't take whole, and bytes behind it
  Untold : (begun after : List ℕ) → ReplyEnd

-- what is read from the link of a reply: these frames, and then its end
abbrev pub heard : List Frame → ReplyEnd → List ℕ
heard frames (Ready status after) = texts frames ++ (ready_text status ++ after)
heard frames (Unclear status after) = texts frames ++ (ready_text status ++ after)
heard frames (Unfit kind size after) = texts frames ++ (head_text kind size ++ after)
heard frames (Faulty rest fault) = texts frames ++ rest
heard frames (Lost rest) = texts frames ++ rest
heard frames (Cut kind size body) = texts frames ++ (head_text kind size ++ body)
heard frames (Untold begun after) = texts frames ++ (begun ++ after)

-- what of it goes to the client
abbrev pub passed_on : List Frame → ReplyEnd → List ℕ
passed_on frames (Ready status after) = texts frames ++ ready_text status
passed_on frames (Unclear status after) = texts frames
passed_on frames (Unfit kind size after) = texts frames
passed_on frames (Faulty rest fault) = texts frames
passed_on frames (Lost rest) = texts frames
passed_on frames (Cut kind size body) = texts frames ++ (head_text kind size ++ body)
passed_on frames (Untold begun after) = texts frames ++ begun

-- the calls that read a reply from the link: the last finds its end where no more comes of it
abbrev pub ReadsReply : ReplyEnd → List ℕ → List Call → Type 0
ReadsReply (Lost rest) bytes calls = ReadToEnd bytes calls
ReadsReply (Cut kind size body) bytes calls = ReadToEnd bytes calls
ReadsReply end bytes calls = Read bytes calls

-- no read is made once all this is there: it isn't whole without the last
abbrev pub ReadsNoFurther : List ℕ → List ℕ → List Call → Type 0
ReadsNoFurther whole before reads = (earlier : List Call) (last : Call)
    → reads ≡ earlier ++ last ∷ [] → length (before ++ given earlier) < length whole

-- no read is made once a fault is there behind this
abbrev pub ReadsNoFault : ℕ → List ℕ → List ℕ → List Call → Type 0
ReadsNoFault limit front before reads = (earlier : List Call) (last : Call)
    → reads ≡ earlier ++ last ∷ []
    → fault_at limit (drop (length front) (before ++ given earlier)) ≡ None

-- nothing is read behind a ReadyForQuery, nor behind the head of a frame that isn't passed on, nor
-- behind bytes that are no frame: what stands there came with the same read
abbrev pub StopsAt : ℕ → List Frame → ReplyEnd → List ℕ → List Call → Type 0
StopsAt limit frames (Ready status after) before reads =
    ReadsNoFurther (texts frames ++ ready_text status) before reads
StopsAt limit frames (Unclear status after) before reads =
    ReadsNoFurther (texts frames ++ ready_text status) before reads
StopsAt limit frames (Unfit kind size after) before reads =
    ReadsNoFurther (texts frames ++ head_text kind size) before reads
StopsAt limit frames (Faulty rest fault) before reads =
    ReadsNoFault limit (texts frames) before reads
StopsAt limit frames (Lost rest) before reads = Unit {0}
StopsAt limit frames (Cut kind size body) before reads = Unit {0}
StopsAt limit frames (Untold begun after) before reads = Unit {0}

-- the calls that write it to the client: all of it, unless the client doesn't take it
abbrev pub WritesReply : ReplyEnd → List ℕ → List Call → Type 0
WritesReply (Untold begun after) text calls = WroteSome text calls
WritesReply end text calls = Wrote text calls

-- A reply: frames that are passed on, and its end. `before` is what was read of the link before;
-- the calls are those that read the rest from the link, and that write it to the client.
pub record Replies (limit : ℕ) (before : List ℕ) (frames : List Frame) (end : ReplyEnd)
    (reads tells : List Call)
    : Type 0 where
  pub each : AllByRecursion (IsPassedOn limit) frames
  pub bytes : List ℕ
  pub bytes_are : before ++ bytes ≡ heard frames end
  pub read : ReadsReply end bytes reads
  pub stops : StopsAt limit frames end before reads
  pub told : WritesReply end (passed_on frames end) tells

-- what the client doesn't take: a ReadyForQuery that it was to get, or a part of a frame, or what
-- frames were whole
abbrev pub IsForClient : ℕ → List ℕ → Type 0
IsForClient limit begun = (begun ≡ [])
    ⊎ ((kind : ℕ) × (size : ℕ) × (body : List ℕ) × IsBegun limit kind size body
    × (begun ≡ head_text kind size ++ body))
    ⊎ ((status : ℕ) × (status_of status ≡ Unknown → ⊥) × (begun ≡ ready_text status))

-- the outcome of a stay at a ReadyForQuery with this status, where these bytes stand behind it
abbrev pub ready_outcome : Status → List ℕ → Stayed → Type 0
ready_outcome Idle [] outcome = outcome ≡ Release
ready_outcome Idle (byte ∷ after) outcome = outcome ≡ Close
ready_outcome InTransaction [] outcome = ⊥
ready_outcome InTransaction (byte ∷ after) outcome = outcome ≡ End []
ready_outcome Unknown after outcome = ⊥

-- the session ends because of the link
abbrev pub EndsBy : ErrorCode → Stayed → Type 0
EndsBy code outcome = (reply : List ℕ) × IsError code reply × (outcome ≡ End reply)

-- the outcome of a stay that ends with a reply
abbrev pub EndsStay : ℕ → ReplyEnd → Stayed → Type 0
EndsStay limit (Ready status after) outcome = ready_outcome (status_of status) after outcome
EndsStay limit (Unclear status after) outcome =
    (status_of status ≡ Unknown) × EndsBy ConnectionFailure outcome
EndsStay limit (Unfit kind size after) outcome = (code : ErrorCode) × IsHead limit kind size
    × (link_message kind size ≡ Refused code) × EndsBy code outcome
EndsStay limit (Faulty rest fault) outcome =
    (fault_at limit rest ≡ Some fault) × EndsBy ConnectionFailure outcome
EndsStay limit (Lost rest) outcome = (BeginsNoHead limit rest ⊎ (rest ≡ head_text 90 5))
    × (fault_at limit rest ≡ None) × EndsBy ConnectionFailure outcome
EndsStay limit (Cut kind size body) outcome = IsBegun limit kind size body × (outcome ≡ End [])
EndsStay limit (Untold begun after) outcome = IsForClient limit begun × (outcome ≡ End [])
