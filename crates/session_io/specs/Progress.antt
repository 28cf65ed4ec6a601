-- How much of a reply was read and passed on (own). `asking`: a session that waits for a reply.
-- `LeavesBehind`: the session and the link after a stay.
use Rattle.std.specs.Prelude.{◌≡◌, ◌⊎◌, ℕ, ◌+◌, ◌≤◌, true, List, [], ◌∷◌, ◌++◌, length, Option, Some, None}
use Rattle.std.specs.List.{AllByRecursion}
use Rattle.peer_forward.specs.Calls.{Call}
use Rattle.pg_frames.specs.declared.frame.Frame.{Frame}
use Rattle.pg_frames.specs.FrameText.{texts}
use Rattle.pg_frames.specs.Passage.{Passage, start, IsHead, head_text, HasNoNext}
use Rattle.pg_frames.specs.declared.piece.Piece.{Piece}
use Rattle.pg_frames.specs.declared.piece.Piece.TheVariants.{Head, Part, Tail}
use Rattle.startup.specs.declared.error_code.ErrorCode.{ErrorCode}
use Rattle.client_state.specs.Acts.{ready_text, over, head_act, after_head}
use Rattle.client_state.specs.declared.act.HeadAct.{HeadAct}
use Rattle.client_state.specs.declared.act.HeadAct.TheVariants.{PassOn as Passes, Ready as Reads, Close as Closes}
use Rattle.client_state.specs.Session.{Session}
use Rattle.client_state.specs.LinkMessage.{link_message, status_of}
use Rattle.client_state.specs.declared.link_message.Status.TheVariants.{Idle, InTransaction}
use Rattle.client_state.specs.declared.link_message.LinkMessage.TheVariants.{PassOn, Refused as RefusedHead}
use Rattle.session_io.specs.declared.session.place.Place.{Place}
use Rattle.session_io.specs.declared.session.place.Place.TheVariants.{Between, Inside, AtReady, Status}
use Rattle.session_io.specs.declared.session.place.Handed.{Handed}
use Rattle.session_io.specs.declared.session.place.Handed.TheVariants.{More, Ready, Refused}
use Rattle.session_io.specs.declared.session.outcome.Stayed.{Stayed}
use Rattle.session_io.specs.declared.session.outcome.Stayed.TheVariants.{Release, Close, End}
use Rattle.session_io.specs.Asking.{IsError}
use Rattle.session_io.specs.StreamCalls.{Wrote, WroteSome}
use Rattle.session_io.specs.Replying.{IsPassedOn, ReplyEnd, Ready as ReadyEnd, Unclear, Unfit, Faulty, Lost, Cut, Untold, heard, passed_on, ReadsReply, StopsAt, WritesReply, EndsStay, ready_outcome}

-- a session that waits for the reply to a request
abbrev pub asking : ℕ → ℕ → Session
asking limit database = record {
  limit = limit;
  database = database;
  leased = true;
  outstanding = 1;
  gathered = [];
}

-- a session in an open transaction, with nothing outstanding
abbrev pub in_transaction : ℕ → ℕ → Session
in_transaction limit database = record {
  limit = limit;
  database = database;
  leased = true;
  outstanding = 0;
  gathered = [];
}

-- what of the frame at this place isn't passed on before it is whole
abbrev pub withheld : Place → List ℕ
withheld Between = []
withheld Inside = []
withheld AtReady = head_text 90 5
withheld (Status status) = ready_text status

-- what of the frame at this place is passed on before it is whole, where this many bytes of its
-- body are to come
abbrev pub IsShown : ℕ → Place → Option ℕ → List ℕ → Type 0
IsShown limit Between left shown = (left ≡ None) × (shown ≡ [])
IsShown limit Inside left shown = (kind : ℕ) × (size : ℕ) × (body : List ℕ) × (more : ℕ)
    × IsHead limit kind size × (link_message kind size ≡ PassOn)
    × (shown ≡ head_text kind size ++ body) × (left ≡ Some more) × (4 + length body + more ≡ size)
IsShown limit AtReady left shown = (left ≡ Some 1) × (shown ≡ []) × (5 ≤ limit)
IsShown limit (Status status) left shown = (left ≡ Some 0) × (shown ≡ []) × (5 ≤ limit)

-- Of a reply, `stream` was read, and `written` was written to the client. The rest is at this
-- place, and in this passage.
pub record HandedOut (limit : ℕ) (stream written : List ℕ) (place : Place) (passage : Passage)
    : Type 0 where
  pub frames : List Frame
  pub each : AllByRecursion (IsPassedOn limit) frames
  pub limit_is : passage.limit ≡ limit
  pub shown : List ℕ
  pub is_shown : IsShown limit place passage.left shown
  pub stream_is : stream ≡ texts frames ++ (shown ++ (withheld place ++ passage.bytes))
  pub front : List ℕ
  pub passed_is : passage.passed ≡ front ++ withheld place
  pub written_is : written ++ front ≡ texts frames ++ shown

-- this was handed out last, and isn't written yet
pub record HandedLast (limit : ℕ) (stream written last : List ℕ) (passage : Passage) : Type 0 where
  pub frames : List Frame
  pub each : AllByRecursion (IsPassedOn limit) frames
  pub limit_is : passage.limit ≡ limit
  pub enough : 5 ≤ limit
  pub left : passage.left ≡ None
  pub stream_is : stream ≡ texts frames ++ (last ++ passage.bytes)
  pub front : List ℕ
  pub passed_is : passage.passed ≡ front ++ last
  pub written_is : written ++ front ≡ texts frames

-- the head of a frame that isn't passed on was handed out last
pub record HandedUnfit (limit : ℕ) (stream written : List ℕ) (reply : List ℕ) (passage : Passage)
    : Type 0 where
  pub frames : List Frame
  pub each : AllByRecursion (IsPassedOn limit) frames
  pub kind : ℕ
  pub size : ℕ
  pub head : IsHead limit kind size
  pub code : ErrorCode
  pub means : link_message kind size ≡ RefusedHead code
  pub error : IsError code reply
  pub stream_is : stream ≡ texts frames ++ (head_text kind size ++ passage.bytes)
  pub front : List ℕ
  pub passed_is : passage.passed ≡ front ++ head_text kind size
  pub written_is : written ++ front ≡ texts frames

-- what was handed out
abbrev pub HandsOut : ℕ → List ℕ → List ℕ → Handed → Passage → Type 0
HandsOut limit stream written (More place) passage = HandedOut limit stream written place passage
HandsOut limit stream written (Ready status) passage =
    HandedLast limit stream written (ready_text status) passage
HandsOut limit stream written (Refused reply) passage =
    HandedUnfit limit stream written reply passage

-- nothing more is there, where more of the reply is to come
abbrev pub IsDry : Handed → Passage → Type 0
IsDry (More place) passage = HasNoNext passage.limit passage.left passage.bytes
IsDry (Ready status) passage = Unit {0}
IsDry (Refused reply) passage = Unit {0}

-- the session stays as it was, unless it ends
abbrev pub KeepsSession : Handed → Session → Session → Type 0
KeepsSession (More place) old new = new ≡ old
KeepsSession (Ready status) old new = new ≡ old
KeepsSession (Refused reply) old new = Unit {0}

-- the head of a ReadyForQuery is one of the format
abbrev pub HasHead : ℕ → ReplyEnd → Type 0
HasHead limit (ReadyEnd status after) = 5 ≤ limit
HasHead limit (Unclear status after) = 5 ≤ limit
HasHead limit (Unfit kind size after) = Unit {0}
HasHead limit (Faulty rest fault) = Unit {0}
HasHead limit (Lost rest) = Unit {0}
HasHead limit (Cut kind size body) = Unit {0}
HasHead limit (Untold begun after) = Unit {0}

-- A reply ends so, of which `stream` was read before and `written` written.
pub record Finishes (limit : ℕ) (stream written : List ℕ) (end : ReplyEnd)
    (reads tells : List Call) : Type 0
  where
    pub frames : List Frame
    pub each : AllByRecursion (IsPassedOn limit) frames
    pub head : HasHead limit end
    pub bytes : List ℕ
    pub bytes_are : stream ++ bytes ≡ heard frames end
    pub read : ReadsReply end bytes reads
    pub stops : StopsAt limit frames end stream reads
    pub text : List ℕ
    pub text_is : written ++ text ≡ passed_on frames end
    pub told : WritesReply end text tells

-- The stay ends with the reply.
abbrev pub EndsHere : ℕ → List ℕ → List ℕ → List Call → List Call → Stayed → Type 0
EndsHere limit stream written reads tells stayed =
    (end : ReplyEnd) × Finishes limit stream written end reads tells × EndsStay limit end stayed

-- The reply is whole, and the stay goes on.
abbrev pub GoesOn : ℕ → List ℕ → List ℕ → List Call → List Call → Type 0
GoesOn limit stream written reads tells = (status : ℕ)
    × Finishes limit stream written (ReadyEnd status []) reads tells
    × (status_of status ≡ InTransaction)

-- what is left of the session and of the link where the session goes on
abbrev pub LeavesBehind : ℕ → Stayed → Session → Session → Passage → Type 0
LeavesBehind limit Release old new passage = (new ≡ over old) × (passage ≡ start limit)
LeavesBehind limit Close old new passage = new ≡ over old
LeavesBehind limit (End reply) old new passage = Unit {0}

-- the client took the text, or didn't take it whole, and the stay ends so
abbrev pub Refuses : List ℕ → List ℕ → Stayed → List Call → Type 0
Refuses text reply stayed tells =
    (Wrote text tells × (stayed ≡ End reply)) ⊎ (WroteSome text tells × (stayed ≡ End []))

-- the client took the text up to an idle ReadyForQuery, behind which these bytes stand, or didn't
abbrev pub FinishesIdle : List ℕ → List ℕ → Stayed → List Call → Type 0
FinishesIdle text after stayed tells = (Wrote text tells × ready_outcome Idle after stayed)
    ⊎ (WroteSome text tells × (stayed ≡ End []))

-- the client took the text up to a ReadyForQuery that leaves a transaction open, or didn't
abbrev pub FinishesOpen : List ℕ → List ℕ → Option Stayed → List Call → Type 0
FinishesOpen text after None tells = Wrote text tells × (after ≡ [])
FinishesOpen text after (Some stayed) tells =
    (Wrote text tells × ready_outcome InTransaction after stayed)
    ⊎ (WroteSome text tells × (stayed ≡ End []))

-- what the head of a frame means
abbrev pub HeadMeans : HeadAct → Handed → Type 0
HeadMeans Passes handed = handed ≡ More Inside
HeadMeans Reads handed = handed ≡ More AtReady
HeadMeans (Closes text) handed = (handed ≡ Refused text) ⊎ (handed ≡ Refused [])

-- where a reader is after a part of a body
abbrev pub after_part : Place → List ℕ → Place
after_part AtReady [] = AtReady
after_part AtReady (status ∷ more) = Status status
after_part Between part = Between
after_part Inside part = Inside
after_part (Status status) part = Status status

-- what the end of a frame means
abbrev pub after_tail : Place → Handed
after_tail (Status status) = Ready status
after_tail Between = More Between
after_tail Inside = More Between
after_tail AtReady = More Between

-- what a piece means at this place
abbrev pub PieceMeans : Place → Session → Piece → Handed → Session → Type 0
PieceMeans place old (Head kind size) handed new =
    HeadMeans (head_act old kind size) handed × (new ≡ after_head old kind size)
PieceMeans place old (Part part) handed new =
    (handed ≡ More (after_part place part.now)) × (new ≡ old)
PieceMeans place old Tail handed new = (handed ≡ after_tail place) × (new ≡ old)

-- these bytes are whole frames that are passed on
abbrev pub ArePassedOn : ℕ → List ℕ → Type 0
ArePassedOn limit bytes =
    (frames : List Frame) × AllByRecursion (IsPassedOn limit) frames × (bytes ≡ texts frames)
