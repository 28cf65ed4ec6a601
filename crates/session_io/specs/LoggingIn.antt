-- A login at a server over a stream (PostgreSQL manual, "Message Flow": Start-up). `LogsIn`: the
-- StartupMessage was written whole, and the server's messages were read up to the one that
-- completes the login, and no byte more.
use Rattle.std.specs.Prelude.{◌≡◌, ℕ, ◌+◌, ◌<◌, List, [], ◌∷◌, ◌++◌, length, Option, Some, None}
use Rattle.std.specs.Borrow.{Bor}
use Rattle.std.specs.List.{AllByRecursion}
use Rattle.peer_forward.specs.Calls.{Call}
use Rattle.pg_frames.specs.declared.frame.Frame.{Frame}
use Rattle.pg_frames.specs.declared.piece.Piece.{Piece}
use Rattle.pg_frames.specs.declared.piece.Piece.TheVariants as piece
use Rattle.pg_frames.specs.FrameText.{texts, IsFrame}
use Rattle.pg_frames.specs.Passage.{Passage, IsHead, head_text, Hands, HasNoNext}
use Rattle.startup.specs.StartupMessage.{startup_request}
use Rattle.link_state.specs.Login.{Login, GoOn, IsUpAt, HasRead, HasReadHead, Reaches, body_part}
use Rattle.session_io.specs.declared.login.place.LoginPlace.{LoginPlace}
use Rattle.session_io.specs.declared.login.place.LoginPlace.TheVariants.{Between, Passing, Reading, Up}
use Rattle.session_io.specs.declared.login.place.Taken.{Taken}
use Rattle.session_io.specs.declared.login.place.Taken.TheVariants.{More, Done, Stopped}
use Rattle.session_io.specs.declared.login.place.Stop.TheVariants as why
use Rattle.session_io.specs.declared.login.place.Mark.{Mark}
use Rattle.session_io.specs.declared.login.place.Mark.TheVariants.{Head, Part, Tail}
use Rattle.session_io.specs.StreamCalls.{Wrote, Read}
use Rattle.session_io.specs.LoginRefused.{StopsOn, IsStop}

-- The calls read the server's messages up to the one with which the link is up with this key, and
-- not a byte more.
pub record ReadsLogin (limit : ℕ) (key : List ℕ) (calls : List Call) : Type 0 where
  pub frames : List Frame
  pub ready : Frame
  pub each : AllByRecursion (IsFrame limit) (frames ++ ready ∷ [])
  pub read : Read (texts (frames ++ ready ∷ [])) calls
  pub up : IsUpAt frames ready key

-- The calls wrote the StartupMessage whole, and after that read the server's messages.
pub record LogsIn (limit : ℕ) (user database key : List ℕ) (calls : List Call) : Type 0 where
  pub sends : List Call
  pub reads : List Call
  pub all : calls ≡ sends ++ reads
  pub sent : Wrote (startup_request user database) sends
  pub answered : ReadsLogin limit key reads

-- the frame with this type byte and this body
abbrev pub frame_of : ℕ → List ℕ → Frame
frame_of kind body = record { kind = kind; body = body }

-- this head of a message and this beginning of its body were handed out, which is this text, and
-- this many bytes of its body are to come
pub record IsOpen (limit : ℕ) (kind size : ℕ) (body : List ℕ) (shown : List ℕ) (left : Option ℕ)
    : Type 0 where
  pub head : IsHead limit kind size
  pub shown_is : shown ≡ head_text kind size ++ body
  pub more : ℕ
  pub left_is : left ≡ Some more
  pub size_is : 4 + length body + more ≡ size

-- this holds of each frame with this head whose body begins with these bytes
abbrev pub OfEach : ℕ → ℕ → List ℕ → (Frame → Type 0) → Type 0
OfEach kind size body P =
    (rest : List ℕ) → 4 + length (body ++ rest) ≡ size → P (frame_of kind (body ++ rest))

-- a login has read these messages, and goes on after each
abbrev pub GoesOn : Login → List Frame → Type 0
GoesOn login frames = HasRead login frames × GoOn frames

-- How far a login is at this place, which has read these messages, and this text of the next one.
-- This many bytes of its body are to come, and this part of what was handed out is kept.
abbrev pub IsAt : ℕ → LoginPlace → Login → List Frame → List ℕ → Option ℕ → List ℕ → Type 0
IsAt limit Between login frames shown left kept =
    GoesOn login frames × (shown ≡ []) × (left ≡ None) × (kept ≡ [])
IsAt limit Passing login frames shown left kept = (kind : ℕ) × (size : ℕ) × (body : List ℕ)
    × IsOpen limit kind size body shown left × (kept ≡ [])
    × OfEach kind size body (λ frame. GoesOn login (frames ++ frame ∷ []))
IsAt limit (Reading wanted) login frames shown left kept = (kind : ℕ) × (size : ℕ) × (body : List ℕ)
    × IsOpen limit kind size body shown left × (kept ≡ body) × (length body < wanted)
    × HasReadHead login frames kind size × (body_part kind size ≡ Some wanted)
IsAt limit (Up key) login frames shown left kept = (kind : ℕ) × (size : ℕ) × (body : List ℕ)
    × IsOpen limit kind size body shown left × (kept ≡ [])
    × OfEach kind size body (λ frame. IsUpAt frames frame key)

-- `stream` was read of a server. The reader is at this place, with this login and this passage.
pub record HasCome (limit : ℕ) (stream : List ℕ) (place : LoginPlace) (login : Login)
    (passage : Passage)
    : Type 0 where
  pub frames : List Frame
  pub each : AllByRecursion (IsFrame limit) frames
  pub shown : List ℕ
  pub limit_is : passage.limit ≡ limit
  pub stream_is : stream ≡ texts frames ++ (shown ++ passage.bytes)
  pub is_at : IsAt limit place login frames shown passage.left passage.passed

-- `stream` was read of a server, and the link is up at the last of the messages that were taken.
pub record IsDone (limit : ℕ) (stream : List ℕ) (key : List ℕ) (passage : Passage) : Type 0 where
  pub frames : List Frame
  pub ready : Frame
  pub each : AllByRecursion (IsFrame limit) (frames ++ ready ∷ [])
  pub stream_is : stream ≡ texts (frames ++ ready ∷ []) ++ passage.bytes
  pub up : IsUpAt frames ready key
  pub left_is : passage.left ≡ None
  pub passed_is : passage.passed ≡ []

-- what was taken of it
abbrev pub Takes : ℕ → List ℕ → Taken → Login → Passage → Type 0
Takes limit stream (More place) login passage = HasCome limit stream place login passage
Takes limit stream (Done key) login passage = IsDone limit stream key passage
Takes limit stream (Stopped stop) login passage = StopsOn limit stream stop passage

-- which piece this is
abbrev pub mark_of : Piece → Mark
mark_of (piece.Head kind size) = Head kind size
mark_of (piece.Part part) = Part
mark_of piece.Tail = Tail

-- what the end of a message means
abbrev pub after_tail : LoginPlace → Taken
after_tail Between = Stopped why.Failed
after_tail Passing = More Between
after_tail (Reading wanted) = Stopped why.Failed
after_tail (Up key) = Done key

-- this piece was just handed out
abbrev pub Handed : Passage → Mark → Passage → Type 0
Handed before (Head kind size) now = Hands before (Some (piece.Head kind size)) now
Handed before Part now = (part : Bor (List ℕ)) × Hands before (Some (piece.Part part)) now
Handed before Tail now = Hands before (Some piece.Tail) now

-- what is taken with a piece that was just handed out
abbrev pub TakesPiece : LoginPlace → Login → Mark → Passage → Taken → Login → Passage → Type 0
TakesPiece place old mark now taken new passage = (limit : ℕ) (stream : List ℕ) (before : Passage)
    → HasCome limit stream place old before → Handed before mark now
    → Takes limit stream taken new passage

-- what is taken with what a login reads of a message's body
abbrev pub TakesBody : Login → List ℕ → Taken → Login → Type 0
TakesBody old bytes (More Between) new = ⊥
TakesBody old bytes (More Passing) new = (frames : List Frame) (frame : Frame)
    → Reaches old frames frame bytes → GoesOn new (frames ++ frame ∷ [])
TakesBody old bytes (More (Reading wanted)) new = ⊥
TakesBody old bytes (More (Up key)) new = (frames : List Frame) (frame : Frame)
    → Reaches old frames frame bytes → IsUpAt frames frame key
TakesBody old bytes (Done key) new = ⊥
TakesBody old bytes (Stopped stop) new = IsStop bytes stop

-- nothing more is there, where more is to come
abbrev pub IsDry : Taken → Passage → Type 0
IsDry (More place) passage = HasNoNext passage.limit passage.left passage.bytes
IsDry (Done key) passage = Unit {0}
IsDry (Stopped stop) passage = Unit {0}
