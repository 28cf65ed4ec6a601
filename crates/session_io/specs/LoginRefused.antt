-- What a server says that refuses a login (PostgreSQL manual, "Message Flow": Start-up, and "Message
-- Formats"; how much of an error is kept is own). `IsRefused`: the StartupMessage was written whole,
-- and with this the server answered.
use Rattle.std.specs.Prelude.{◌≡◌, ◌≢◌, ◌⊎◌, ℕ, ◌-◌, ◌≤◌, min, List, ◌++◌, length, take}
use Rattle.std.specs.List.{AllByRecursion}
use Rattle.byteorder.specs.Endian.{big_number}
use Rattle.peer_forward.specs.Calls.{Call, Effect}
use Rattle.pg_frames.specs.declared.frame.Frame.{Frame}
use Rattle.pg_frames.specs.FrameText.{texts, IsFrame}
use Rattle.pg_frames.specs.Passage.{Passage, IsHead, head_text}
use Rattle.startup.specs.Fields.{HasField}
use Rattle.startup.specs.StartupMessage.{startup_request}
use Rattle.link_state.specs.Login.{GoOn}
use Rattle.session_io.specs.declared.login.place.Stop.{Stop}
use Rattle.session_io.specs.declared.login.place.Stop.TheVariants as why
use Rattle.session_io.specs.declared.login.refused.LoginRefusal.{LoginRefusal}
use Rattle.session_io.specs.declared.login.refused.LoginRefusal.TheVariants.{Error, Asks}
use Rattle.session_io.specs.declared.login.server.LinkError.{LinkError}
use Rattle.session_io.specs.declared.login.server.LinkError.TheVariants.{Lost, Memory, Refused}
use Rattle.session_io.specs.StreamCalls.{SomeCalls, Wrote, Read, ReadToEnd, given}

-- The bytes are messages with which a login goes on, and then the head of a message with this type
-- and this length field, and what follows that.
pub record StopsWith (limit kind size : ℕ) (rest bytes : List ℕ) : Type 0 where
  pub frames : List Frame
  pub each : AllByRecursion (IsFrame limit) frames
  pub go_on : GoOn frames
  pub head : IsHead limit kind size
  pub bytes_are : bytes ≡ texts frames ++ (head_text kind size ++ rest)

-- an authentication request, whose code is this and not that of AuthenticationOk
pub record SaysAsks (limit code : ℕ) (bytes : List ℕ) : Type 0 where
  pub size : ℕ
  pub part : List ℕ
  pub rest : List ℕ
  pub stops : StopsWith limit 82 size (part ++ rest) bytes
  pub part_len : length part ≡ 4
  pub code_is : code ≡ big_number 4 part
  pub other : code ≢ 0

-- how many bytes are kept of the body of an error with this length field
abbrev pub told_of : ℕ → ℕ
told_of size = min (size - 4) 1024

-- an ErrorResponse; this is the beginning of its body, as far as it came and is kept
pub record SaysError (limit : ℕ) (text bytes : List ℕ) : Type 0 where
  pub size : ℕ
  pub rest : List ℕ
  pub stops : StopsWith limit 69 size rest bytes
  pub text_is : text ≡ take (told_of size) rest

-- this is what the server said, of which these bytes came
abbrev pub Says : ℕ → LoginRefusal → List ℕ → Type 0
Says limit (Error text) bytes = SaysError limit text.items bytes
Says limit (Asks code) bytes = SaysAsks limit code bytes

-- this is the first field of this type in what is kept of the error's body; an authentication
-- request has none
abbrev pub HasText : LoginRefusal → ℕ → List ℕ → Type 0
HasText (Error body) kind text = HasField body.items kind text
HasText (Asks code) kind text = ⊥

-- the calls wrote the StartupMessage whole, and after that read this answer
pub record IsRefused (limit : ℕ) (user database : List ℕ) (refusal : LoginRefusal)
    (calls : List Call)
    : Type 0 where
  pub sends : List Call
  pub answers : List Call
  pub all : calls ≡ sends ++ answers
  pub sent : Wrote (startup_request user database) sends
  pub said : Says limit refusal (given answers)

-- of an error that has a refusal, this holds of that
abbrev pub OfRefusal : (LoginRefusal → Type 0) → LinkError → Type 0
OfRefusal P Lost = Unit {0}
OfRefusal P Memory = Unit {0}
OfRefusal P (Refused refusal) = P refusal

-- The code's steps (internal).

-- what stopped a login that read this stream, of which the passage has what isn't handed out
abbrev pub StopsOn : ℕ → List ℕ → Stop → Passage → Type 0
StopsOn limit stream why.Failed passage = Unit {0}
StopsOn limit stream (why.Asks code) passage = SaysAsks limit code stream
StopsOn limit stream (why.Error size) passage = StopsWith limit 69 size passage.bytes stream

-- the calls read what stopped it
abbrev pub StopsAt : {T : Type 0} → Effect T → Effect T → T → ℕ → Stop → T → Passage → Type 0
StopsAt wrote gave old limit why.Failed new passage = Unit {0}
StopsAt wrote gave old limit (why.Asks code) new passage = SomeCalls wrote gave old new
    (λ calls. SaysAsks limit code (given calls))
StopsAt wrote gave old limit (why.Error size) new passage = SomeCalls wrote gave old new
    (λ calls. StopsWith limit 69 size passage.bytes (given calls))

-- a length field counts itself
abbrev pub Fits : Stop → Type 0
Fits why.Failed = Unit {0}
Fits (why.Asks code) = Unit {0}
Fits (why.Error size) = 4 ≤ size

-- the calls read a text of this length behind these bytes, or all up to the end of the input
abbrev pub ReadsAfter : List ℕ → ℕ → List ℕ → List Call → Type 0
ReadsAfter begun wanted text calls = (more : List ℕ) × (text ≡ take wanted (begun ++ more))
    × ((Read more calls × (length text ≡ wanted)) ⊎ ReadToEnd more calls)

-- the refusal of a login that stopped so, behind these bytes
abbrev pub TellsStop : {T : Type 0} → Effect T → Effect T → T → List ℕ → Stop → LoginRefusal → T
    → Type 0
TellsStop wrote gave old begun why.Failed refusal new = ⊥
TellsStop wrote gave old begun (why.Asks code) (Error text) new = ⊥
TellsStop wrote gave old begun (why.Asks code) (Asks told) new = (told ≡ code) × (new ≡ old)
TellsStop wrote gave old begun (why.Error size) (Error text) new =
    SomeCalls wrote gave old new (ReadsAfter begun (told_of size) text.items)
TellsStop wrote gave old begun (why.Error size) (Asks told) new = ⊥

-- what stops a login that read these bytes of a body
abbrev pub IsStop : List ℕ → Stop → Type 0
IsStop bytes why.Failed = Unit {0}
IsStop bytes (why.Asks code) =
    (length bytes ≡ 4) × (code ≡ big_number 4 bytes) × (code ≢ 0)
IsStop bytes (why.Error size) = ⊥
