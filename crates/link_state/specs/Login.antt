-- A login at a server, by the list of messages read so far (PostgreSQL manual, "Message Flow":
-- Start-up; which messages are accepted is own). `GoOn`: the login goes on. `IsUpAt`: it is
-- complete, with this key. `IsRefused`: it is refused, by this number. `HasRead` and `HasReadHead`:
-- a login has read these messages.
use Rattle.std.specs.Prelude.{ℕ, ◌≡◌, ◌+◌, ◌⊎◌, true, false, IsTrue, List, [], ◌∷◌, ◌++◌, length, Option, Some, None, Result, Ok, Err}
use Rattle.std.specs.List.{AllByRecursion, filter_map, last_or}
use Rattle.pg_frames.specs.declared.frame.Frame.{Frame}
use Rattle.link_state.specs.declared.error.LinkError.{LinkError}
use Rattle.link_state.specs.declared.error.LinkError.TheVariants.{NoKey, OutOfProfile}
use Rattle.link_state.specs.declared.act.LoginHead.{LoginHead}
use Rattle.link_state.specs.declared.act.LoginHead.TheVariants.{Skip, Body as ReadBody}
use Rattle.link_state.specs.declared.head.Head.TheVariants.{Body}
use Rattle.link_state.specs.declared.stage.Stage.{Stage}
use Rattle.link_state.specs.declared.stage.Stage.TheVariants.{Waiting, Reading, Done, Refused}
use Rattle.link_state.specs.declared.message.Message.{Message}
use Rattle.link_state.specs.declared.message.Message.TheVariants.{Passed, Key, Ready, Fault}
use Rattle.link_state.specs.Message.{message, head_of, part_of, goes_on, key_in}

-- the StartupMessage that opens it, and how far it has come
pub record Login : Type 0 where
  pub request : List ℕ
  pub stage : Stage

-- it goes on after each of these
abbrev pub GoOn : List Frame → Type 0
GoOn frames = AllByRecursion (λ frame. IsTrue (goes_on (message frame))) frames

-- the key that the last BackendKeyData among these gave
abbrev pub last_key : List Frame → Option (List ℕ)
last_key frames = last_or None (filter_map (λ frame. key_in (message frame)) frames)

-- why it fails at a message that means this, with this last key before it: at a ReadyForQuery with
-- no key before it, at one that isn't idle, and at what no login takes
abbrev pub refusal : Message → Option (List ℕ) → Option LinkError
refusal Passed key = None
refusal (Key new) key = None
refusal (Ready idle) None = Some NoKey
refusal (Ready true) (Some key) = None
refusal (Ready false) (Some key) = Some OutOfProfile
refusal (Fault error) key = Some error

-- it is up with this key at the message after these: it went on after each of them, so this is the
-- first ReadyForQuery; that is idle, and the last BackendKeyData before it gave the key
pub record IsUpAt (before : List Frame) (ready : Frame) (key : List ℕ) : Type 0 where
  pub go_on : GoOn before
  pub idle : message ready ≡ Ready true
  pub key_is : last_key before ≡ Some key

-- it failed with this error at one of these messages, the first after which it doesn't go on
pub record FailsAt (frames : List Frame) (error : LinkError) : Type 0 where
  pub before : List Frame
  pub failing : Frame
  pub later : List Frame
  pub whole : frames ≡ before ++ failing ∷ later
  pub go_on : GoOn before
  pub why : refusal (message failing) (last_key before) ≡ Some error

-- a message came after it was up
pub record GoesPast (frames : List Frame) : Type 0 where
  pub before : List Frame
  pub ready : Frame
  pub further : Frame
  pub later : List Frame
  pub key : List ℕ
  pub whole : frames ≡ before ++ ready ∷ further ∷ later
  pub up : IsUpAt before ready key

-- it is refused with this error after these: it failed so, or a message came after it was up (own)
abbrev pub IsRefused : LinkError → List Frame → Type 0
IsRefused error frames = FailsAt frames error ⊎ ((error ≡ OutOfProfile) × GoesPast frames)

-- it is up after these
pub record IsUp (frames : List Frame) (key : List ℕ) : Type 0 where
  pub before : List Frame
  pub ready : Frame
  pub whole : frames ≡ before ++ ready ∷ []
  pub up : IsUpAt before ready key

-- it waits after these, with this last key
pub record Waits (frames : List Frame) (key : Option (List ℕ)) : Type 0 where
  pub go_on : GoOn frames
  pub key_is : last_key frames ≡ key

-- these messages lead to this stage, at which the next is to come
abbrev pub LeadTo : List Frame → Stage → Type 0
LeadTo frames (Waiting key) = Waits frames key
LeadTo frames (Reading part key) = ⊥
LeadTo frames (Done key) = IsUp frames key
LeadTo frames (Refused error) = IsRefused error frames

-- a login that has read these messages of its server, in this order, and nothing of the next
abbrev pub HasRead : Login → List Frame → Type 0
HasRead login frames = LeadTo frames login.stage

-- a message with this type and this length field
pub record HasHead (frame : Frame) (kind len : ℕ) : Type 0 where
  pub kind_is : frame.kind ≡ kind
  pub len_is : 4 + length frame.body ≡ len

-- how many bytes of its body a login reads, none where the head alone says what the message means
abbrev pub body_part : ℕ → ℕ → Option ℕ
body_part kind len = part_of (head_of kind len)

-- these messages, and the head of one more with this type and this length field, lead to this stage
abbrev pub LeadInto : List Frame → ℕ → ℕ → Stage → Type 0
LeadInto frames kind len (Waiting key) = ⊥
LeadInto frames kind len (Reading part key) = Waits frames key × (head_of kind len ≡ Body part)
LeadInto frames kind len (Done key) = ⊥
LeadInto frames kind len (Refused error) = ⊥

-- a login that has read these messages and the head of one more, and waits for its body
abbrev pub HasReadHead : Login → List Frame → ℕ → ℕ → Type 0
HasReadHead login frames kind len = LeadInto frames kind len login.stage

-- a login that has read these messages and the head of this one, whose body begins with these
-- bytes, as many as it reads
pub record Reaches (login : Login) (frames : List Frame) (frame : Frame) (bytes : List ℕ)
    : Type 0 where
  pub begun : HasReadHead login frames frame.kind (4 + length frame.body)
  pub part : body_part frame.kind (4 + length frame.body) ≡ Some (length bytes)
  pub rest : List ℕ
  pub body : frame.body ≡ bytes ++ rest

-- a login that has read these messages and one more with this head, whatever its body
abbrev pub HasReadWhole : Login → List Frame → ℕ → ℕ → Type 0
HasReadWhole login frames kind len =
    (frame : Frame) → HasHead frame kind len → HasRead login (frames ++ frame ∷ [])

-- what has been read after a head: the head alone where its body is waited for, and else the whole
-- message
abbrev pub ReadsOn : Result LoginHead LinkError → Login → List Frame → ℕ → ℕ → Type 0
ReadsOn (Ok Skip) login frames kind len = HasReadWhole login frames kind len
ReadsOn (Ok (ReadBody n)) login frames kind len = HasReadHead login frames kind len
ReadsOn (Err error) login frames kind len = HasReadWhole login frames kind len
