-- A watch over the parameters that a server reports (PostgreSQL manual, "Message Formats":
-- ParameterStatus, and "Message Flow": Asynchronous Operations; which are watched is own). `Begins`
-- cuts what a server sent into messages and a rest. `reported` is the value that the last
-- ParameterStatus of a name gives. `AreAsTold` and `IsChange` say whether clients were told
-- otherwise. `HasSeen`: a watch has read these bytes.
use Rattle.std.specs.Prelude.{ℕ, ◌≡◌, ◌≢◌, ◌+◌, ◌<◌, ◌≤◌, ◌^◌, ◌==◌, Bool, true, false, List, [], ◌∷◌, ◌++◌, length, take, map, filter_map, codes, if◌then◌else◌, Option, Some, None, Contains, IfSome}
use Rattle.std.specs.Option.{option_map}
use Rattle.std.specs.List.{AllByRecursion, last_or}
use Rattle.startup.specs.Replies.{Report}
use Rattle.pg_frames.specs.declared.frame.Frame.{Frame}
use Rattle.pg_frames.specs.FrameText.{text, texts}
use Rattle.link_state.specs.HeadLength.{length_in, AreBytes}
use Rattle.link_state.specs.declared.difference.Difference.{Difference}

-- a message of any type whose length fits its length field
abbrev pub IsMessage : Frame → Type 0
IsMessage frame = 4 + length frame.body < 2 ^ 32

-- no message's text begins this
abbrev pub BeginsNoMessage : List ℕ → Type 0
BeginsNoMessage bytes =
    (frame : Frame) (more : List ℕ) → IsMessage frame → bytes ≡ text frame ++ more → ⊥

-- the bytes are the texts of these messages, and no more, and a rest
pub record Begins (bytes : List ℕ) (frames : List Frame) (rest : List ℕ) : Type 0 where
  pub whole : bytes ≡ texts frames ++ rest
  pub each : AllByRecursion IsMessage frames
  pub longest : BeginsNoMessage rest

-- what stands before the first zero byte, all if there is none
abbrev pub before_zero : List ℕ → List ℕ
before_zero [] = []
before_zero (byte ∷ bytes) = if byte == 0 then [] else byte ∷ before_zero bytes

-- the value that the body of a ParameterStatus gives to this name, none if it is about another: the
-- body begins with the name and a zero byte, and the value ends before the next one
abbrev pub value_in : List ℕ → List ℕ → Option (List ℕ)
value_in [] [] = None
value_in [] (byte ∷ bytes) = if byte == 0 then Some (before_zero bytes) else None
value_in (letter ∷ name) [] = None
value_in (letter ∷ name) (byte ∷ bytes) = if byte == letter then value_in name bytes else None

-- the same of a message of any type
abbrev pub value_of : List ℕ → Frame → Option (List ℕ)
value_of name frame = if frame.kind == 83 then value_in name frame.body else None

-- the value that the last ParameterStatus of this name among the messages gives
abbrev pub reported : List ℕ → List Frame → Option (List ℕ)
reported name frames = last_or None (filter_map (λ frame. value_of name frame) frames)

-- of these parameters none was reported with another value last than clients get
abbrev pub AreAsTold : List Report → List Frame → Type 0
AreAsTold told frames =
    AllByRecursion (λ one. IfSome (reported one.name frames) (λ value. value ≡ one.value)) told

-- how many bytes are kept of a value, so that it can be shown
abbrev pub shown : List ℕ → ℕ
shown told = length told + 64

-- one of these parameters was reported with another value last than clients get, and that
-- value begins so
pub record IsChange (told : List Report) (frames : List Frame) (change : Difference) : Type 0 where
  pub one : Report
  pub among : Contains told one
  pub name_is : change.name.now ≡ one.name
  pub told_is : change.told.now ≡ one.value
  pub value : List ℕ
  pub last : reported one.name frames ≡ Some value
  pub other : value ≢ one.value
  pub first : change.reported.now ≡ take (shown one.value) value

-- what is watched beside the parameters that logins report: links have to speak the encoding that
-- each login reports
abbrev pub encoding : Report
encoding = record { name = codes "client_encoding"; value = codes "UTF8" }

-- a parameter, what clients get of it, and the first bytes of what was reported last
pub record WatchedValue : Type 0 where
  pub name : List ℕ
  pub told : List ℕ
  pub last : Option (List ℕ)

-- a watch: the parameters; of the message that is coming the first bytes, whether its head has
-- come, and how many bytes of its head or of its body are to come; whether it stopped at a length
-- field below 4
pub record WatchState : Type 0 where
  pub watched : List WatchedValue
  pub front : List ℕ
  pub limit : ℕ
  pub left : ℕ
  pub in_body : Bool
  pub stopped : Bool

-- what clients get
abbrev pub told_one : WatchedValue → Report
told_one one = record { name = one.name; value = one.told }

abbrev pub told_of : WatchState → List Report
told_of watch = map told_one watch.watched

-- that many bytes are to come of a message that has begun so
abbrev pub Awaits : Bool → ℕ → List ℕ → Type 0
Awaits false left rest = left + length rest ≡ 5
Awaits true left rest =
    (5 ≤ length rest) × (4 ≤ length_in rest) × (left + length rest ≡ 1 + length_in rest)

-- a message that isn't whole has begun so
pub record IsComing (limit left : ℕ) (in_body : Bool) (front rest : List ℕ) : Type 0 where
  pub front_is : front ≡ take limit rest
  pub bytes : AreBytes rest
  pub awaits : Awaits in_body left rest

-- the rest begins with a head whose length field is below 4
pub record IsBroken (rest : List ℕ) : Type 0 where
  pub head : 5 ≤ length rest
  pub low : length_in rest < 4

-- where a watch stands in the rest
abbrev pub Stands : Bool → WatchState → List ℕ → Type 0
Stands true watch rest = IsBroken rest
Stands false watch rest = IsComing watch.limit watch.left watch.in_body watch.front rest

-- what is kept of a parameter is what was reported
abbrev pub Follows : List Frame → WatchedValue → Type 0
Follows frames one = one.last ≡ option_map (take (shown one.told)) (reported one.name frames)

-- a watch that has read these bytes
pub record HasSeen (watch : WatchState) (bytes : List ℕ) : Type 0 where
  pub frames : List Frame
  pub rest : List ℕ
  pub begins : Begins bytes frames rest
  pub each : AllByRecursion (Follows frames) watch.watched
  pub stands : Stands watch.stopped watch rest
