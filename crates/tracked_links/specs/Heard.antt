-- What is heard on a server connection of the parameters that are tracked (PostgreSQL manual, "Message
-- Formats": ParameterStatus, and "Asynchronous Operations"; when a value isn't kept is own). `Hears`
-- goes message by message. `HasHeard`: these bytes were heard. `ReadsInside` and `WritesInside`: what
-- a stream that hears does.
use Rattle.std.specs.Prelude.{ℕ, ◌≡◌, ◌⊎◌, ◌==◌, Bool, true, false, List, [], ◌∷◌, ◌++◌, take, Option, Some, None, Result, Ok, Err}
use Rattle.std.specs.declared.io.Error.{Error}
use Rattle.startup.specs.StartupMessage.{HasNoZero}
use Rattle.startup.specs.Replies.{Report}
use Rattle.peer_forward.specs.Calls.{Effect}
use Rattle.pg_frames.specs.declared.frame.Frame.{Frame}
use Rattle.link_state.specs.Watch.{Begins, IsComing, IsBroken}
use Rattle.tracked_parameters.specs.Status.{IsStatus}
use Rattle.tracked_parameters.specs.Values.{Fit, place_of, value_of}
use Rattle.tracked_parameters.specs.Server.{ServerState, new_server, is_too_long, after_report, after_lost_report, after_login}

-- the names that are tracked, and what the server has reported; of the message that is coming the
-- first bytes, how many are kept of it at most, how many bytes are to come of its head or of its
-- body, and whether its head has come; and whether it stopped at a length field below 4
pub record HearingState : Type 0 where
  pub names : List (List ℕ)
  pub server : ServerState
  pub front : List ℕ
  pub limit : ℕ
  pub left : ℕ
  pub in_body : Bool
  pub stopped : Bool

-- it reports none of the parameters, and changes nothing
pub record ReportsNothing (names : List (List ℕ)) (body : List ℕ) (old new : ServerState) : Type 0
  where
    pub untracked : (report : Report) → IsStatus body report → place_of names report.name ≡ None
    pub same : new ≡ old

-- its value is kept, and isn't too long
pub record ReportsValue (names : List (List ℕ)) (body : List ℕ) (old new : ServerState) : Type 0
  where
    pub report : Report
    pub is_status : IsStatus body report
    pub fits : is_too_long names report ≡ false
    pub kept : new ≡ after_report names report old

-- no value is known any more of the parameter that it names
pub record LosesValue (names : List (List ℕ)) (body : List ℕ) (old new : ServerState) : Type 0 where
  pub name : List ℕ
  pub no_zero : HasNoZero name
  pub more : List ℕ
  pub begins : body ≡ name ++ 0 ∷ more
  pub lost : new ≡ after_lost_report names name old

-- what a ParameterStatus with this body changes
abbrev pub HearsStatus : List (List ℕ) → List ℕ → ServerState → ServerState → Type 0
HearsStatus names body old new = ReportsNothing names body old new
    ⊎ (ReportsValue names body old new ⊎ LosesValue names body old new)

-- what a message changes that is a ParameterStatus, or is none
abbrev pub HearsMessage : Bool → List (List ℕ) → List ℕ → ServerState → ServerState → Type 0
HearsMessage true names body old new = HearsStatus names body old new
HearsMessage false names body old new = new ≡ old

-- what these messages change, one after another
abbrev pub Hears : List (List ℕ) → List Frame → ServerState → ServerState → Type 0
Hears names [] old new = new ≡ old
Hears names (frame ∷ frames) old new = (next : ServerState)
    × HearsMessage (frame.kind == 83) names frame.body old next × Hears names frames next new

-- the login hasn't ended
pub record IsInLogin (names : List (List ℕ)) (frames : List Frame) (server : ServerState) : Type 0
  where
    pub going : server.logged_in ≡ false
    pub hears : Hears names frames (new_server names) server

-- the login has ended, after the first of the messages
pub record IsPastLogin (names : List (List ℕ)) (frames : List Frame) (server : ServerState) : Type 0
  where
    pub before : List Frame
    pub since : List Frame
    pub frames_are : frames ≡ before ++ since
    pub at_end : ServerState
    pub hears : Hears names before (new_server names) at_end
    pub ended : server.logged_in ≡ true
    pub hears_since : Hears names since (after_login at_end) server

-- all messages of the server are these
abbrev pub HearsAll : List (List ℕ) → List Frame → ServerState → Type 0
HearsAll names frames server = IsInLogin names frames server ⊎ IsPastLogin names frames server

-- where it stands in the rest
abbrev pub Stands : Bool → HearingState → List ℕ → Type 0
Stands true hearing rest = IsBroken rest
Stands false hearing rest =
    IsComing hearing.limit hearing.left hearing.in_body hearing.front rest

-- these bytes of the server were heard, all that it sent: the messages at their front, one after
-- another, and of the message that is coming no more than its bytes. Behind a length field below 4
-- nothing is heard.
pub record HasHeard (hearing : HearingState) (bytes : List ℕ) : Type 0 where
  pub frames : List Frame
  pub rest : List ℕ
  pub begins : Begins bytes frames rest
  pub heard : HearsAll hearing.names frames hearing.server
  pub stands : Stands hearing.stopped hearing rest

-- a stream, and what is heard on it, if its parameters are tracked
pub record StreamView (L : Type 0) : Type 0 where
  pub stream : L
  pub hearing : Option HearingState

-- the names that are tracked on it
abbrev pub names_of : Option HearingState → Option (List (List ℕ))
names_of None = None
names_of (Some hearing) = Some hearing.names

-- the last value of a parameter that the server has reported
abbrev pub heard_value : Option HearingState → List ℕ → Option (List ℕ)
heard_value None name = None
heard_value (Some hearing) name = value_of hearing.names hearing.server.current name

-- there is a place for each name
abbrev pub FitsNames : Option HearingState → Type 0
FitsNames None = Unit {0}
FitsNames (Some hearing) = Fit hearing.names hearing.server.current

-- what the server has reported
abbrev pub values_of : Option HearingState → Option ServerState
values_of None = None
values_of (Some hearing) = Some hearing.server

-- nothing was heard yet
abbrev pub IsNew : List (List ℕ) → Option HearingState → Type 0
IsNew names None = ⊥
IsNew names (Some hearing) = (hearing.names ≡ names) × (hearing.server ≡ new_server names)
    × HasHeard hearing []

-- these bytes were heard after what was heard before
abbrev pub HearsBytes : Option HearingState → List ℕ → Option HearingState → Type 0
HearsBytes None bytes new = new ≡ None
HearsBytes (Some old) bytes None = ⊥
HearsBytes (Some old) bytes (Some new) = (new.names ≡ old.names)
    × ((before : List ℕ) → HasHeard old before → HasHeard new (before ++ bytes))

-- the login has ended, and what was heard stays
abbrev pub EndsLogin : Option HearingState → Option HearingState → Type 0
EndsLogin None new = new ≡ None
EndsLogin (Some old) None = ⊥
EndsLogin (Some old) (Some new) = (new.names ≡ old.names)
    × (new.server ≡ after_login old.server)
    × ((before : List ℕ) → HasHeard old before → HasHeard new before)

-- the bytes that a read with this result gave, which left this in its buffer
abbrev pub bytes_given : List ℕ → Result ℕ Error → List ℕ
bytes_given buffer (Ok count) = take count buffer
bytes_given buffer (Err error) = []

-- a read is one of the stream inside, with its bytes and its result, and what it gave is heard
pub record ReadsInside {L : Type 0} (gave : Effect L) (old : StreamView L) (buffer : List ℕ)
    (result : Result ℕ Error) (new : StreamView L) : Type 0 where
  pub inside : gave old.stream buffer result new.stream
  pub heard : HearsBytes old.hearing (bytes_given buffer result) new.hearing

-- a write is one of the stream inside, with its bytes and its result
pub record WritesInside {L : Type 0} (wrote : Effect L) (old : StreamView L) (bytes : List ℕ)
    (result : Result ℕ Error) (new : StreamView L) : Type 0 where
  pub inside : wrote old.stream bytes result new.stream
  pub heard : new.hearing ≡ old.hearing
