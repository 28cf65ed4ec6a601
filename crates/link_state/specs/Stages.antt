-- How the code goes from one message of a login to the next (internal).
use Rattle.std.specs.Prelude.{ℕ, ◌==◌, true, false, List, length, if◌then◌else◌, Option, Some, None, Result, Ok, Err}
use Rattle.pg_frames.specs.declared.frame.Frame.{Frame}
use Rattle.link_state.specs.declared.act.LinkAct.{LinkAct}
use Rattle.link_state.specs.declared.act.LinkAct.TheVariants.{More, Up}
use Rattle.link_state.specs.declared.act.LoginHead.{LoginHead}
use Rattle.link_state.specs.declared.act.LoginHead.TheVariants.{Skip, Body as ReadBody}
use Rattle.link_state.specs.declared.error.LinkError.{LinkError}
use Rattle.link_state.specs.declared.error.LinkError.TheVariants.{NoKey, OutOfProfile}
use Rattle.link_state.specs.declared.head.Head.{Head}
use Rattle.link_state.specs.declared.head.Head.TheVariants.{Skipped, Fault as Fails, OtherReady, Body}
use Rattle.link_state.specs.declared.stage.Stage.{Stage}
use Rattle.link_state.specs.declared.stage.Stage.TheVariants.{Waiting, Reading, Done, Refused}
use Rattle.link_state.specs.declared.message.Message.{Message}
use Rattle.link_state.specs.declared.message.Message.TheVariants.{Passed, Key, Ready, Fault}
use Rattle.link_state.specs.Message.{message, message_in, part_len}

-- the stage after a message that means this, from waiting with this key
abbrev pub outcome : Message → Option (List ℕ) → Stage
outcome Passed key = Waiting key
outcome (Key new) key = Waiting (Some new)
outcome (Ready idle) None = Refused NoKey
outcome (Ready true) (Some key) = Done key
outcome (Ready false) (Some key) = Refused OutOfProfile
outcome (Fault error) key = Refused error

-- the stage after a message
abbrev pub step : Stage → Frame → Stage
step (Waiting key) frame = outcome (message frame) key
step (Reading part key) frame = Reading part key
step (Done key) frame = Refused OutOfProfile
step (Refused error) frame = Refused error

-- the stage after the head of a message
abbrev pub after_head : Stage → Head → Stage
after_head (Waiting key) Skipped = Waiting key
after_head (Waiting key) (Fails error) = Refused error
after_head (Waiting key) OtherReady = outcome (Ready false) key
after_head (Waiting key) (Body part) = Reading part key
after_head (Reading part key) head = Reading part key
after_head (Done key) head = Refused OutOfProfile
after_head (Refused error) head = Refused error

-- the stage after the part of a message's body for which it waits, and the same with any other
-- bytes
abbrev pub after_body : Stage → List ℕ → Stage
after_body (Waiting key) bytes = Waiting key
after_body (Reading part key) bytes =
    if length bytes == part_len part then outcome (message_in part bytes) key
    else Reading part key
after_body (Done key) bytes = Done key
after_body (Refused error) bytes = Refused error

-- what is returned at a stage, after a head and after a message
abbrev pub head_answer : Stage → Result LoginHead LinkError
head_answer (Waiting key) = Ok Skip
head_answer (Reading part key) = Ok (ReadBody (part_len part))
head_answer (Done key) = Err OutOfProfile
head_answer (Refused error) = Err error

abbrev pub body_answer : Stage → Result LinkAct LinkError
body_answer (Waiting key) = Ok More
body_answer (Reading part key) = Ok More
body_answer (Done key) = Ok (Up key)
body_answer (Refused error) = Err error
