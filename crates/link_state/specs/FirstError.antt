-- The first ErrorResponse among a server's messages (PostgreSQL manual, "Message Formats").
use Rattle.std.specs.Prelude.{ℕ, ◌≡◌, ◌≢◌, List, ◌++◌}
use Rattle.std.specs.List.{AllByRecursion}
use Rattle.pg_frames.specs.declared.frame.Frame.{Frame}
use Rattle.pg_frames.specs.FrameText.{text, texts}
use Rattle.link_state.specs.Watch.{IsMessage}

-- this is the first ErrorResponse, as its text, among whole messages at the front of the bytes,
-- whatever follows it
pub record IsFirstError (bytes error : List ℕ) : Type 0 where
  pub before : List Frame
  pub frame : Frame
  pub after : List ℕ
  pub each : AllByRecursion IsMessage before
  pub others : AllByRecursion (λ other. other.kind ≢ 69) before
  pub is_message : IsMessage frame
  pub kind_is : frame.kind ≡ 69
  pub error_is : error ≡ text frame
  pub whole : bytes ≡ texts before ++ (error ++ after)

-- a message of this type, as its text, stands at the front of the bytes
pub record StandsFirst (bytes : List ℕ) (kind : ℕ) (message after : List ℕ) : Type 0 where
  pub frame : Frame
  pub is_message : IsMessage frame
  pub kind_is : frame.kind ≡ kind
  pub message_is : message ≡ text frame
  pub whole : bytes ≡ message ++ after
