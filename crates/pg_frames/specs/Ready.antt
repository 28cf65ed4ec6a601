-- How a cutter keeps what it was fed: the whole frames first, then the rest (internal).
use Rattle.std.specs.Prelude.{ℕ, ◌≡◌, List, ◌++◌, length, drop}
use Rattle.pg_frames.specs.declared.frame.Frame.{Frame}
use Rattle.pg_frames.specs.FrameText.{text, texts, IsFrame, Cuts}

-- the first `size` bytes are the text of this frame of the format
pub record TakesFirst (limit : ℕ) (bytes : List ℕ) (frame : Frame) (size : ℕ) : Type 0 where
  pub is : IsFrame limit frame
  pub whole : bytes ≡ text frame ++ drop size bytes
  pub length_is : size ≡ length (text frame)

-- a frame's text begins the bytes, and takes this many
abbrev pub BeginsFrame : ℕ → List ℕ → ℕ → Type 0
BeginsFrame limit bytes size = (frame : Frame) × TakesFirst limit bytes frame size

-- the first `ready` bytes are the whole frames
pub record IsReady (limit : ℕ) (bytes : List ℕ) (ready : ℕ) : Type 0 where
  pub frames : List Frame
  pub cuts : Cuts limit bytes frames (drop ready bytes)
  pub length_is : ready ≡ length (texts frames)
