-- Frames, and how a byte stream is cut into them (PostgreSQL manual, "Messaging Overview" and
-- "Message Formats"; the limit of a message is own). `text` gives the bytes of a frame. `IsFrame`:
-- its type is an ASCII letter or digit and its length is at most the limit. `Cuts limit stream
-- frames rest`: the stream is the bytes of these frames, and then a rest that begins with no frame.
-- `fault_at` is the fault at the front of a rest.
use Rattle.std.specs.Prelude.{ℕ, ◌≡◌, ◌+◌, ◌<◌, ◌≤◌, ◌^◌, Bool, List, [], ◌∷◌, ◌++◌, length, IsTrue, not, nat_lt, if◌then◌else◌, Option, Some, None, Result, Ok, Err}
use Rattle.std.specs.List.{AllByRecursion, flat_map}
use Rattle.std.specs.Char.{is_ascii_alphanumeric}
use Rattle.byteorder.specs.Endian.{big_bytes, big_number}
use Rattle.pg_frames.specs.declared.frame.Frame.{Frame}
use Rattle.pg_frames.specs.declared.error.FrameError.{FrameError}
use Rattle.pg_frames.specs.declared.error.FrameError.TheVariants.{BadLength, TooLong, BadType, Memory}

-- the text of a frame: its type byte, its length as Int32, which counts itself and not the type
-- byte, and its body
unfoldable pub text : Frame → List ℕ
text frame = frame.kind ∷ (big_bytes 4 (4 + length frame.body) ++ frame.body)

-- the texts of frames, one after another
abbrev pub texts : List Frame → List ℕ
texts frames = flat_map text frames

-- a type byte is an ASCII letter or digit
abbrev pub is_type : ℕ → Bool
is_type byte = is_ascii_alphanumeric byte

-- a frame of the format: its type is one, and its length field is at most the limit, and fits in
-- four bytes
pub record IsFrame (limit : ℕ) (frame : Frame) : Type 0 where
  pub type_byte : IsTrue (is_type frame.kind)
  pub size : 4 + length frame.body ≤ limit
  pub fits : 4 + length frame.body < 2 ^ 32

-- no frame's text begins this
abbrev pub BeginsNoFrame : ℕ → List ℕ → Type 0
BeginsNoFrame limit bytes =
    (frame : Frame) (more : List ℕ) → IsFrame limit frame → bytes ≡ text frame ++ more → ⊥

-- a stream is cut into these frames, and no more, and a rest
pub record Cuts (limit : ℕ) (stream : List ℕ) (frames : List Frame) (rest : List ℕ) : Type 0 where
  pub whole : stream ≡ texts frames ++ rest
  pub each : AllByRecursion (IsFrame limit) frames
  pub longest : BeginsNoFrame limit rest

-- the fault at the front of a rest, if there is one: the type is judged first, the length as soon
-- as it is whole
unfoldable pub fault_at : ℕ → List ℕ → Option FrameError
fault_at limit [] = None
fault_at limit (kind ∷ more) =
    if not (is_type kind) then Some BadType
    else (if nat_lt (length more) 4 then None
    else (if nat_lt (big_number 4 more) 4 then Some BadLength
    else (if nat_lt limit (big_number 4 more) then Some TooLong
    else None)))

-- the rest of the stream's cutting has this fault at its front, or none
pub record HasFault (limit : ℕ) (stream : List ℕ) (fault : Option FrameError) : Type 0 where
  pub frames : List Frame
  pub rest : List ℕ
  pub cuts : Cuts limit stream frames rest
  pub stands : fault_at limit rest ≡ fault

-- a result is the fault, or says that there is none; out of memory says nothing
abbrev pub Tells : Result (Unit {0}) FrameError → Option FrameError → Type 0
Tells (Ok _) fault = fault ≡ None
Tells (Err BadLength) fault = fault ≡ Some BadLength
Tells (Err TooLong) fault = fault ≡ Some TooLong
Tells (Err BadType) fault = fault ≡ Some BadType
Tells (Err Memory) fault = Unit {0}

-- the result for a stream so far is the fault in its rest
abbrev pub IsJudged : ℕ → List ℕ → Result (Unit {0}) FrameError → Type 0
IsJudged limit stream answer =
    (fault : Option FrameError) × HasFault limit stream fault × Tells answer fault
