-- Which calls of a stream write a text as far as it takes it, and which read bytes, or all up to the
-- end (own).
use Rattle.std.specs.Prelude.{◌≡◌, ◌⊎◌, ℕ, ◌<◌, List, [], ◌∷◌, ◌++◌, length, take, Ok, Err}
use Rattle.std.specs.List.{AllByRecursion}
use Rattle.peer_forward.specs.Calls.{Call, WriteCall, ReadCall, Effect, Makes}
pub use Rattle.peer_forward.specs.Writing.{IsWrite, IsFailedWrite, Wrote, WroteSome}

-- the bytes that the reads among the calls gave
abbrev pub given : List Call → List ℕ
given [] = []
given (ReadCall buffer (Ok count) ∷ calls) = take count buffer ++ given calls
given (ReadCall buffer (Err error) ∷ calls) = given calls
given (WriteCall bytes result ∷ calls) = given calls

-- a read that gave some bytes
abbrev pub IsRead : Call → Type 0
IsRead (ReadCall buffer (Ok count)) = 0 < count
IsRead (ReadCall buffer (Err error)) = ⊥
IsRead (WriteCall bytes result) = ⊥

-- a read that failed, or gave nothing although there was room: the input is at its end
abbrev pub IsFailedRead : Call → Type 0
IsFailedRead (ReadCall buffer (Ok count)) = (count ≡ 0) × (0 < length buffer)
IsFailedRead (ReadCall buffer (Err error)) = Unit {0}
IsFailedRead (WriteCall bytes result) = ⊥

-- a call that wrote or read something
abbrev pub IsDone : Call → Type 0
IsDone (WriteCall bytes (Ok count)) = 0 < count
IsDone (WriteCall bytes (Err error)) = ⊥
IsDone (ReadCall buffer (Ok count)) = 0 < count
IsDone (ReadCall buffer (Err error)) = ⊥

-- the calls wrote the text, as far as the stream took it
abbrev pub Sends : List ℕ → List Call → Type 0
Sends text calls = Wrote text calls ⊎ WroteSome text calls

-- the calls read these bytes
pub record Read (bytes : List ℕ) (calls : List Call) : Type 0 where
  pub each : AllByRecursion IsRead calls
  pub whole : given calls ≡ bytes

-- the calls read these bytes, and the last of them failed or found the end of the input
pub record ReadToEnd (bytes : List ℕ) (calls : List Call) : Type 0 where
  pub reads : List Call
  pub last : Call
  pub all : calls ≡ reads ++ last ∷ []
  pub each : AllByRecursion IsRead reads
  pub failed : IsFailedRead last
  pub whole : given reads ≡ bytes

-- calls of which this holds led from one state of the stream to the other
abbrev pub SomeCalls : {T : Type 0} → Effect T → Effect T → T → T → (List Call → Type 0) → Type 0
SomeCalls wrote gave old new P = (calls : List Call) × Makes wrote gave old calls new × P calls
