-- What came of reading a file (internal).
use Rattle.std.specs.Prelude.{ℕ, ◌≡◌, ◌<◌, List, Result, Ok, Err, length, ⊤}
use Rattle.std.specs.declared.io.Error.{Error}
use Rattle.answer.specs.Reading.{Call, FailsReading, HoldsNoText, ReadsOn, given}
use Rattle.answer.specs.declared.file_text.NoText.{NoText}
use Rattle.answer.specs.declared.file_text.NoText.TheVariants.{Memory, Failed, NotUtf8}

-- these bytes were read, up to the end
pub record HasRead {R : Type 0} (gave : R → List ℕ → Result ℕ Error → R → Type 0) (reader : R)
    (bytes : List ℕ) : Type 0 where
  pub calls : List Call
  pub last : R
  pub reads : ReadsOn gave reader calls last
  pub buffer : List ℕ
  pub room : 0 < length buffer
  pub new : R
  pub ends : gave last buffer (Ok 0) new
  pub bytes_are : bytes ≡ given calls

-- why not all was read
abbrev pub CannotRead : {R : Type 0} → (R → List ℕ → Result ℕ Error → R → Type 0) → R → NoText
    → Type 0
CannotRead gave reader Memory = ⊤
CannotRead gave reader (Failed error) = FailsReading gave reader
CannotRead gave reader NotUtf8 = ⊥

-- these bytes were read so far
pub record ReadSoFar {R : Type 0} (gave : R → List ℕ → Result ℕ Error → R → Type 0) (old : R)
    (bytes : List ℕ) (now : R) : Type 0 where
  pub calls : List Call
  pub reads : ReadsOn gave old calls now
  pub bytes_are : bytes ≡ given calls

-- why a reader has no text
abbrev pub IsUnread : {R : Type 0} → (R → List ℕ → Result ℕ Error → R → Type 0) → R → NoText
    → Type 0
IsUnread gave reader Memory = ⊤
IsUnread gave reader (Failed error) = FailsReading gave reader
IsUnread gave reader NotUtf8 = HoldsNoText gave reader

-- why a file has no text: memory ran out, or it is unreadable
abbrev pub HasNoText : Type 0 → NoText → Type 0
HasNoText Unreadable Memory = ⊤
HasNoText Unreadable (Failed error) = Unreadable
HasNoText Unreadable NotUtf8 = Unreadable
