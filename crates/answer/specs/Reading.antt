-- How a file is read, call by call, and when it has no text (own). `Unreadable`: it can't be
-- opened, a read fails that isn't just interrupted, or what it holds isn't UTF-8. `Fails`: one of
-- the first two.
use Rattle.std.specs.Prelude.{ℕ, zero, suc, ◌≡◌, ◌≢◌, ◌⊎◌, ◌<◌, List, [], ◌∷◌, ◌++◌, Result, Ok, Err, length, take, ⊤}
use Rattle.std.specs.Str.{IsUtf8}
use Rattle.std.specs.IoError.{error_kind}
use Rattle.std.specs.declared.io.Error.{Error}
use Rattle.std.specs.declared.io.ErrorKind.TheVariants as kind

-- what a read left in its buffer, and its result
pub record Call : Type 0 where
  pub buffer : List ℕ
  pub result : Result ℕ Error

-- one more read follows: it gave bytes, or it was interrupted
abbrev pub GoesOn : Result ℕ Error → Type 0
GoesOn (Ok zero) = ⊥
GoesOn (Ok (suc count)) = ⊤
GoesOn (Err error) = error_kind error ≡ kind.Interrupted

-- these reads, in their order, and no others lead from one state of a reader to the other, and each
-- is followed by another
abbrev pub ReadsOn : {R : Type 0} → (R → List ℕ → Result ℕ Error → R → Type 0) → R → List Call → R
    → Type 0
ReadsOn gave old [] new = new ≡ old
ReadsOn gave old (call ∷ calls) new =
    (next : _) × gave old call.buffer call.result next × GoesOn call.result
    × ReadsOn gave next calls new

-- the bytes that a read gave
abbrev pub given_by : List ℕ → Result ℕ Error → List ℕ
given_by buffer (Ok count) = take count buffer
given_by buffer (Err error) = []

-- the bytes that reads gave
abbrev pub given : List Call → List ℕ
given [] = []
given (call ∷ calls) = given_by call.buffer call.result ++ given calls

-- some reads went on, and the next one failed, neither interrupted nor because memory ran out
pub record FailsReading {R : Type 0} (gave : R → List ℕ → Result ℕ Error → R → Type 0) (reader : R)
    : Type 0 where
  pub calls : List Call
  pub last : R
  pub reads : ReadsOn gave reader calls last
  pub buffer : List ℕ
  pub error : Error
  pub new : R
  pub fails : gave last buffer (Err error) new
  pub why : (error_kind error ≢ kind.Interrupted) × (error_kind error ≢ kind.OutOfMemory)

-- some reads went on, the next one, which had room, gave nothing, and what they gave isn't UTF-8
pub record HoldsNoText {R : Type 0} (gave : R → List ℕ → Result ℕ Error → R → Type 0) (reader : R)
    : Type 0 where
  pub calls : List Call
  pub last : R
  pub reads : ReadsOn gave reader calls last
  pub buffer : List ℕ
  pub room : 0 < length buffer
  pub new : R
  pub ends : gave last buffer (Ok 0) new
  pub no_text : ¬ IsUtf8 (given calls)

-- A file can't be opened, where that isn't because memory ran out; or it was opened, and can't be read,
-- or isn't UTF-8.
abbrev pub Unreadable : {R : Type 0} → (Result R Error → Type 0)
    → (R → List ℕ → Result ℕ Error → R → Type 0) → Type 0
Unreadable opens gave =
    ((error : Error) × opens (Err error) × (error_kind error ≢ kind.OutOfMemory))
    ⊎ ((reader : _) × opens (Ok reader) × (FailsReading gave reader ⊎ HoldsNoText gave reader))

-- A file can't be opened, where that isn't because memory ran out; or it was opened, and a read of it
-- failed.
abbrev pub Fails : {R : Type 0} → (Result R Error → Type 0)
    → (R → List ℕ → Result ℕ Error → R → Type 0) → Type 0
Fails opens gave =
    ((error : Error) × opens (Err error) × (error_kind error ≢ kind.OutOfMemory))
    ⊎ ((reader : _) × opens (Ok reader) × FailsReading gave reader)
