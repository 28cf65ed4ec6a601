-- How a text is written and flushed, call by call, and the status that follows from the results of
-- the calls (own). `Prints`: each write is of all that is left; one that is interrupted is made
-- again; one that fails otherwise or takes nothing is the last call, as the flush is. `IsWritten`:
-- the whole, of an output that is known by what calls make of it.
use Rattle.std.specs.Prelude.{ℕ, zero, suc, ◌≡◌, ◌≢◌, ◌⊎◌, ◌-◌, ◌^◌, ◌<◌, List, [], ◌∷◌, ◌++◌, Option, Result, Ok, Err, length, drop, ⊤}
use Rattle.std.specs.declared.io.Error.{Error}
use Rattle.std.specs.IoError.{error_kind}
use Rattle.std.specs.declared.io.ErrorKind.TheVariants as kind
use Rattle.std.specs.Io.KnownBytes.{Appends, Keeps}

-- a call and its result: a write with the bytes that it was handed, or a flush
pub data Call : Type 0 where
  WriteCall : List ℕ → Result ℕ Error → Call
  FlushCall : Result ⊤ Error → Call

-- An output before and after: what its calls make of it, and the bytes that it holds, where they
-- are known.
pub record Change (T : Type 0) : Type 1 where
  pub wrote : T → List ℕ → Result ℕ Error → T → Type 0
  pub flushed : T → Result ⊤ Error → T → Type 0
  pub holds : T → Option (List ℕ)
  pub old : T
  pub new : T

-- the change from one state of an output to another, of which these are known
abbrev pub change : {T : Type 0} → (T → List ℕ → Result ℕ Error → T → Type 0)
    → (T → Result ⊤ Error → T → Type 0) → (T → Option (List ℕ)) → T → T → Change T
change wrote flushed holds old new =
    record { wrote = wrote; flushed = flushed; holds = holds; old = old; new = new }

-- these calls, in their order, and no others lead from one state of an output to the other
abbrev pub Makes : {T : Type 0} → (T → List ℕ → Result ℕ Error → T → Type 0)
    → (T → Result ⊤ Error → T → Type 0) → T → List Call → T → Type 0
Makes wrote flushed old [] new = new ≡ old
Makes wrote flushed old (WriteCall bytes result ∷ calls) new =
    (next : _) × wrote old bytes result next × Makes wrote flushed next calls new
Makes wrote flushed old (FlushCall result ∷ calls) new =
    (next : _) × flushed old result next × Makes wrote flushed next calls new

-- The calls that write what is left of a text and flush it, and the status by their results: the
-- given one, or 1 where a write failed or took nothing, or the flush failed.
abbrev pub Prints : List ℕ → ℕ → List Call → ℕ → Type 0
Prints left status [] result = ⊥
Prints left status (WriteCall bytes (Ok zero) ∷ more) result =
    (0 < length left) × (bytes ≡ left) × (more ≡ []) × (result ≡ 1)
Prints left status (WriteCall bytes (Ok (suc count)) ∷ more) result =
    (0 < length left) × (bytes ≡ left) × Prints (drop (suc count) left) status more result
Prints left status (WriteCall bytes (Err error) ∷ more) result =
    (0 < length left) × (bytes ≡ left)
    × (((error_kind error ≡ kind.Interrupted) × Prints left status more result)
    ⊎ ((error_kind error ≢ kind.Interrupted) × (more ≡ []) × (result ≡ 1)))
Prints left status (FlushCall (Ok done) ∷ more) result =
    (left ≡ []) × (more ≡ []) × (result ≡ status)
Prints left status (FlushCall (Err error) ∷ more) result =
    (left ≡ []) × (more ≡ []) × (result ≡ 1)

-- it gave up after that many writes, of which most were interrupted
abbrev pub GivesUp : List Call → ℕ → Type 0
GivesUp calls result = (length calls ≡ 2 ^ 64 - 1) × (result ≡ 1)

-- known bytes grow by a beginning of the text, or stay
pub record AppendsPart (old new : Option (List ℕ)) (text : List ℕ) : Type 0 where
  pub part : List ℕ
  pub rest : List ℕ
  pub text_is : text ≡ part ++ rest
  pub appends : Appends old new part

-- The text was written with this status: the calls and the result follow from the results of the
-- calls, and what is known to be held grew by the text, or with status 1 by a beginning of it.
pub record IsWritten {T : Type 0} (output : Change T) (text : List ℕ) (status result : ℕ)
    : Type 0 where
  pub calls : List Call
  pub made : Makes output.wrote output.flushed output.old calls output.new
  pub prints : Prints text status calls result ⊎ GivesUp calls result
  pub bytes : ((result ≡ status) × Appends (output.holds output.old) (output.holds output.new) text)
      ⊎ ((result ≡ 1) × AppendsPart (output.holds output.old) (output.holds output.new) text)

-- The writes so far are those of writing the text, and this is left of it: what writes the rest
-- writes all.
pub record Writes {T : Type 0} (output : Change T) (text left : List ℕ) (count : ℕ) : Type 0 where
  pub calls : List Call
  pub made : Makes output.wrote output.flushed output.old calls output.new
  pub many : length calls ≡ count
  pub prints : (status : ℕ) (more : List Call) (result : ℕ) → Prints left status more result
      → Prints text status (calls ++ more) result

-- the text wasn't written whole: the last write failed or took nothing, or it gave up
pub record Stops {T : Type 0} (output : Change T) (text : List ℕ) : Type 0 where
  pub calls : List Call
  pub made : Makes output.wrote output.flushed output.old calls output.new
  pub prints : ((status : ℕ) → Prints text status calls 1) ⊎ GivesUp calls 1
