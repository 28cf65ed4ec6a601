-- Calls of a stream with their results (own). A stream is known by two relations: what it is after
-- a write, and what a read does. `Makes`: these calls, in this order, and no others.
use Rattle.std.specs.Prelude.{◌≡◌, ℕ, List, [], ◌∷◌, ◌++◌, take, Result, Ok, Err}
use Rattle.std.specs.declared.io.Error.{Error}

-- a call and its result: a write with the bytes that it was handed, or a read with its buffer as
-- the read left it
pub data Call : Type 0 where
  WriteCall : List ℕ → Result ℕ Error → Call
  ReadCall : List ℕ → Result ℕ Error → Call

-- what one call makes of a stream
abbrev pub Effect : Type 0 → Type 1
Effect T = T → List ℕ → Result ℕ Error → T → Type 0

-- these calls, in their order, and no others lead from one state of the stream to the other
abbrev pub Makes : {T : Type 0} → Effect T → Effect T → T → List Call → T → Type 0
Makes wrote gave old [] new = new ≡ old
Makes wrote gave old (WriteCall bytes result ∷ calls) new =
    (next : _) × wrote old bytes result next × Makes wrote gave next calls new
Makes wrote gave old (ReadCall buffer result ∷ calls) new =
    (next : _) × gave old buffer result next × Makes wrote gave next calls new

-- the bytes that the writes among the calls took
abbrev pub taken : List Call → List ℕ
taken [] = []
taken (WriteCall bytes (Ok count) ∷ calls) = take count bytes ++ taken calls
taken (WriteCall bytes (Err error) ∷ calls) = taken calls
taken (ReadCall buffer result ∷ calls) = taken calls
