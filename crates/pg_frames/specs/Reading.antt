-- What one read of a stream gives (own). A stream is known by a relation: what a read that left this
-- in its buffer, with this result, makes of it.
use Rattle.std.specs.Prelude.{ℕ, ◌≡◌, ◌<◌, ◌≤◌, List, length, take, Result, Ok, Err}
use Rattle.std.specs.declared.io.Error.{Error}

-- how many bytes a read with this result gave
abbrev pub count_of : Result ℕ Error → ℕ
count_of (Ok count) = count
count_of (Err error) = 0

-- A stream was read once, into a buffer that has room, and gave this many bytes, none at the end of
-- its input and where the read failed. Of the bytes this holds.
abbrev pub ReadsOnce : {T : Type 0} → (T → List ℕ → Result ℕ Error → T → Type 0) → T → T → ℕ
    → (List ℕ → Type 0) → Type 0
ReadsOnce gave old new count Takes = (buffer : List ℕ) × (answer : Result ℕ Error)
    × (0 < length buffer) × (count ≤ length buffer) × (count ≡ count_of answer)
    × gave old buffer answer new × Takes (take count buffer)
