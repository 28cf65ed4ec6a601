-- How a text is written by single writes (own). `Wrote`, `WroteSome`: calls that write a text whole,
-- or a beginning of it. `Writes`: the calls that are made, and whether the text was taken whole,
-- follow from the results of the calls.
use Rattle.std.specs.Prelude.{◌≡◌, ℕ, zero, suc, ◌<◌, ◌≤◌, Bool, true, false, List, [], ◌∷◌, ◌++◌, length, take, drop, Ok, Err}
use Rattle.std.specs.List.{AllByRecursion}
use Rattle.peer_forward.specs.Calls.{Call, WriteCall, ReadCall, taken}

-- a write that was handed 16,384 bytes at most, and took some
abbrev pub IsWrite : Call → Type 0
IsWrite (WriteCall bytes (Ok count)) = (length bytes ≤ 16384) × (0 < count)
IsWrite (WriteCall bytes (Err error)) = ⊥
IsWrite (ReadCall buffer result) = ⊥

-- a write that failed, or took nothing
abbrev pub IsFailedWrite : Call → Type 0
IsFailedWrite (WriteCall bytes (Ok count)) = count ≡ 0
IsFailedWrite (WriteCall bytes (Err error)) = Unit {0}
IsFailedWrite (ReadCall buffer result) = ⊥

-- the calls wrote the whole text
pub record Wrote (text : List ℕ) (calls : List Call) : Type 0 where
  pub each : AllByRecursion IsWrite calls
  pub whole : taken calls ≡ text

-- the calls wrote a beginning of the text, and the last of them failed or took nothing
pub record WroteSome (text : List ℕ) (calls : List Call) : Type 0 where
  pub writes : List Call
  pub last : Call
  pub all : calls ≡ writes ++ last ∷ []
  pub each : AllByRecursion IsWrite writes
  pub failed : IsFailedWrite last
  pub left : List ℕ
  pub some_left : 0 < length left
  pub beginning : text ≡ taken writes ++ left

-- The calls that write what is left of a text, and whether it was taken whole. While bytes are
-- left, a write is handed all of them, or the first 16,384. One that fails or takes nothing is the
-- last call.
abbrev pub Writes : List ℕ → List Call → Bool → Type 0
Writes left [] whole = (left ≡ []) × (whole ≡ true)
Writes left (WriteCall bytes (Ok zero) ∷ more) whole =
    (0 < length left) × (bytes ≡ take 16384 left) × (more ≡ []) × (whole ≡ false)
Writes left (WriteCall bytes (Ok (suc count)) ∷ more) whole =
    (0 < length left) × (bytes ≡ take 16384 left) × (suc count ≤ length bytes)
    × Writes (drop (suc count) left) more whole
Writes left (WriteCall bytes (Err error) ∷ more) whole =
    (0 < length left) × (bytes ≡ take 16384 left) × (more ≡ []) × (whole ≡ false)
Writes left (ReadCall buffer result ∷ more) whole = ⊥
