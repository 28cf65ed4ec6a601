-- How a packet is carried (PostgreSQL manual, "Canceling Requests in Progress": a server closes the
-- connection without a reply; what counts as failed is own). `Carried`: the calls and the outcome
-- follow from the results of the calls. The end is clean exactly if the whole packet was written
-- and then the input ended without a byte.
use Rattle.std.specs.Prelude.{◌≡◌, ◌↔◌, ◌⊎◌, ℕ, zero, suc, List, [], ◌∷◌, ◌++◌, length, true, false, Result, Ok, Err}
use Rattle.std.specs.declared.io.Error.{Error}
use Rattle.peer_forward.specs.declared.outcome.Outcome.{Outcome}
use Rattle.peer_forward.specs.declared.outcome.Outcome.TheVariants.{Ended, Failed}
use Rattle.peer_forward.specs.Calls.{Call, ReadCall, Effect, Makes, taken}
use Rattle.peer_forward.specs.Writing.{Writes}

-- the outcome by the result of the one read: clean where it gave no byte and didn't fail
abbrev pub outcome_of : Result ℕ Error → Outcome
outcome_of (Ok zero) = Ended
outcome_of (Ok (suc bytes)) = Failed
outcome_of (Err error) = Failed

-- The calls that carry a packet, and the outcome, by the results. Each write is handed all that is
-- left of the packet, which has 32 bytes at most. Once all was taken, one read with room for one
-- byte is the last call.
abbrev pub Carries : List ℕ → List Call → Outcome → Type 0
Carries packet calls outcome =
    (Writes packet calls false × (outcome ≡ Failed))
    ⊎ ((writes : List Call) × (buffer : List ℕ) × (answer : Result ℕ Error)
    × (calls ≡ writes ++ ReadCall buffer answer ∷ []) × Writes packet writes true
    × (length buffer ≡ 1) × (outcome ≡ outcome_of answer))

-- the last of the calls is a read with room for one byte, which gave none and didn't fail
abbrev pub EndsWithoutByte : List Call → Type 0
EndsWithoutByte calls = (before : List Call) × (buffer : List ℕ)
    × (length buffer ≡ 1) × (calls ≡ before ++ ReadCall buffer (Ok 0) ∷ [])

-- A packet was carried from one state of the stream to the other.
pub record Carried {T : Type 0} (wrote gave : Effect T) (old : T) (packet : List ℕ)
    (outcome : Outcome) (new : T) : Type 0 where
  -- all calls that were made
  pub calls : List Call
  pub made : Makes wrote gave old calls new
  -- they and the outcome are those that the results demand
  pub carries : Carries packet calls outcome
  -- what was written is a beginning of the packet
  pub left : List ℕ
  pub beginning : packet ≡ taken calls ++ left
  -- the end is clean exactly where all was written and the input then ended with no byte
  pub ended : (outcome ≡ Ended) ↔ ((taken calls ≡ packet) × EndsWithoutByte calls)
