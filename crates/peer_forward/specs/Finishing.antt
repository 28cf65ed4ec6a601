-- How the requester's connection is finished (own; a PostgreSQL server writes nothing). For a settled
-- request no byte is written, and the byte that was seen is taken, so that the connection's end is
-- clean. Otherwise one byte is written, and the seen byte is taken only where that was: else it is
-- left, and the end is a reset.
use Rattle.std.specs.Prelude.{◌≡◌, ℕ, zero, suc, [], ◌∷◌, Result, Ok, Err}
use Rattle.std.specs.declared.io.Error.{Error}
use Rattle.peer_forward.specs.declared.outcome.Outcome.TheVariants.{Ended, Failed}
use Rattle.peer_forward.specs.declared.verdict.Verdict.{Verdict}
use Rattle.peer_forward.specs.declared.verdict.Verdict.TheVariants as verdicts
use Rattle.peer_forward.specs.Calls.{Effect}

-- the seen byte is taken where a write took its byte, else it is left
abbrev pub TakesIfWritten : {T : Type 0} → (T → T → Type 0) → Result ℕ Error → T → T → Type 0
TakesIfWritten takes (Ok zero) old new = new ≡ old
TakesIfWritten takes (Ok (suc more)) old new = takes old new
TakesIfWritten takes (Err error) old new = new ≡ old

-- one write of the byte 45 (hexadecimal), and what follows from its result
abbrev pub WritesByte : {T : Type 0} → Effect T → (T → T → Type 0) → T → T → Type 0
WritesByte wrote takes old new = (result : Result ℕ Error) × (next : _)
    × wrote old (0x45 ∷ []) result next × TakesIfWritten takes result next new

-- what a verdict does to the connection
abbrev pub Finishes : {T : Type 0} → Effect T → (T → T → Type 0) → T → Verdict → T → Type 0
Finishes wrote takes old verdicts.Refused new = takes old new
Finishes wrote takes old verdicts.Unwaited new = takes old new
Finishes wrote takes old (verdicts.Carried Ended) new = takes old new
Finishes wrote takes old (verdicts.Carried Failed) new = WritesByte wrote takes old new
Finishes wrote takes old verdicts.NoConnect new = WritesByte wrote takes old new
