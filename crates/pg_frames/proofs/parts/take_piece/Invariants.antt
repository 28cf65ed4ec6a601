use Rattle.std.proofs.Common.{◌≡◌, ◌++◌, List, ℕ, length, None}
use Rattle.pg_frames.specs.Parts.{Drained}
use Rattle.pg_frames.proofs.parts.take_piece.Given as goal

-- the piece was taken up to the rest
abbrev pub invariant-loop-rest : goal.invariant-loop-rest
invariant-loop-rest l = (limit : ℕ) (stream : List ℕ)
    → Drained limit stream l.fn.pieces.items l.fn.flow None
    → (taken : List ℕ) × (l.fn.piece ≡ taken ++ l.rest)
    × Drained limit (stream ++ taken) l.pieces.items l.flow None

abbrev pub decreases-loop-rest : goal.decreases-loop-rest
decreases-loop-rest l = length l.rest
