use Rattle.std.proofs.Common.{ℕ, List, Option, None, Some, ◌+◌, ◌*◌, length}
use Rattle.pg_frames.specs.Parts.{SoFar}
use Rattle.pg_frames.proofs.parts.hand_out.Given as goal

-- what was taken so far was handed out
abbrev pub invariant-loop-piece : goal.invariant-loop-piece
invariant-loop-piece l = (limit : ℕ) (stream : List ℕ)
    → SoFar limit stream l.fn.pieces.items l.fn.flow → SoFar limit stream l.pieces.items l.flow

abbrev in_frame : Option ℕ → ℕ
in_frame None = 0
in_frame (Some left) = 1

-- a head and a part take bytes, and a tail ends a frame
abbrev pub decreases-loop-piece : goal.decreases-loop-piece
decreases-loop-piece l = 2 * length l.flow.bytes + in_frame l.flow.left
