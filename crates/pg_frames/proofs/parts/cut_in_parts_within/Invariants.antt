use Rattle.std.proofs.Common.{take, None}
use Rattle.std.specs.List.{flat_map}
use Rattle.pg_frames.specs.Parts.{Drained}
use Rattle.pg_frames.proofs.parts.cut_in_parts_within.Given as goal

-- the pieces so far are handed out, and no fault stands in their rest
abbrev pub invariant-loop-piece : goal.invariant-loop-piece
invariant-loop-piece l =
    Drained l.fn.limit (flat_map (λ piece. piece.now) (take l.piece-index l.stream)) l.pieces.items l.flow None
