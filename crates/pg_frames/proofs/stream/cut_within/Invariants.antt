use Rattle.std.proofs.Common.{◌≡◌, take}
use Rattle.std.specs.List.{flat_map}
use Rattle.pg_frames.proofs.CutLemmas.{IsCutSoFar}
use Rattle.pg_frames.proofs.stream.cut_within.Given as goal

-- the pieces so far are cut, and no fault stands in what is left of them
abbrev pub invariant-loop-piece : goal.invariant-loop-piece
invariant-loop-piece l =
    IsCutSoFar l.fn.limit (flat_map (λ piece. piece.now) (take l.piece-index l.pieces)) l.frames.items
    l.cutter.bytes × (l.cutter.limit ≡ l.fn.limit)
