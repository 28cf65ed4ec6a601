use Rattle.std.specs.Prelude.{max}
use Rattle.stat_board.proofs.Rows.{IsJoined}
use Rattle.stat_board.proofs.row.maxima.Given as goal

-- up to here the greater number stands
abbrev pub invariant-loop-i : goal.invariant-loop-i
invariant-loop-i l = IsJoined (λ x y. max x y) l.one l.other l.row l.i
