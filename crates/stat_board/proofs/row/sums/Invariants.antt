use Rattle.std.proofs.Common.{◌+◌}
use Rattle.stat_board.proofs.Rows.{IsJoined}
use Rattle.stat_board.proofs.row.sums.Given as goal

-- up to here both are added up
abbrev pub invariant-loop-i : goal.invariant-loop-i
invariant-loop-i l = IsJoined (λ x y. x + y) l.one l.other l.row l.i
