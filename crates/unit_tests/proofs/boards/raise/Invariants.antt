use Rattle.std.proofs.Common.{◌≡◌}
use Rattle.unit_tests.proofs.boards.raise.Given as goal

-- it is a seat of that board still
abbrev pub invariant-loop-i : goal.invariant-loop-i
invariant-loop-i l = l.seat.board ≡ l.fn.seat.board
