use Rattle.std.proofs.Common.{◌≡◌}
use Rattle.unit_tests.proofs.boards.each_counter.Given as goal

-- it is a seat of that board still
abbrev pub invariant-loop-counter : goal.invariant-loop-counter
invariant-loop-counter g l = l.seat.board ≡ l.board-inside.table.shared.table_id

abbrev pub invariant-loop-counter-2 : goal.invariant-loop-counter-2
invariant-loop-counter-2 g l = l.seat.board ≡ l.board
