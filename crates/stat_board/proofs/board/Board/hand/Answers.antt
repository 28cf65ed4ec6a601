use Rattle.std.proofs.Common.{sym, ◌∙◌, arith}
use Rattle.stat_board.proofs.Counting.{board_splits}
use Rattle.stat_board.proofs.board.Board.hand.Goals as goal

pub split_seat-requires : goal.split_seat-requires
split_seat-requires c = (
  c.requires.own ∙ sym c.self.view_is,
  (let w = c.self.invariant.0 in omega (arith, w)),
  board_splits _ c.args.seat.now.me.0,
)
