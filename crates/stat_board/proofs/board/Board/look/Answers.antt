use Rattle.std.proofs.Common.{refl, sym, ◌∙◌, arith}
use Rattle.stat_board.proofs.Counting.{board_reads}
use Rattle.stat_board.proofs.board.Board.look.Goals as goal

pub load-requires : goal.load-requires
load-requires c = (
  c.requires.own ∙ sym c.self.view_is,
  (let w = c.self.invariant.0 in let p = c.requires.place in omega (arith, w, p)),
  board_reads _ _ c.args.seat.now.me c.args.place _ refl c.requires.place c.requires.row,
)
