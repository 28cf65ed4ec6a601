use Rattle.std.proofs.Common.{refl, sym, ◌∙◌, arith}
use mathlib.Core.Option.{none}
use Rattle.atomic_table.specs.Table.{step}
use Rattle.stat_board.proofs.Counting.{board_raises}
use Rattle.stat_board.proofs.board.Board.raise.Goals as goal

pub fetch_add-requires : goal.fetch_add-requires
fetch_add-requires c = (
  c.requires.own ∙ sym c.self.view_is,
  (let w = c.self.invariant.0 in let p = c.requires.place in omega (arith, w, p)),
  board_raises _ _ c.args.seat.now.me c.args.place (step c.self.inside.table.shared.table_id.slots c.args.place 1 0 none) refl c.requires.may c.requires.place c.requires.row,
)
