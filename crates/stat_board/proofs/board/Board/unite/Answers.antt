use Rattle.std.proofs.Common.{sym, ◌∙◌, arith}
use mathlib.Core.Option.{none}
use Rattle.atomic_table.specs.Table.{step}
use Rattle.stat_board.proofs.Counting.{board_joins, board_weighs}
use Rattle.stat_board.proofs.board.Board.unite.Goals as goal

pub join_seat-requires : goal.join_seat-requires
join_seat-requires c = (
  c.requires.own.0 ∙ sym c.self.view_is,
  c.requires.own.1 ∙ sym c.self.view_is,
  c.requires.empty,
  (let w = c.self.invariant.0 in omega (arith, w)),
  board_joins _ c.args.seat.now.me.0 _ c.args.other.me.0,
)

pub load-requires : goal.load-requires
load-requires c = (
  c.join_seat.ensures.0 ∙ (c.requires.own.0 ∙ sym c.self.view_is),
  (let w = c.self.invariant.0 in omega (arith, w)),
  board_weighs _ _ c.join_seat.new.seat.me (step c.self.inside.table.shared.table_id.slots 0 0 0 none),
)
