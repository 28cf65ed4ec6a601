use Rattle.std.proofs.Common.{sym, ◌∙◌}
use Rattle.std.specs.Mem.Slots.{slots_items, slots_counts}
use Rattle.stat_board.proofs.Rows.{all_read}
use Rattle.stat_board.proofs.board.words_of.Goals as goal

pub returns : goal.returns
returns c =
    all_read (slots_items c.args.closed.now.words) c.loop-i.words c.loop-i.i (sym (slots_counts c.args.closed.now.words).0 ∙ c.requires.words)
    c.loop-i.invariant.0 c.loop-i-test.false c.loop-i.invariant.1
