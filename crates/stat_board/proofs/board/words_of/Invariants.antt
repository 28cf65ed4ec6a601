use Rattle.std.proofs.Common.{ℕ, ◌≡◌, ◌<◌, length}
use Rattle.std.specs.Prelude.{slice_index}
use Rattle.std.specs.Mem.Slots.{slots_items}
use mathlib.Core.Option.{some}
use lib.ListN.{get_elem?}
use Rattle.stat_board.proofs.board.words_of.Given as goal

-- up to here these are the words
abbrev pub invariant-loop-i : goal.invariant-loop-i
invariant-loop-i l = (length l.words ≡ 8) × ((k : ℕ) → k < l.i → get_elem? (slots_items l.closed.words) k ≡ some (slice_index l.words k))
