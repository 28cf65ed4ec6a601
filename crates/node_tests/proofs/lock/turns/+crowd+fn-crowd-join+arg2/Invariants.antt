use Rattle.std.proofs.Common.{ℕ, ◌+◌}
use Rattle.node_tests.proofs.lock.turns.+crowd+fn-crowd-join+arg2.Given as goal

-- each thread has fewer others behind it
abbrev pub decreases-crowd : goal.decreases-crowd
decreases-crowd g l = l.others + l.others

abbrev pub decreases-join+arg2 : goal.decreases-join+arg2
decreases-join+arg2 g l = l.fewer + l.fewer + 1
