use Rattle.std.proofs.Common.{length}
use Rattle.link_state.proofs.watched_list.+first_change.Given as goal

abbrev pub decreases-first_change : goal.decreases-first_change
decreases-first_change l = length l.all.now
