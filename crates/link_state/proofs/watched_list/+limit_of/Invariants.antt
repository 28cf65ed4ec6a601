use Rattle.std.proofs.Common.{length}
use Rattle.link_state.proofs.watched_list.+limit_of.Given as goal

abbrev pub decreases-limit_of : goal.decreases-limit_of
decreases-limit_of l = length l.all.now
