use Rattle.std.proofs.Common.{vec_len}
use Rattle.answer.proofs.held.forfeit_leases.Given as goal

abbrev pub decreases-loop-lease : goal.decreases-loop-lease
decreases-loop-lease l = vec_len l.leases
