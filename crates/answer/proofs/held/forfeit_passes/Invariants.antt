use Rattle.std.proofs.Common.{vec_len}
use Rattle.answer.proofs.held.forfeit_passes.Given as goal

abbrev pub decreases-loop-pass : goal.decreases-loop-pass
decreases-loop-pass l = vec_len l.passes
