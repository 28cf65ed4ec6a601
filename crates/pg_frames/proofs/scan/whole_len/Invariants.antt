use Rattle.std.proofs.Common.{◌-◌, length}
use Rattle.pg_frames.proofs.CutLemmas.{StandsFirst}
use Rattle.pg_frames.proofs.scan.whole_len.Given as goal

-- whole frames take the bytes so far
abbrev pub invariant-loop-len : goal.invariant-loop-len
invariant-loop-len l = StandsFirst l.fn.limit l.bytes l.at

abbrev pub decreases-loop-len : goal.decreases-loop-len
decreases-loop-len l = length l.bytes - l.at
