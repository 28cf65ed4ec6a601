use Rattle.std.proofs.Common.{arith}
use Rattle.scram.proofs.BytesLemmas.{pad_more}
use Rattle.scram.proofs.mac.padded.Goals as goal

pub loop-b-preserved : goal.loop-b-preserved
loop-b-preserved c = pad_more c.args.byte c.args.block.now c.loop-b.b-items c.loop-b.b-index 0 (omega arith) (omega arith) c.loop-b.invariant
