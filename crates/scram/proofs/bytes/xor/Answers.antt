use Rattle.std.proofs.Common.{arith}
use Rattle.scram.proofs.BytesLemmas.{xor_more}
use Rattle.scram.proofs.bytes.xor.Goals as goal

pub loop-i-preserved : goal.loop-i-preserved
loop-i-preserved c = xor_more c.loop-i.i c.args.a.now c.args.b.now c.loop-i.out (omega arith) (omega arith) c.loop-i.invariant
