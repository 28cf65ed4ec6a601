use Rattle.std.proofs.Common.{arith}
use Rattle.scram.proofs.Utf8Lemmas.{encoded_more}
use Rattle.scram.proofs.preparation.encoded.Goals as goal

pub loop-c-preserved : goal.loop-c-preserved
loop-c-preserved c = encoded_more _ _ c.args.characters.now c.loop-c.c-index c.c-item.result (omega arith) c.c-item.is c.loop-c.invariant c.in_ok-push.ensures.bytes
