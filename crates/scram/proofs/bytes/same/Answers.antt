use Rattle.std.proofs.Common.{length, arith, eq-eqb}
use Rattle.std.proofs.lemmas.Bool.{eqb-true}
use Rattle.scram.proofs.BytesLemmas.{differences_more, same_texts}
use Rattle.scram.proofs.bytes.same.Goals as goal

pub loop-i-preserved : goal.loop-i-preserved
loop-i-preserved c = differences_more c.loop-i.i c.args.a.now c.args.b.now c.loop-i.differences c.loop-i.invariant

pub returns : goal.returns
returns c =
    let same = same_texts (length c.args.a.now) c.args.a.now c.args.b.now (omega arith) (omega arith) in (
      λ none. same.0 (λ k below. c.loop-i.invariant.0 (eqb-true c.loop-i.differences 0 none) k (omega arith)),
      λ is. eq-eqb c.loop-i.differences 0 (c.loop-i.invariant.1 (λ k below. same.1 is k (omega arith))),
    )
