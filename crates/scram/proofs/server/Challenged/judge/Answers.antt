use Rattle.scram.proofs.LastLemmas.{one_last}
use Rattle.scram.proofs.server.Challenged.judge.Goals as goal

pub returns-in_default-2 : goal.returns-in_default-2
returns-in_default-2 c =
    let none = rw c.in_default-2.is at c.in_ok-proof.ensures in
    λ binding nonce proof has.
    let same = one_last c.args.text.now _ _ _ _ _ _ c.in-Some.ensures.found has.last in
    none proof has.digest same.proof_is
