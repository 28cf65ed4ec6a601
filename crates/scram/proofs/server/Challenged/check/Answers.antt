use Rattle.std.proofs.Common.{subst}
use Rattle.scram.specs.Exchange.{Asking}
use Rattle.scram.specs.Messages.{IsPrintable}
use Rattle.scram.proofs.FirstLemmas.{printable_lacks}
use Rattle.scram.proofs.LastLemmas.{proof_accepted}
use Rattle.scram.proofs.server.Challenged.check.Goals as goal

pub returns-clause-accepts : goal.returns-clause-accepts
returns-clause-accepts c = λ proof digest is right.
    let printable = subst (λ (a : Asking). IsPrintable a.nonce) c.self.view_is c.self.invariant in
    proof_accepted c.args.self c.args.text.now c.judge.result c.judge.ensures (printable_lacks c.args.self.nonce printable) proof digest is right
