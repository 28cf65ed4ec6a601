use Rattle.std.proofs.Common.{subst}
use Rattle.scram.specs.Messages.{IsNonce}
use Rattle.scram.proofs.FirstLemmas.{first_accepted, extended_lacks}
use Rattle.scram.proofs.client.ClientFirst.read.Goals as goal

pub returns-clause-accepts : goal.returns-clause-accepts
returns-clause-accepts c = λ nonce salt iterations spelled extends bytes count.
    let own = subst IsNonce c.self.view_is c.self.invariant in
    first_accepted c.args.self c.args.text.now c.judge.result c.judge.ensures nonce salt iterations
    record { spelled = spelled; lacks = extended_lacks c.args.self nonce own.printable extends; extends = extends; bytes = bytes; count = count }
