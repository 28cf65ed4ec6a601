use Rattle.scram.proofs.LastLemmas.{greeted_accepted}
use Rattle.scram.proofs.server.Received.read.Goals as goal

pub returns-clause-accepts : goal.returns-clause-accepts
returns-clause-accepts c = λ flag user nonce is. greeted_accepted c.args.text.now c.judge.result c.judge.ensures flag user nonce is
