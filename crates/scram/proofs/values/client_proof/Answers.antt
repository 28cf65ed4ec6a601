use Rattle.scram.proofs.ProofLemmas.{right_proof}
use Rattle.scram.proofs.values.client_proof.Goals as goal

pub returns-clause-right : goal.returns-clause-right
returns-clause-right c = right_proof c.args.salted.now c.args.auth_message.now
