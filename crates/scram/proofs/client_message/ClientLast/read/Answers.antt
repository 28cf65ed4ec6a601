use Rattle.scram.proofs.LastLemmas.{spelled_out}
use Rattle.scram.proofs.PartsLemmas.{always_none, one_attribute, c_isnt, r_isnt}
use Rattle.scram.proofs.client_message.ClientLast.read.Goals as goal

pub returns-in_err-nonce-clause-none : goal.returns-in_err-nonce-clause-none
returns-in_err-nonce-clause-none c =
    let found = c.in_ok-binding.ensures.found in
    always_none c.from_residual-in_err-nonce.result (λ binding nonce proof has.
    let same = one_attribute 99 c.args.text.now _ _ _ _ c_isnt found.0 has.binding_lacks found.1 (spelled_out c.args.text.now binding nonce proof has) in
    c.in_err-nonce.ensures.none nonce _ has.nonce_lacks same.1)

pub returns-in_err-proof-clause-none : goal.returns-in_err-proof-clause-none
returns-in_err-proof-clause-none c =
    let found = c.in_ok-binding.ensures.found in
    let next = c.in_ok-nonce.ensures.found in
    always_none c.from_residual-in_err-proof.result (λ binding nonce proof has.
    let same = one_attribute 99 c.args.text.now _ _ _ _ c_isnt found.0 has.binding_lacks found.1 (spelled_out c.args.text.now binding nonce proof has) in
    let rest = one_attribute 114 c.in_ok-binding.rest.now _ _ _ _ r_isnt next.0 has.nonce_lacks next.1 same.1 in
    c.in_err-proof.ensures.none proof rest.1)
