use Rattle.scram.proofs.PartsLemmas.{always_none, one_attribute, r_isnt, s_isnt}
use Rattle.scram.proofs.server_message.ServerFirst.read.Goals as goal

pub returns-in_err-salt-clause-none : goal.returns-in_err-salt-clause-none
returns-in_err-salt-clause-none c =
    let found = c.in_ok-nonce.ensures.found in
    always_none c.from_residual-in_err-salt.result (λ nonce salt count has.
    let same = one_attribute 114 c.args.text.now _ _ _ _ r_isnt found.0 has.nonce_lacks found.1 has.spelled in
    c.in_err-salt.ensures.none salt _ has.salt_lacks same.1)

pub returns-in_err-count-clause-none : goal.returns-in_err-count-clause-none
returns-in_err-count-clause-none c =
    let found = c.in_ok-nonce.ensures.found in
    let next = c.in_ok-salt.ensures.found in
    always_none c.from_residual-in_err-count.result (λ nonce salt count has.
    let same = one_attribute 114 c.args.text.now _ _ _ _ r_isnt found.0 has.nonce_lacks found.1 has.spelled in
    let rest = one_attribute 115 c.in_ok-nonce.rest.now _ _ _ _ s_isnt next.0 has.salt_lacks next.1 same.1 in
    c.in_err-count.ensures.none count rest.1)
