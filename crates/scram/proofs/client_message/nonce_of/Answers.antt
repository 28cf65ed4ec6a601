use Rattle.std.proofs.Common.{sym, ◌∙◌, subst, [], ◌∷◌}
use Rattle.scram.specs.Messages.{IsNonce}
use Rattle.scram.proofs.PartsLemmas.{always_none, one_attribute, same_rest, n_isnt}
use Rattle.scram.proofs.client_message.nonce_of.Goals as goal

pub returns-in_err-nonce-clause-none : goal.returns-in_err-nonce-clause-none
returns-in_err-nonce-clause-none c =
    let found = c.in_ok-rest.ensures.found in
    always_none c.from_residual-in_err-nonce.result (λ user nonce has.
    let same = one_attribute 110 c.args.bare.now _ _ _ _ n_isnt found.0 has.user_lacks found.1 has.spelled in
    c.in_err-nonce.ensures.none nonce same.1)

pub returns-then-not-is_nonce-clause-none : goal.returns-then-not-is_nonce-clause-none
returns-then-not-is_nonce-clause-none c = λ user nonce has.
    let found = c.in_ok-rest.ensures.found in
    let same = one_attribute 110 c.args.bare.now _ _ _ _ n_isnt found.0 has.user_lacks found.1 has.spelled in
    let value = same_rest (114 ∷ 61 ∷ []) _ _ (sym same.1 ∙ c.in_ok-nonce.ensures.found) in
    let yes = c.is_nonce.ensures.1 (subst IsNonce value has.nonce_is) in
    let contrary = sym yes ∙ c.if-not-is_nonce.true in
    cc contrary
