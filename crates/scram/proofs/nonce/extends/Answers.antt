use Rattle.std.proofs.Common.{◌∙◌, sym, subst}
use Rattle.scram.specs.Messages.{IsNonce}
use Rattle.scram.proofs.PartsLemmas.{same_rest}
use Rattle.scram.proofs.nonce.extends.Goals as goal

pub returns-in-Some : goal.returns-in-Some
returns-in-Some c = (
  λ yes. (c.in-Some.added.now, c.is_nonce.ensures.0 yes, c.in-Some.ensures),
  λ extends. c.is_nonce.ensures.1 (subst IsNonce (same_rest c.args.own.now _ _ (sym extends.2 ∙ c.in-Some.ensures)) extends.1),
)

pub returns-in-None : goal.returns-in-None
returns-in-None c = (λ yes. cc yes, λ extends. absurd (c.in-None.ensures extends.0 extends.2))
