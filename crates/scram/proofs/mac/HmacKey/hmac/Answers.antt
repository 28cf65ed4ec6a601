use Rattle.std.proofs.Common.{List, ℕ, ◌++◌, sym, ap, ◌∙◌, subst}
use Rattle.sha2.specs.Hashers.{Holds256}
use Rattle.sha2.specs.declared.Sha256.{Sha256}
use Rattle.sha2.specs.Sha256.{sha256}
use Rattle.scram.specs.Hmac.{hmac, key_pad}
use Rattle.scram.proofs.mac.HmacKey.hmac.Goals as goal

pub returns : goal.returns
unfolding hmac
returns c = λ key keyed.
    let inner = rw c.unwrap-inner.ensures at c.clone.ensures.cases in
    let outer = rw c.unwrap-outer.ensures at c.clone-2.ensures.cases in
    let first = c.finalize.ensures (key_pad 0x36 key ++ c.args.text.now) (c.update.ensures (key_pad 0x36 key) (subst (λ (s : Sha256). Holds256 s (key_pad 0x36 key)) (sym inner) keyed.inner)) in
    c.finalize-2.ensures (key_pad 0x5C key ++ c.finalize.result) (c.update-2.ensures (key_pad 0x5C key) (subst (λ (s : Sha256). Holds256 s (key_pad 0x5C key)) (sym outer) keyed.outer))
    ∙ ap (λ (m : List ℕ). sha256 (key_pad 0x5C key ++ m)) first
