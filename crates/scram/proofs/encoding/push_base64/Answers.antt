use Rattle.std.proofs.Common.{◌++◌, ◌∙◌, ap, List, ℕ}
use Rattle.scram.specs.Base64.{base64}
use Rattle.scram.proofs.encoding.push_base64.Goals as goal

pub returns : goal.returns
unfolding base64
returns c = c.in_ok-extend_from_slice.ensures.items ∙ ap (λ (xs : List ℕ). c.args.out.now.items ++ xs) (c.as_bytes.ensures.value ∙ c.in_ok-text.ensures.text)
