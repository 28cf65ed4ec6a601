use Rattle.std.proofs.Common.{List, ℕ, ap, ◌∙◌, subst, map, bit_xor}
use Rattle.sha2.specs.Hashers.{Holds256}
use Rattle.scram.specs.Hmac.{key_pad}
use Rattle.scram.proofs.mac.HmacKey.new.Goals as goal

pub returns : goal.returns
unfolding key_pad
returns c =
    record {
      inner = subst (λ (m : List ℕ). Holds256 c.new_with_prefix.result m) (c.padded.ensures ∙ ap (λ (b : List ℕ). map (λ x. bit_xor x 0x36) b) c.block_of-block.ensures) c.new_with_prefix.ensures;
      outer = subst (λ (m : List ℕ). Holds256 c.new_with_prefix-2.result m) (c.padded-2.ensures ∙ ap (λ (b : List ℕ). map (λ x. bit_xor x 0x5C) b) c.block_of-block.ensures) c.new_with_prefix-2.ensures;
    }
