use Rattle.std.proofs.Common.{List, ℕ, ◌++◌, ◌-◌, length, replicate, sym, ap, ◌∙◌}
use Rattle.scram.specs.Hmac.{key_block}
use Rattle.scram.proofs.BytesLemmas.{long_key, other_key}
use Rattle.scram.proofs.mac.block_of.Goals as goal

pub returns-then-key-gt64 : goal.returns-then-key-gt64
unfolding key_block
returns-then-key-gt64 c =
    c.filled.ensures ∙ ap (λ (key : List ℕ). key ++ replicate (64 - length key) 0) (c.digest.ensures ∙ sym (long_key c.args.key.now c.if-key-gt64.true))

pub returns-else-key-gt64 : goal.returns-else-key-gt64
unfolding key_block
returns-else-key-gt64 c =
    c.filled-else-key-gt64.ensures ∙ ap (λ (key : List ℕ). key ++ replicate (64 - length key) 0) (sym (other_key c.args.key.now c.if-key-gt64.false))
