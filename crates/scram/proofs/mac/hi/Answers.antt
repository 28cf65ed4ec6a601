use Rattle.std.proofs.Common.{ℕ, ◌≡◌, ◌-◌, ap, ◌∙◌, arith}
use Rattle.scram.specs.Hmac.{hmac, xor_of_first}
use Rattle.scram.proofs.HiLemmas.{one_more_u, one_more_xor, only_first}
use Rattle.scram.proofs.mac.hi.Goals as goal

pub loop-init : goal.loop-init
loop-init c =
    let first = c.first_block-block.ensures c.args.str.now c.new-key.ensures in
    (c.new-key.ensures, omega arith, first, first ∙ only_first c.args.str.now c.args.salt.now)

pub loop-preserved : goal.loop-preserved
loop-preserved c =
    let i = c.loop.invariant in
    let next = c.hmac-block.ensures c.args.str.now i.0 ∙ ap (hmac c.args.str.now) i.2 in
    let u = one_more_u c.args.str.now c.args.salt.now c.loop.counter i.1 next in
    (i.0, omega arith, u, one_more_xor c.args.str.now c.args.salt.now c.loop.counter c.loop.all c.hmac-block.result c.xor-all.result i.1 i.3 u c.xor-all.ensures)

pub returns : goal.returns
returns c =
    let i = c.loop.invariant in
    let end : c.loop.counter ≡ c.args.iterations = omega arith in
    i.3 ∙ ap (λ (n : ℕ). xor_of_first c.args.str.now c.args.salt.now (n - 1)) end
