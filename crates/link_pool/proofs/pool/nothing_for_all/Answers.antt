use Rattle.std.proofs.Common.{rules, ◌≡◌, ℕ, ap, ◌∙◌, arith, length, vec_len, List, add-one, slice_set, ◌<◌}
use Rattle.link_pool.specs.declared.place.Claim.{Claim}
use Rattle.link_pool.specs.declared.place.Claim.TheVariants as claim
use Rattle.link_pool.proofs.NewLinks.{set_nothing}
use Rattle.link_pool.proofs.pool.nothing_for_all.Goals as goal

pub loop-slot-preserved : goal.loop-slot-preserved
loop-slot-preserved c =
    let old : List Claim = c.args.claims.now.items in
    let i : ℕ = c.loop-slot.slot in
    let len : vec_len c.args.claims.now ≡ length c.args.claims.now.items = search rules in
    let below = c.loop-slot-test.true in
    let end = c.len-slot-end.ensures in
    let within : i < length old = omega (arith, len, below, end) in
    rw add-one (ap (λ (cs : List Claim). slice_set cs i claim.Nothing) c.loop-slot.invariant ∙ set_nothing old i within)
