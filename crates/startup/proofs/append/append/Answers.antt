use Rattle.std.proofs.Common.{◌≡◌, ◌∙◌, ℕ, List, [], Bor, length, take, ap, vec_len, rules, arith, length-append}
use Rattle.std.specs.List.{flat_map}
use Rattle.std.proofs.lemmas.List.Concat.{length-flat_map}
use Rattle.std.proofs.lemmas.List.Folds.{length-flat_map-take}
use Rattle.startup.proofs.append.append.Goals as goal

-- there is room for this part
pub unwrap-requires : goal.unwrap-requires
unwrap-requires c =
    let parts = c.args.parts.now in
    let done = take c.loop-part.part-index parts in
    let none : Bor (List ℕ) = record { ref_ptr = (0, 0); now = [] } in
    let here = length-flat_map-take (λ (part : Bor (List ℕ)). part.now) parts c.loop-part.part-index none c.loop-part-test.true in
    let all = length-flat_map (λ (part : Bor (List ℕ)). part.now) parts in
    let before = ap length c.loop-part.invariant.items ∙ length-append c.args.out.now.items (flat_map (λ (part : Bor (List ℕ)). part.now) done) in
    let len : vec_len c.loop-part.out ≡ length c.loop-part.out.items = search rules in
    c.extend_from_slice.ensures.succeeds (omega (arith, here, all, before, len, c.loop-part.invariant.room))
