use Rattle.std.proofs.Common.{◌-◌, List, ℕ, [], ◌∷◌, ◌++◌, length, length-append, ap, ◌∙◌, arith}
use Rattle.link_pool.specs.Stacks.{all_places}
use Rattle.link_pool.proofs.Stacking.{all_step}
use Rattle.link_pool.proofs.database_links.stack_all.Goals as goal

pub loop-index-preserved : goal.loop-index-preserved
loop-index-preserved c =
    let stack = c.loop-index.stack.items in
    let i : ℕ = c.loop-index.index in
    let room = c.loop-index.invariant.room in
    let left = c.loop-index.invariant.left in
    let some = c.loop-index-test.true in
    let capacity = c.push_reserved.ensures.capacity in
    let longer = ap length c.push_reserved.ensures.items ∙ length-append stack ((i - 1) ∷ []) in
    record {
      room = omega (arith, room, capacity);
      same = capacity ∙ c.loop-index.invariant.same;
      left = omega (arith, left, some, longer);
      made = ap (λ (s : List ℕ). s ++ all_places (i - 1)) c.push_reserved.ensures.items
          ∙ all_step stack i some
          ∙ c.loop-index.invariant.made;
    }
