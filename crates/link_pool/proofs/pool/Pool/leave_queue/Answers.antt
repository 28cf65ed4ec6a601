use Rattle.std.proofs.Common.{◌≡◌, ℕ, Some, slice_get, slice_set, sym, subst, ap, ◌∙◌, refl, length-set}
use Rattle.slot_queues.specs.Queues.{Queues, others}
use Rattle.link_pool.specs.declared.place.Claim.TheVariants as claim
use Rattle.link_pool.specs.Pool.{PoolView, queue_at}
use Rattle.link_pool.specs.PoolOf.{pool_of}
use Rattle.link_pool.proofs.Queues.{left, all_left}
use Rattle.link_pool.proofs.pool.Pool.leave_queue.Goals as goal

pub invariant_of-self : goal.invariant_of-self
invariant_of-self g c =
    let v : PoolView = (pool_of c.self.inside).view in
    let d : ℕ = c.in-Some-Waiting.field-0-0 in
    let e = c.claim.ensures.value in
    let i = c.in-Some-Waiting.is in
    let j = c.in-Some-Waiting.field-0-is in
    let has : slice_get c.args.self.now.view.claims c.args.slot ≡ Some (claim.Waiting d) = cc (e, i, j) in
    let h : slice_get v.claims c.args.slot ≡ Some (claim.Waiting d) = subst (λ w. slice_get w.view.claims c.args.slot ≡ Some (claim.Waiting d)) (sym c.self.view_is) has in
    let made : c.remove.new.self.queues ≡ slice_set v.queues d (others c.args.slot (queue_at v d)) = ap (λ (q : Queues). q.queues) c.remove.ensures ∙ all_left v d c.args.slot c.self.invariant.0 h in (
      rw (made, c.get.ensures) (left v d c.args.slot c.self.invariant.0 h),
      ap (λ (q : Queues). q.slots) c.remove.ensures ∙ c.self.invariant.1 ∙ sym (length-set c.self.inside.claims.items c.get.result claim.Nothing),
    )

pub returns-in-Some-Waiting-clause-view : goal.returns-in-Some-Waiting-clause-view
returns-in-Some-Waiting-clause-view g c =
    let v : PoolView = (pool_of c.self.inside).view in
    let d : ℕ = c.in-Some-Waiting.field-0-0 in
    let e = c.claim.ensures.value in
    let i = c.in-Some-Waiting.is in
    let j = c.in-Some-Waiting.field-0-is in
    let has : slice_get c.args.self.now.view.claims c.args.slot ≡ Some (claim.Waiting d) = cc (e, i, j) in
    let h : slice_get v.claims c.args.slot ≡ Some (claim.Waiting d) = subst (λ w. slice_get w.view.claims c.args.slot ≡ Some (claim.Waiting d)) (sym c.self.view_is) has in
    let made : c.remove.new.self.queues ≡ slice_set v.queues d (others c.args.slot (queue_at v d)) = ap (λ (q : Queues). q.queues) c.remove.ensures ∙ all_left v d c.args.slot c.self.invariant.0 h in
    rw has (rw (← c.self.view_is, made, c.get.ensures) refl)

pub returns-in-Some-Waiting-clause-whole : goal.returns-in-Some-Waiting-clause-whole
returns-in-Some-Waiting-clause-whole g c = (invariant_of-self g c).0
