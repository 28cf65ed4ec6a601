use Rattle.std.proofs.Common.{◌≡◌, ◌<◌, Some, length, slice_get, sym, subst, ap, ◌∙◌, arith, refl, length-set}
use Rattle.slot_queues.specs.Queues.{Queues}
use Rattle.link_pool.specs.declared.place.Claim.TheVariants as claim
use Rattle.link_pool.specs.Pool.{PoolView}
use Rattle.link_pool.specs.PoolOf.{pool_of}
use Rattle.link_pool.proofs.Queues.{joined, nowhere}
use Rattle.link_pool.proofs.pool.Pool.join_queue.Goals as goal

pub push-requires-clause-queue : goal.push-requires-clause-queue
push-requires-clause-queue g c =
    let there = subst (λ w. c.args.database < length w.view.pools) (sym c.self.view_is) c.requires.database in
    let beside = c.self.invariant.0.beside in
    let is = c.get.ensures in
    omega (arith, there, beside, is)

pub push-requires-clause-slot : goal.push-requires-clause-slot
push-requires-clause-slot g c =
    let some = subst (λ w. c.args.slot < length w.view.claims) (sym c.self.view_is) c.requires.slot in
    let same = c.self.invariant.1 in
    omega (arith, some, same)

pub push-requires-clause-waits_nowhere : goal.push-requires-clause-waits_nowhere
push-requires-clause-waits_nowhere g c =
    let v : PoolView = (pool_of c.self.inside).view in
    nowhere v c.args.slot c.self.invariant.0 (subst (λ w. slice_get w.view.claims c.args.slot ≡ Some claim.Nothing) (sym c.self.view_is) c.requires.nothing)

pub invariant_of-self : goal.invariant_of-self
invariant_of-self g c =
    let v : PoolView = (pool_of c.self.inside).view in
    let h : slice_get v.claims c.args.slot ≡ Some claim.Nothing = subst (λ w. slice_get w.view.claims c.args.slot ≡ Some claim.Nothing) (sym c.self.view_is) c.requires.nothing in
    let there : c.args.database < length v.pools = subst (λ w. c.args.database < length w.view.pools) (sym c.self.view_is) c.requires.database in
    let beside = c.self.invariant.0.beside in (
      rw (c.push.ensures, c.get.ensures, c.get-2.ensures) (joined v c.args.database c.args.slot c.self.invariant.0 (omega (arith, there, beside)) h),
      ap (λ (q : Queues). q.slots) c.push.ensures ∙ c.self.invariant.1 ∙ sym (length-set c.self.inside.claims.items c.get-2.result (claim.Waiting c.args.database)),
    )

pub returns : goal.returns
returns g c = record {
  view = rw (← c.self.view_is, c.push.ensures, c.get.ensures, c.get-2.ensures) refl;
  streams = rw (← c.self.view_is) refl;
  whole = (invariant_of-self g c).0;
}
