use Rattle.std.proofs.Common.{◌≡◌, ◌<◌, true, length, slice_get, ap, subst, sym, ◌∙◌, arith, refl}
use Rattle.lease.specs.declared.link_place.LinkPlace.{LinkPlace}
use Rattle.lease.specs.declared.permit.PermitRecord.{PermitRecord}
use Rattle.link_pool.specs.Pool.{PoolView}
use Rattle.link_pool.specs.PoolOf.{pool_of}
use Rattle.link_pool.specs.PoolStep.{may_ask, IsNextFree}
use Rattle.link_pool.proofs.Asking.{kept_unqueued, next_unqueued, opened}
use Rattle.link_pool.proofs.pool.Pool.ask.Goals as goal

pub keep-requires-clause-next : goal.keep-requires-clause-next
keep-requires-clause-next g c =
    let v : PoolView = (pool_of c.self.inside).view in
    let w : PoolView = record v { next_permit = c.give.new.self } in
    let at : LinkPlace = c.in-Some-next_free.at in
    let free : IsNextFree v at = subst (λ p. IsNextFree p.view at) (sym c.self.view_is) c.in-Some-next_free.ensures.free.0 in
    let at_is : c.details.result.at ≡ at = ap (λ (p : PermitRecord). p.at) (c.details.ensures ∙ c.new-permit.ensures) in
    let next = next_unqueued w c.args.slot at (record { free = free.free; next = free.next }) in
    rw (at_is, c.leave_queue.ensures.view) next.next

pub keep-requires-clause-whole : goal.keep-requires-clause-whole
keep-requires-clause-whole g c =
    let v : PoolView = (pool_of c.self.inside).view in
    let n = c.give.new.self in
    let w : PoolView = record v { next_permit = n } in
    let slot = c.args.slot in
    let at : LinkPlace = c.in-Some-next_free.at in
    let was = c.self.view_is ∙ c.in_default.ensures.same in
    let free : IsNextFree v at = subst (λ p. IsNextFree p.view at) (sym c.self.view_is) c.in-Some-next_free.ensures.free.0 in
    let idle : may_ask (slice_get v.claims slot) ≡ true = subst (λ p. may_ask (slice_get p.view.claims slot) ≡ true) (sym was) c.requires.asks in
    let some : slot < length v.claims = subst (λ p. slot < length p.view.claims) (sym was) c.requires.slot in
    let given = c.in-Some-give.ensures.given in
    let below = given.1 in
    let number = given.0 in
    let permit : PermitRecord = record { peer = v.peer; incarnation = v.incarnation; number = v.next_permit; at = at } in
    let says : c.new-permit.result ≡ permit = c.new-permit.ensures
    ∙ ap {B = PermitRecord} (λ (x : PoolView). record { peer = x.peer; incarnation = x.incarnation; number = c.in-Some-give.number; at = at }) (ap (λ p. p.view) c.self-2.view_is ∙ c.leave_queue.ensures.view ∙ kept_unqueued w slot)
    ∙ ap {B = PermitRecord} (λ x. record { peer = v.peer; incarnation = v.incarnation; number = x; at = at }) number in
    let after = opened v slot n permit c.self.invariant.0 some idle free (omega (arith, below, number)) given.2 refl in
    rw (c.leave_queue.ensures.view, c.details.ensures, says) after
