use Rattle.std.proofs.Common.{◌≡◌, ◌<◌, Some, length, subst, sym, ap, ◌∙◌, refl}
use Rattle.lease.specs.declared.link_place.LinkPlace.{LinkPlace}
use Rattle.link_pool.specs.Pool.{PoolView, free_in, free_at}
use Rattle.link_pool.specs.PoolOf.{pool_of}
use Rattle.link_pool.specs.PoolStep.{nth_of, NoneFree, IsNextFree}
use Rattle.link_pool.specs.Stacks.{top}
use Rattle.link_pool.proofs.Entries.{read_pool, not_free_at, pool_seen}
use Rattle.link_pool.proofs.Whole.{next_is_free}
use Rattle.link_pool.proofs.pool.Pool.next_free.Goals as goal

pub returns-in_default-clause-none : goal.returns-in_default-clause-none
returns-in_default-clause-none g c =
    let pools = c.self.inside.pools.items in
    let d = c.args.database in
    let pool = c.index-pool.result.now in
    let there = read_pool pools d c.get.result pool c.get.ensures (subst (λ w. d < length w.view.pools) (sym c.self.view_is) c.requires) c.index-pool.ensures in
    subst (λ w. NoneFree d w.view) c.self.view_is (λ i. not_free_at pools (nth_of d i) pool there (c.in_default.ensures.none i))

pub returns-clause-free : goal.returns-clause-free
returns-clause-free g c =
    let pools = c.self.inside.pools.items in
    let d = c.args.database in
    let pool = c.index-pool.result.now in
    let v : PoolView = (pool_of c.self.inside).view in
    let at : LinkPlace = nth_of d c.in-Some.index in
    let there = read_pool pools d c.get.result pool c.get.ensures (subst (λ w. d < length w.view.pools) (sym c.self.view_is) c.requires) c.index-pool.ensures in
    let next : top (free_at v d) ≡ Some c.in-Some.index = ap (λ o. top (free_in o)) (pool_seen pools d pool there) ∙ sym c.next_free.ensures.next ∙ c.in-Some.is in
    (subst (λ w. IsNextFree w.view at) c.self.view_is (record { free = next_is_free v at c.self.invariant.0 next; next = next }), refl)
