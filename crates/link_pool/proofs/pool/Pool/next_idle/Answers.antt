use Rattle.std.proofs.Common.{◌≡◌, ◌<◌, true, length, subst, sym, refl}
use Rattle.lease.specs.declared.link_place.LinkPlace.{LinkPlace}
use Rattle.link_pool.specs.Pool.{place_at}
use Rattle.link_pool.specs.PoolStep.{nth_of, is_idle, NoIdle}
use Rattle.link_pool.proofs.Entries.{read_pool, not_idle_at, idle_at}
use Rattle.link_pool.proofs.pool.Pool.next_idle.Goals as goal

pub returns-in_default-clause-none : goal.returns-in_default-clause-none
returns-in_default-clause-none g c =
    let pools = c.self.inside.pools.items in
    let d = c.args.database in
    let pool = c.index-pool.result.now in
    let there = read_pool pools d c.get.result pool c.get.ensures (subst (λ w. d < length w.view.pools) (sym c.self.view_is) c.requires) c.index-pool.ensures in
    subst (λ w. NoIdle d w.view) c.self.view_is (λ i. not_idle_at pools (nth_of d i) pool there (c.in_default.ensures.none i))

pub returns-clause-idle : goal.returns-clause-idle
returns-clause-idle g c =
    let pools = c.self.inside.pools.items in
    let d = c.args.database in
    let pool = c.index-pool.result.now in
    let at : LinkPlace = nth_of d c.in-Some.index in
    let there = read_pool pools d c.get.result pool c.get.ensures (subst (λ w. d < length w.view.pools) (sym c.self.view_is) c.requires) c.index-pool.ensures in
    (subst (λ w. is_idle (place_at w.view at) ≡ true) c.self.view_is (idle_at pools at pool there c.in-Some.ensures.idle), refl)
