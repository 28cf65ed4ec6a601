use Rattle.std.proofs.Common.{rules, ◌≡◌, ◌∙◌, sym, length, arith, ap, map, take_all}
use Rattle.std.proofs.lemmas.Simd.{map-map}
use Rattle.link_pool.specs.Pool.{DatabasePool}
use Rattle.link_pool.specs.Entries.{place_of, pool_in}
use Rattle.link_pool.specs.Streams.{PoolValue}
use Rattle.link_pool.proofs.pool.Pool.places.Goals as goal

pub returns : goal.returns
returns g c =
    let pools = c.self.inside.pools.items in
    let len : c.len-database-end.result ≡ length pools = search rules in
    let over = c.loop-database-test.false in
    let all = take_all c.loop-database.database pools (omega (arith, len, over)) in
    c.loop-database.invariant.made
    ∙ ap (map (λ pool. map place_of pool.entries)) all
    ∙ sym (map-map (λ (pool : DatabasePool). pool.places) pool_in pools)
    ∙ ap (λ (w : PoolValue g.row.S.Denot). map (λ (pool : DatabasePool). pool.places) w.view.pools) c.self.view_is
