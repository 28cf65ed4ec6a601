use Rattle.std.proofs.Common.{rules, ◌≡◌, ℕ, ◌++◌, ap, ◌∙◌, arith, length, vec_len, add-one, get_or, map, take, drop, slice_set, ◌<◌}
use Rattle.link_pool.specs.Entries.{freed}
use Rattle.link_pool.proofs.NewLinks.{get_mapped, set_mapped}
use Rattle.link_pool.proofs.pool.empty_all.Goals as goal

pub loop-database-preserved : goal.loop-database-preserved
loop-database-preserved g c =
    let old = c.args.pools.now.items in
    let i : ℕ = c.loop-database.database in
    let len : vec_len c.args.pools.now ≡ length c.args.pools.now.items = search rules in
    let below = c.loop-database-test.true in
    let end = c.len-database-end.ensures in
    let within : i < length old = omega (arith, len, below, end) in
    let now = c.index_mut-pool.result.now in
    let is : now ≡ get_or old i now = c.index_mut-pool.ensures.value ∙ ap (λ ps. get_or ps i now) c.loop-database.invariant ∙ get_mapped freed old i now within in
    rw add-one (ap (λ ps. slice_set ps i c.empty.new.self) c.loop-database.invariant
    ∙ ap (slice_set (map freed (take i old) ++ drop i old) i) (c.empty.ensures ∙ ap freed is)
    ∙ set_mapped freed old i now within)
