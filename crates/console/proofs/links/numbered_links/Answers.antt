use Rattle.std.proofs.Common.{◌≡◌, Some, map, take, ap, ◌∙◌, arith}
use Rattle.std.specs.List.{flat_map}
use Rattle.console.specs.Rows.{links_in, numbered_link}
use Rattle.console.proofs.Places.{pool_next}
use Rattle.console.proofs.links.numbered_links.Goals as goal

pub loop-database-preserved : goal.loop-database-preserved
loop-database-preserved g c = pool_next c.args.settings.now c.args.view.now.links.pools c.loop-database.database c.loop-database.rows.items c.put_links.new.rows.items c.loop-database.invariant c.in_ok-put_links.ensures

pub returns : goal.returns
returns g c =
    let all : c.loop-database.database ≡ 256 = omega (arith, c.loop-database-test.false, c.loop-database.auto.database-end) in
    c.loop-database.invariant ∙ ap (λ n. map (numbered_link c.args.settings.now) (flat_map (λ pool. links_in (Some pool)) (take n c.args.view.now.links.pools))) all
