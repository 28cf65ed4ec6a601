use Rattle.std.proofs.Common.{slice_get, sym, ◌∙◌, arith, rules}
use Rattle.console.proofs.Places.{place_next, place_end, place_last}
use Rattle.console.proofs.links.put_links.Goals as goal

pub returns-in_default : goal.returns-in_default
returns-in_default g c =
    let pool = slice_get c.args.view.now.links.pools c.args.database in
    place_end c.args.settings.now pool c.loop-index.index c.args.rows.now.items c.loop-index.rows.items
    (sym c.place.ensures ∙ search rules) (omega (arith, c.loop-index-test.true)) c.loop-index.invariant

pub loop-index-preserved : goal.loop-index-preserved
loop-index-preserved g c =
    let pool = slice_get c.args.view.now.links.pools c.args.database in
    place_next c.args.settings.now pool c.loop-index.index c.in-Some.place c.args.rows.now.items c.loop-index.rows.items c.put_link.new.rows.items
    (sym c.place.ensures ∙ c.in-Some.is) c.loop-index.invariant c.in_ok-put_link.ensures

pub returns : goal.returns
returns g c =
    let pool = slice_get c.args.view.now.links.pools c.args.database in
    place_last c.args.settings.now pool c.loop-index.index c.args.rows.now.items c.loop-index.rows.items
    (omega (arith, c.loop-index-test.false, c.loop-index.auto.index-end)) c.loop-index.invariant
