use Rattle.std.proofs.Common.{rules, ◌≡◌, Some, ◌∙◌, length, slice_get, subst, ap, arith}
use Rattle.link_pool.specs.Pool.{place_at}
use Rattle.link_pool.proofs.Changes.{was_read}
use Rattle.node_core.specs.View.{NodeView}
use Rattle.node_core.proofs.Rows.{in_row}
use Rattle.node_core.proofs.view.View.place.Goals as goal

pub returns : goal.returns
returns g c =
    let rows = c.self.inside.places.items in
    let pools = c.self.inside.node.value.view.links.pools in
    let at = c.args.at in
    let row = c.index.result.now in
    let len : c.len.result ≡ length rows = search rules in
    let within = c.if-database-len.false in
    let there : slice_get rows at.database ≡ Some row = was_read rows c.get-database.result at.database row c.get-database.ensures (omega (arith, len, within, c.get-database.ensures)) c.index.ensures in
    let list : c.deref.result.now ≡ row.items = c.deref.ensures.value in
    subst (λ (w : NodeView). c.at_index.result ≡ place_at w.links at) c.self.view_is
    (c.at_index.ensures ∙ ap (λ l. slice_get l at.index) list ∙ in_row (λ r. r.items) rows pools at.database at.index row c.self.invariant.3 there)
