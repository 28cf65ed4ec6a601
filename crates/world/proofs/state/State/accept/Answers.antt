use Rattle.std.proofs.Common.{◌≡◌, ℕ, rules, List, length, slice_get, Some, refl, ap, sym, subst, ◌∙◌}
use Rattle.world.specs.Table.{IsFound}
use Rattle.world.specs.World.{World, Forward, IsForward}
use Rattle.world.specs.Changes.{with_forward}
use Rattle.world.specs.Facts.{AreWhole}
use Rattle.world.specs.contracts.state.State.{the_view}
use Rattle.world.proofs.Orders.{forward_keys, accepts_request, accepts_other, node_found, may_accept, no_cancel}
use Rattle.world.proofs.state.State.accept.Goals as goal
use Rattle.world.proofs.state.State.accept.Goals.{then-is_request, else-is_request}

keys : (c : goal.After-leading)
    → IsFound (λ (f : Forward). f.flight) c.self-2.inside.forwards.rows c.in-Some.found.place c.leading.result.flight
    × IsFound (λ (f : Forward). f.origin) c.self-2.inside.forwards.rows c.in-Some.found.place c.leading.result.origin
keys c = forward_keys c.args.self.now c.come.new.self c.args.flight c.args.node c.in-Some.found.place c.in_ok-reply.reply c.in-Some.found.row
    c.leading.result c.self-2.inside.forwards.rows
    (ap (λ (w : World). slice_get w.forwards c.in-Some.found.place) (sym c.self.view_is) ∙ c.in-Some.ensures.found)
    c.in_ok-reply.ensures.comes (ap (λ (w : World). w.forwards) c.self-2.view_is)
    (ap (λ (f : Forward). f.flight) c.leading.ensures, ap (λ (f : Forward). f.origin) c.leading.ensures)

pub set-requires-clause-flight : goal.set-requires-clause-flight
set-requires-clause-flight c = (keys c).0

pub set-requires-clause-origin : goal.set-requires-clause-origin
set-requires-clause-origin c = (keys c).1

pub come-requires-clause-whole : goal.come-requires-clause-whole
come-requires-clause-whole c = subst (λ (w : World). AreWhole w.nodes) c.self.view_is c.get.ensures.whole

pub returns-clause-step : goal.returns-clause-step
returns-clause-step c =
    let is : IsForward c.args.self.now.forwards c.args.flight c.in-Some.found.place c.in-Some.found.row = record {
      there = ap (λ (w : World). slice_get w.forwards c.in-Some.found.place) (sym c.self.view_is) ∙ c.in-Some.ensures.found;
      named = c.in-Some.ensures.key;
    } in
    let few : c.len.result ≡ length c.self.inside.arrivals.items = search rules in
    let long : c.len.result ≡ length c.args.self.now.arrivals = few ∙ ap (λ (w : World). length w.arrivals) c.self.view_is in (
      (
        may_accept c.args.self.now c.args.flight c.in-Some.found.place c.in-Some.found.row is c.if-is_some.ensures c.if-is_some-2.ensures,
        node_found (λ core. core.now.view) c.get.result c.self.inside.nodes c.args.self.now.nodes c.args.node
            c.if-is_none.ensures (ap (λ (w : World). w.nodes) c.self.view_is) c.get.ensures.found,
      ),
      elim c.if-is_request.branch [
        | then-is_request w ↦ accepts_request c.args.self.now c.come.new.self c.if-is_request.self c.args.flight c.args.node c.in-Some.found.place
            c.in_ok-reply.reply c.in-Some.found.row w.leading.result is c.in_ok-reply.ensures.comes (w.if-is_request.ensures.0 refl)
            (w.leading.ensures ∙ ap (λ (n : ℕ). record c.in-Some.found.row { accepted = Some n }) long)
            (w.self-is ∙ ap (λ (l : List Forward). record (the_view c.self-2.inside) { forwards = l }) w.set.ensures.rows
            ∙ ap (with_forward c.in-Some.found.place w.leading.result) c.self-2.view_is)
        | else-is_request w ↦ accepts_other c.args.self.now c.come.new.self c.if-is_request.self c.args.flight c.args.node c.in-Some.found.place
            c.in_ok-reply.reply c.in-Some.found.row is c.in_ok-reply.ensures.comes
            (no_cancel c.in_ok-reply.reply w.if-is_request.ensures.1) w.self-is
      ],
    )
