use Rattle.std.proofs.Common.{◌≡◌, rules, length, arith, ap, subst}
use Rattle.world.specs.World.{World}
use Rattle.world.specs.Facts.{AreWhole}
use Rattle.world.proofs.Orders.{node_found}
use Rattle.world.proofs.state.State.deliver.Goals as goal

pub come-requires-clause-whole : goal.come-requires-clause-whole
come-requires-clause-whole c = subst (λ (w : World). AreWhole w.nodes) c.self.view_is c.get.ensures.whole

pub returns-clause-step : goal.returns-clause-step
returns-clause-step c =
    let long : c.len.result ≡ length c.self.inside.flights.items = search rules in
    let all = ap (λ (w : World). length w.flights) c.self.view_is in
    let below = c.if-flight-len.false in
    let at = c.flight.view_is in (
      (
        omega (arith, long, all, below, at),
        node_found (λ core. core.now.view) c.get.result c.self.inside.nodes c.args.self.now.nodes c.args.node
            c.if-is_none.ensures (ap (λ (w : World). w.nodes) c.self.view_is) c.get.ensures.found,
      ),
      c.in_ok-come.ensures.comes,
    )
