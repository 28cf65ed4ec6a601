use Rattle.std.proofs.Common.{refl, ap}
use Rattle.std.proofs.lemmas.Result.{IfOk-weaker}
use Rattle.world.specs.CancelEvents.{Comes}
use Rattle.world.specs.World.{World}
use Rattle.world.proofs.Orders.{bytes_there}
use Rattle.world.proofs.state.State.come.Goals as goal

pub returns-in-Some-2-clause-comes : goal.returns-in-Some-2-clause-comes
returns-in-Some-2-clause-comes c =
    let there = bytes_there c.args.self.now.flights c.deref.result.now c.self.inside.flights.items c.flight.inside.0 c.args.flight c.in-Some.bytes.now
    c.deref.ensures.value (ap (λ (w : World). w.flights) c.self.view_is) c.flight.view_is c.requires.flight c.in-Some.ensures.lookup.1 in
    let read = rw c.in-Some-2.is at c.in_ok-key.ensures.request in
    IfOk-weaker c.arrive.result _ _ (λ said h. Comes.Request c.in-Some.bytes.now c.in-Some-2.key there read.0 h) c.arrive.ensures.arrives

pub returns-in-None-clause-comes : goal.returns-in-None-clause-comes
returns-in-None-clause-comes c =
    let there = bytes_there c.args.self.now.flights c.deref.result.now c.self.inside.flights.items c.flight.inside.0 c.args.flight c.in-Some.bytes.now
    c.deref.ensures.value (ap (λ (w : World). w.flights) c.self.view_is) c.flight.view_is c.requires.flight c.in-Some.ensures.lookup.1 in
    let read = rw c.in-None.is at c.in_ok-key.ensures.other in
    Comes.Other c.in-Some.bytes.now there read refl refl
