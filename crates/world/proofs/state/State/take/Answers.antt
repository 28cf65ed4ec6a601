use Rattle.std.proofs.Common.{refl, sym}
use Rattle.world.specs.Wire.{backend_of}
use Rattle.world.specs.contracts.state.State.{the_view}
use Rattle.world.proofs.Requesting.{begins}
use Rattle.world.proofs.state.State.take.Goals as goal

pub returns : goal.returns
returns c =
    let there = sym c.in-Some.ensures in
    let took = c.if-not-take.ensures.taken refl (backend_of c.in-Some.process) there in
    rw (← c.self.view_is) (begins (the_view c.self.inside) c.args.at took.0 took.1 (backend_of c.in-Some.process) c.take.new.self.rows
    there c.in-None.is took.2 took.3)
