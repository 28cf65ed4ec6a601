use Rattle.std.proofs.Common.{sym}
use Rattle.world.specs.Wire.{backend_of}
use Rattle.world.specs.contracts.state.State.{the_view}
use Rattle.world.proofs.Requesting.{finishes}
use Rattle.world.proofs.state.State.finish.Goals as goal

pub returns-clause-step : goal.returns-clause-step
returns-clause-step c =
    let there = sym c.in-Some.ensures in
    rw (← c.self.view_is) (finishes (the_view c.self.inside) c.args.at c.in-Some-running.field-0 (backend_of c.in-Some.process) c.rest.new.self.rows
    there c.in-Some-running.is (c.in_ok-rest.ensures.rested (backend_of c.in-Some.process) there))
