use Rattle.world.proofs.Stepping.{still_settled}
use Rattle.world.proofs.world.World.step.Goals as goal

pub returns-clause-settled : goal.returns-clause-settled
returns-clause-settled c =
    still_settled c.args.event.now c.advance.result c.args.self.now c.advance.new.self c.advance.ensures.facts.0
    c.advance.ensures.step c.advance.ensures.err
