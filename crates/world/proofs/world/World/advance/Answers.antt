use Rattle.std.proofs.Common.{subst}
use Rattle.world.specs.Facts.{Facts}
use Rattle.world.proofs.Stepping.{still_true}
use Rattle.world.proofs.world.World.advance.Goals as goal

pub invariant_of-self : goal.invariant_of-self
invariant_of-self c =
    still_true c.args.event.now c.apply.result c.self.inside.state c.apply.new.self c.in_range.ensures
    c.known.ensures c.self.invariant c.apply.ensures.step c.apply.ensures.err

pub returns-clause-facts : goal.returns-clause-facts
returns-clause-facts c = (
  subst Facts c.self.view_is c.self.invariant,
  still_true c.args.event.now c.apply.result c.self.inside.state c.apply.new.self c.in_range.ensures
      c.known.ensures c.self.invariant c.apply.ensures.step c.apply.ensures.err,
)
