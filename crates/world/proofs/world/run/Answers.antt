use Rattle.std.proofs.Common.{subst}
use Rattle.world.specs.World.{World}
use Rattle.world.specs.WorldRun.{Runs, RunsSettled}
use Rattle.world.proofs.world.run.Goals as goal

pub returns-clause-run : goal.returns-clause-run
returns-clause-run c =
    let new = c.in_ok-world.ensures in
    record {
      nodes = new.0;
      fresh = new.1;
      runs = subst (λ (w : World). Runs w c.args.events.now c.in_ok-took.took.items c.steps.new.self) new.2
          c.in_ok-took.ensures.runs;
    }

pub returns-clause-settled : goal.returns-clause-settled
returns-clause-settled c =
    let new = c.in_ok-world.ensures in
    record {
      nodes = new.0;
      fresh = new.1;
      runs = subst (λ (w : World). RunsSettled w c.args.events.now c.in_ok-took.took.items c.steps.new.self) new.2
          c.in_ok-took.ensures.settled;
    }
