use Rattle.world.proofs.ProcessRows.{process_takes}
use Rattle.world.proofs.backends.Backends.take.Goals as goal

pub returns-clause-taken : goal.returns-clause-taken
returns-clause-taken c = λ _.
    process_takes c.args.self.now.rows c.set.new.self.rows c.args.place c.in-Some-checked_sub.waiting c.in-Some-holder.label c.in-Some.process
    c.in-Some.ensures c.in-Some-holder.is c.in-Some-checked_sub.ensures c.set.ensures.rows
