use Rattle.world.proofs.starts.Starts.next.Goals as goal

pub returns-in-None-clause-none : goal.returns-in-None-clause-none
returns-in-None-clause-none c = rw c.in-None.is c.after_greatest.ensures.none
