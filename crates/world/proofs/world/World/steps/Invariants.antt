use Rattle.std.proofs.Common.{take}
use Rattle.world.proofs.Stepping.{Along}
use Rattle.world.proofs.world.World.steps.Given as goal

abbrev pub invariant-loop-event : goal.invariant-loop-event
invariant-loop-event l = Along l.fn.self (take l.event-index l.events) l.took.items l.self
