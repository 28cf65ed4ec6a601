use Rattle.std.proofs.Common.{subst}
use Rattle.world.specs.SafeCancellation.{IsSafe}
use Rattle.world.specs.HoldsUp.{HoldsUp}
use Rattle.world.specs.Settled.{NothingToCome, EndedIsSettled}
use Rattle.world.proofs.HoldingUp.{holds_up}
use Rattle.world.proofs.Settling.{nothing_to_come, ended_is_settled}
use Rattle.world.proofs.world.World.interrupts.Goals as goal

pub returns-clause-safe : goal.returns-clause-safe
returns-clause-safe c = subst IsSafe c.self.view_is c.self.invariant.safe

pub returns-clause-nothing_to_come : goal.returns-clause-nothing_to_come
returns-clause-nothing_to_come c = subst NothingToCome c.self.view_is (nothing_to_come c.self.inside.state c.self.invariant)

pub returns-clause-ended_is_settled : goal.returns-clause-ended_is_settled
returns-clause-ended_is_settled c = subst EndedIsSettled c.self.view_is (ended_is_settled c.self.inside.state c.self.invariant)

pub returns-clause-holds_up : goal.returns-clause-holds_up
returns-clause-holds_up c = subst HoldsUp c.self.view_is (holds_up c.self.inside.state c.self.invariant c.known.ensures)
