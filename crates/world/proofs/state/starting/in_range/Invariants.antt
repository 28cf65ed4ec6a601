use Rattle.std.proofs.Common.{take}
use Rattle.world.specs.Facts.{AreInRange}
use Rattle.world.proofs.state.starting.in_range.Given as goal

abbrev pub invariant-loop-settings : goal.invariant-loop-settings
invariant-loop-settings l = AreInRange (take l.settings-index l.nodes)
