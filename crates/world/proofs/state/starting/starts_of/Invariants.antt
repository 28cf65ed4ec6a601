use Rattle.std.proofs.Common.{◌≡◌, take}
use Rattle.world.specs.World.{first_starts}
use Rattle.world.proofs.state.starting.starts_of.Given as goal

abbrev pub invariant-loop-settings : goal.invariant-loop-settings
invariant-loop-settings l = l.starts.rows ≡ first_starts (take l.settings-index l.settings-items)
