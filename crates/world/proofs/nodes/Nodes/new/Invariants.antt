use Rattle.std.proofs.Common.{map, take}
use Rattle.world.specs.WorldRun.{AreFresh}
use Rattle.world.specs.Facts.{AreWhole}
use Rattle.world.proofs.nodes.Nodes.new.Given as goal

abbrev pub invariant-loop-settings : goal.invariant-loop-settings
invariant-loop-settings l =
    AreFresh (take l.settings-index l.settings-items) (map (λ core. core.view) l.cores.items)
    × AreWhole (map (λ core. core.view) l.cores.items)
