use Rattle.std.proofs.Common.{◌≡◌, map, take}
use Rattle.world_script.specs.Peers.{settings_among}
use Rattle.world_script.proofs.peers.settings_of.Given as goal

abbrev pub invariant-loop-node : goal.invariant-loop-node
invariant-loop-node l = l.all.items ≡ map (settings_among l.nodes) (take l.node-index l.nodes)
