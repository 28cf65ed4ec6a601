use Rattle.std.proofs.Common.{◌≡◌, take}
use Rattle.world_script.specs.Peers.{numbers_of, peers_of}
use Rattle.world_script.proofs.peers.peers_of.Given as goal

abbrev pub invariant-loop-node : goal.invariant-loop-node
invariant-loop-node l = l.peers.items ≡ peers_of l.own (numbers_of (take l.node-index l.nodes))
