use Rattle.ini_config.specs.Group.{Differ}
use Rattle.ini_config.proofs.Pairs.{PairsBelow}
use Rattle.ini_config.proofs.node_group.peers_differ.Given as goal

abbrev pub invariant-loop-place : goal.invariant-loop-place
invariant-loop-place l = PairsBelow Differ l.nodes l.place
