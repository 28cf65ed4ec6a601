use Rattle.ini_config.specs.Group.{ListEachOther}
use Rattle.ini_config.proofs.Pairs.{PairsBelow}
use Rattle.ini_config.proofs.node_group.all_listed.Given as goal

abbrev pub invariant-loop-place : goal.invariant-loop-place
invariant-loop-place l = PairsBelow ListEachOther l.nodes l.place
