use Rattle.std.proofs.Common.{rules}
use Rattle.ini_config.specs.Group.{Differ}
use Rattle.ini_config.proofs.Pairs.{pairs_below_more, front_from_pairs}
use Rattle.ini_config.proofs.node_group.peers_differ.Goals as goal

-- a node that fails beside an earlier one leaves no way to say yes
pub returns-then-not-differs_from_all : goal.returns-then-not-differs_from_all
returns-then-not-differs_from_all c = (search rules, λ pairs. (c.if-not-differs_from_all.ensures).1 (front_from_pairs Differ c.args.nodes.now c.loop-place.place c.index-nodes-place.result c.loop-place-test.true c.index-nodes-place.is pairs))

pub loop-place-preserved : goal.loop-place-preserved
loop-place-preserved c = pairs_below_more Differ c.args.nodes.now c.loop-place.place c.index-nodes-place.result c.loop-place-test.true c.index-nodes-place.is c.loop-place.invariant ((c.if-not-differs_from_all.ensures).0 (search rules))
