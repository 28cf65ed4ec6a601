use Rattle.std.proofs.Common.{rules}
use Rattle.ini_config.specs.Group.{ListEachOther}
use Rattle.ini_config.proofs.Pairs.{pairs_below_more, front_from_pairs}
use Rattle.ini_config.proofs.node_group.all_listed.Goals as goal

-- a node that fails beside an earlier one leaves no way to say yes
pub returns-then-not-is_listed : goal.returns-then-not-is_listed
returns-then-not-is_listed c = (search rules, λ pairs. (c.if-not-is_listed.ensures).1 (front_from_pairs ListEachOther c.args.nodes.now c.loop-place.place c.index-nodes-place.result c.loop-place-test.true c.index-nodes-place.is pairs))

pub loop-place-preserved : goal.loop-place-preserved
loop-place-preserved c = pairs_below_more ListEachOther c.args.nodes.now c.loop-place.place c.index-nodes-place.result c.loop-place-test.true c.index-nodes-place.is c.loop-place.invariant ((c.if-not-is_listed.ensures).0 (search rules))
