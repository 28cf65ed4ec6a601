use Rattle.std.proofs.Common.{◌∙◌}
use Rattle.world_script.specs.Peers.{with_peer}
use Rattle.world_script.proofs.PeerLemmas.{peers-more}
use Rattle.world_script.proofs.peers.peers_of.Goals as goal

pub loop-node-preserved : goal.loop-node-preserved
loop-node-preserved c =
    c.in_ok-add_peer.ensures ∙ (λ i. with_peer c.args.own (c.loop-node.invariant i) (c.number.ensures i))
    ∙ peers-more c.args.own c.args.nodes.now c.loop-node.node-index c.node-item.result c.loop-node-test.true c.node-item.is
