use Rattle.std.proofs.Common.{◌≡◌, take}
use Rattle.ini_config.proofs.Pairs.{front_from_pairs}
use Rattle.ini_config.proofs.Peers.{absent_peer, one_more_peer}
use Rattle.ini_config.proofs.plain.plain_peers.Goals as goal

-- the number differs from those before it
pub add_entry-requires : goal.add_entry-requires
add_entry-requires c = absent_peer c.number-item.result c.loop-number.entries.entries (take c.loop-number.number-index c.args.peers.now) c.loop-number.invariant (front_from_pairs (λ a b. a ≡ b → ⊥) c.args.peers.now c.loop-number.number-index c.number-item.result c.loop-number-test.true c.number-item.is c.requires)

-- and its peer comes behind those before it
pub loop-number-preserved : goal.loop-number-preserved
loop-number-preserved c = rw c.in_ok-add_entry.ensures.ok (one_more_peer c.loop-number.entries.entries c.args.peers.now c.loop-number.number-index c.number-item.result c.in_ok-entry.entry c.loop-number-test.true c.number-item.is c.loop-number.invariant (c.in_ok-entry.ensures c.number-item.result))
