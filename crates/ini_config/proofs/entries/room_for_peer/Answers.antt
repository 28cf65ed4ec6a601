use Rattle.std.proofs.Common.{eqb, refl}
use Rattle.ini_config.specs.Node.{PeerSettings}
use Rattle.ini_config.specs.View.{peer_settings}
use Rattle.ini_config.proofs.Found.{room-seen}
use Rattle.ini_config.proofs.entries.room_for_peer.Goals as goal

pub returns-clause-said : goal.returns-clause-said
returns-clause-said c =
    room-seen (eqb c.args.number) (λ (p : PeerSettings). eqb c.args.number p.number) (λ e. peer_settings e.0 e.1) (λ e. refl)
    c.args.peers.now.entries c.contains_key.result c.len.result c.one_more.result c.contains_key.ensures c.len.ensures.len c.one_more.ensures.said
