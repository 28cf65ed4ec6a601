use Rattle.std.proofs.Common.{◌≡◌, map, take}
use Rattle.ini_config.specs.View.{peer_settings}
use Rattle.ini_config.specs.Plain.{plain_peer}
use Rattle.ini_config.proofs.plain.plain_peers.Given as goal

abbrev pub invariant-loop-number : goal.invariant-loop-number
invariant-loop-number l = map (λ e. peer_settings e.0 e.1) l.entries.entries ≡ map plain_peer (take l.number-index l.peers)
