use Rattle.std.proofs.Common.{ap, ◌∙◌}
use Rattle.ini_config.specs.Group.{lists}
use Rattle.ini_config.proofs.Peers.{lists-keys}
use Rattle.ini_config.proofs.node_settings.Settings.lists_peer.Goals as goal

pub returns : goal.returns
returns c = c.contains_key.ensures ∙ lists-keys c.args.number c.self.inside.peers.entries ∙ ap (λ s. lists s c.args.number) c.self.view_is
