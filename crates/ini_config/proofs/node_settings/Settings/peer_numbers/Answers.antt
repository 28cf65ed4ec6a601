use Rattle.std.proofs.Common.{ap, map, ◌∙◌}
use Rattle.std.proofs.lemmas.Result.{IfOk-weaker}
use Rattle.ini_config.specs.Node.{NodeSettings}
use Rattle.ini_config.proofs.Peers.{numbers-keys}
use Rattle.ini_config.proofs.node_settings.Settings.peer_numbers.Goals as goal

pub returns : goal.returns
returns c = IfOk-weaker c.keys_of.result _ _ (λ v e. e ∙ numbers-keys c.self.inside.peers.entries ∙ ap (λ (s : NodeSettings). map (λ p. p.number) s.peers) c.self.view_is) c.keys_of.ensures
