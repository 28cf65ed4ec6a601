use Rattle.std.proofs.Common.{ap, map, ◌∙◌}
use Rattle.std.proofs.lemmas.Result.{IfOk-weaker}
use Rattle.ini_config.specs.Node.{NodeSettings}
use Rattle.ini_config.proofs.Databases.{pools-values}
use Rattle.ini_config.proofs.node_settings.Settings.pool_sizes.Goals as goal

pub returns : goal.returns
returns c = IfOk-weaker c.pools_of.result _ _ (λ v e. e ∙ pools-values c.self.inside.default_pool_size c.self.inside.databases.entries ∙ ap (λ (s : NodeSettings). map (λ d. d.pool_size) s.databases) c.self.view_is) c.pools_of.ensures
