use Rattle.std.proofs.Common.{ap, sym, ◌∙◌}
use Rattle.std.specs.Prelude.{position}
use Rattle.std.specs.Str.{bytes_eq}
use Rattle.ini_config.specs.Node.{NodeSettings}
use Rattle.ini_config.proofs.Databases.{place_by_name}
use Rattle.ini_config.proofs.node_settings.Settings.find_database.Goals as goal

pub returns-in_err-place : goal.returns-in_err-place
returns-in_err-place c = c.from_residual.ensures ∙ sym c.in_err-place.was ∙ c.get_index_of.ensures.index ∙ place_by_name c.args.name.now c.self.inside.default_pool_size c.self.inside.databases.entries ∙ ap (λ (s : NodeSettings). position (λ d. bytes_eq c.args.name.now d.name) s.databases) c.self.view_is

pub returns : goal.returns
returns c = sym c.in_ok-place.was ∙ c.get_index_of.ensures.index ∙ place_by_name c.args.name.now c.self.inside.default_pool_size c.self.inside.databases.entries ∙ ap (λ (s : NodeSettings). position (λ d. bytes_eq c.args.name.now d.name) s.databases) c.self.view_is
