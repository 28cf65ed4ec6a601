use Rattle.std.proofs.Common.{◌≡◌, ◌≤◌, ◌*◌, ◌&&◌, ◌==◌, position, drop}
use Rattle.std.specs.List.{position_from}
use Rattle.std.specs.Str.{bytes_eq}
use Rattle.ini_config.specs.Node.{DatabaseSettings}
use Rattle.world.specs.World.{all_databases}
use Rattle.world.proofs.servers.first_on.Given as goal

abbrev pub invariant-loop-settings : goal.invariant-loop-settings
invariant-loop-settings l =
    (position (λ (d : DatabaseSettings). bytes_eq l.host d.host && (l.port == d.port)) (all_databases l.nodes)
    ≡ position_from (λ (d : DatabaseSettings). bytes_eq l.host d.host && (l.port == d.port)) l.before (all_databases (drop l.settings-index l.nodes)))
    × (l.before ≤ 64 * l.settings-index)
