use Rattle.std.proofs.Common.{◌≡◌, ◌&&◌, ◌==◌, position, drop}
use Rattle.std.specs.List.{position_from}
use Rattle.std.specs.Str.{bytes_eq}
use Rattle.ini_config.specs.Node.{DatabaseSettings}
use Rattle.world.proofs.servers.first_in.Given as goal

abbrev pub invariant-loop-place : goal.invariant-loop-place
invariant-loop-place l =
    position (λ (d : DatabaseSettings). bytes_eq l.host d.host && (l.port == d.port)) l.settings.databases
    ≡ position_from (λ (d : DatabaseSettings). bytes_eq l.host d.host && (l.port == d.port)) l.place (drop l.place l.settings.databases)
