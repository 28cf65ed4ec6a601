use Rattle.std.proofs.Common.{◌&&◌, ◌==◌, arith}
use Rattle.std.specs.Str.{bytes_eq}
use Rattle.ini_config.specs.Node.{DatabaseSettings}
use Rattle.world.specs.World.{all_databases}
use Rattle.world.proofs.Firsts.{first_begins, server_here, server_later, server_nowhere}
use Rattle.world.proofs.servers.first_on.Goals as goal

pub loop-settings-init : goal.loop-settings-init
loop-settings-init c = (
  first_begins (λ (d : DatabaseSettings). bytes_eq c.args.host.now d.host && (c.args.port == d.port)) (all_databases c.args.nodes.now),
  omega arith,
)

pub returns-in-Some : goal.returns-in-Some
returns-in-Some c =
    server_here (λ (d : DatabaseSettings). bytes_eq c.args.host.now d.host && (c.args.port == d.port)) c.args.nodes.now c.loop-settings.settings-index c.loop-settings.before c.in-Some.place c.settings-item.result
    c.loop-settings-test.true c.settings-item.is c.loop-settings.invariant.0 c.in-Some.ensures

pub loop-settings-preserved : goal.loop-settings-preserved
loop-settings-preserved c = (
  server_later (λ (d : DatabaseSettings). bytes_eq c.args.host.now d.host && (c.args.port == d.port)) c.args.nodes.now c.loop-settings.settings-index c.loop-settings.before c.database_count.result c.settings-item.result
      c.loop-settings-test.true c.settings-item.is c.loop-settings.invariant.0 c.database_count.ensures.count c.in_default.ensures,
  omega arith,
)

pub returns : goal.returns
returns c =
    server_nowhere (λ (d : DatabaseSettings). bytes_eq c.args.host.now d.host && (c.args.port == d.port)) c.args.nodes.now c.loop-settings.settings-index c.loop-settings.before c.loop-settings-test.false c.loop-settings.invariant.0
