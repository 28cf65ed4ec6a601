use Rattle.std.proofs.Common.{◌&&◌, ◌==◌, ◌<◌, ◌≤◌, length, arith}
use Rattle.std.specs.Str.{bytes_eq}
use Rattle.ini_config.specs.Node.{DatabaseSettings}
use Rattle.world.proofs.Firsts.{first_begins, first_here, first_later, first_nowhere}
use Rattle.world.proofs.servers.first_in.Goals as goal

pub loop-place-init : goal.loop-place-init
loop-place-init c = first_begins (λ (d : DatabaseSettings). bytes_eq c.args.host.now d.host && (c.args.port == d.port)) c.args.settings.now.databases

pub returns-then-is_on : goal.returns-then-is_on
returns-then-is_on c =
    let below : c.loop-place.place < length c.args.settings.now.databases = omega arith in
    first_here (λ (d : DatabaseSettings). bytes_eq c.args.host.now d.host && (c.args.port == d.port)) c.args.settings.now.databases c.loop-place.place c.is_on.result below c.is_on.ensures c.if-is_on.true c.loop-place.invariant

pub loop-place-preserved : goal.loop-place-preserved
loop-place-preserved c =
    let below : c.loop-place.place < length c.args.settings.now.databases = omega arith in
    first_later (λ (d : DatabaseSettings). bytes_eq c.args.host.now d.host && (c.args.port == d.port)) c.args.settings.now.databases c.loop-place.place c.is_on.result below c.is_on.ensures c.if-is_on.false c.loop-place.invariant

pub returns : goal.returns
returns c =
    let past : length c.args.settings.now.databases ≤ c.loop-place.place = omega arith in
    first_nowhere (λ (d : DatabaseSettings). bytes_eq c.args.host.now d.host && (c.args.port == d.port)) c.args.settings.now.databases c.loop-place.place past c.loop-place.invariant
