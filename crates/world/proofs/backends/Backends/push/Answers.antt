use Rattle.std.proofs.Common.{ap}
use Rattle.world.specs.World.{Backend}
use Rattle.world.specs.Table.{Rows}
use Rattle.world.proofs.ProcessRows.{process_there}
use Rattle.world.proofs.backends.Backends.push.Goals as goal

pub push-requires-clause-new : goal.push-requires-clause-new
push-requires-clause-new c = λ place other there same.
    let b = process_there c.self.inside.table.rows c.args.self.now.rows c.args.server c.args.key place other
    (ap (λ (b : Rows Backend). b.rows) c.self.view_is) there same in
    c.requires.new place b.0 b.1
