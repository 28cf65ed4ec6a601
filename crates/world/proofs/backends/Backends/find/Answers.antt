use Rattle.std.proofs.Common.{ap}
use Rattle.world.specs.World.{Backend}
use Rattle.world.specs.Table.{Rows}
use Rattle.world.proofs.ProcessRows.{process_there, process_only}
use Rattle.world.proofs.backends.Backends.find.Goals as goal

pub returns-in-Some-clause-found : goal.returns-in-Some-clause-found
returns-in-Some-clause-found c =
    process_there c.self.inside.table.rows c.args.self.now.rows c.args.server c.args.key c.in-Some.found.place c.in-Some.found.row
    (ap (λ (b : Rows Backend). b.rows) c.self.view_is) c.in-Some.ensures.found c.in-Some.ensures.key

pub returns-in-Some-clause-only : goal.returns-in-Some-clause-only
returns-in-Some-clause-only c =
    process_only c.self.inside.table.rows c.args.self.now.rows c.args.server c.args.key _
    (ap (λ (b : Rows Backend). b.rows) c.self.view_is) c.in-Some.ensures.only

pub returns-in-None-clause-only : goal.returns-in-None-clause-only
returns-in-None-clause-only c =
    process_only c.self.inside.table.rows c.args.self.now.rows c.args.server c.args.key _
    (ap (λ (b : Rows Backend). b.rows) c.self.view_is) c.in-None.ensures.only
