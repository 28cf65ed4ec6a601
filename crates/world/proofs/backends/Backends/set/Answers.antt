use Rattle.std.proofs.Common.{ap}
use Rattle.world.specs.World.{Backend}
use Rattle.world.specs.Table.{Rows}
use Rattle.world.proofs.ProcessRows.{process_same, process_written}
use Rattle.world.proofs.backends.Backends.set.Goals as goal

pub set-requires : goal.set-requires
set-requires c = record {
  same = process_same c.self.inside.table.rows c.args.self.now.rows c.place.inside.0 c.args.place c.requires.same.0 c.args.process
      (ap (λ (b : Rows Backend). b.rows) c.self.view_is) c.place.view_is c.requires.same.1 c.requires.same.2 c.requires.same.3;
}

pub returns-clause-rows : goal.returns-clause-rows
returns-clause-rows c =
    process_written c.self.inside.table.rows c.set.new.self.rows c.args.self.now.rows c.place.inside.0 c.args.place c.args.process
    (ap (λ (b : Rows Backend). b.rows) c.self.view_is) c.place.view_is c.set.ensures.rows
