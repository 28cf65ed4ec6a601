use Rattle.locked_node.proofs.Cells.{start_few}
use Rattle.locked_node.proofs.tally.start_of.Goals as goal

pub returns-clause-within : goal.returns-clause-within
returns-clause-within c = start_few c.args.kind c.requires
