use Rattle.locked_node.proofs.Tallies.{empty_cells}
use Rattle.locked_node.proofs.tally.Tally.new.Goals as goal

pub returns : goal.returns
returns c = empty_cells 479
