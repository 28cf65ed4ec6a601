use Rattle.locked_node.specs.Adding.{AddedTo}
use Rattle.locked_node.proofs.tally.add_first.Given as goal

abbrev pub invariant-loop-i : goal.invariant-loop-i
invariant-loop-i l = AddedTo l.from l.i l.fn.cells l.numbers l.cells
