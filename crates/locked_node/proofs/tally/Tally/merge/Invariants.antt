use Rattle.locked_node.specs.Adding.{AddedTo}
use Rattle.locked_node.proofs.tally.Tally.merge.Given as goal

abbrev pub invariant-loop-i : goal.invariant-loop-i
invariant-loop-i l = AddedTo 0 l.i l.fn.self.cells l.other.cells l.self.cells
