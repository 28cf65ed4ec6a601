use Rattle.std.proofs.Common.{◌<◌, ℕ, sym, subst}
use Rattle.locked_node.proofs.Cells.{start_few}
use Rattle.locked_node.proofs.counted_kind.CountedKind.start.Goals as goal

pub returns-clause-within : goal.returns-clause-within
returns-clause-within c = subst (λ (n : ℕ). n < 467) (sym c.self.invariant.1) (start_few _ c.self.invariant.0)
