use Rattle.std.proofs.Common.{◌≢◌, ℕ, sym, ◌∙◌, arith, eqb}
use mathlib.Core.Option.{none}
use prog.Atomic.{either}
use Rattle.atomic_table.specs.Table.{step}
use Rattle.atomic_table.proofs.Lists.{exchanged}
use Rattle.locked_node.proofs.Locking.{lock_takes}
use Rattle.locked_node.proofs.shared.Shared.try_take.Goals as goal

pub compare_exchange-requires : goal.compare_exchange-requires
compare_exchange-requires g c = (
  c.requires.own ∙ sym c.self.view_is,
  c.self.invariant.0,
  lock_takes _ _ _ c.args.seat.now.me (λ (n : ℕ). either (eqb n 0) 1 n) (step c.self.inside.table.shared.table_id.slots 0 0 1 none) (λ n. exchanged n 0 1 (λ (x : ℕ). x ≢ 0) (λ _ e. omega arith) (λ ne. ne))
      c.requires.some,
)
