-- The greatest boot of each node (own).
use Rattle.std.specs.Prelude.{ℕ, ◌≡◌, List, Some, slice_get}
use Rattle.world.specs.declared.starts.Greatest.{Greatest}
use Rattle.world.specs.World.{Start, HadBoot, IsGreatestBoot}

-- for each node that was started its greatest boot
pub record AreGreatest (starts : List Start) (greatest : List Greatest) : Type 0 where
  pub each : (i : ℕ) (one : Greatest) → slice_get greatest i ≡ Some one
      → IsGreatestBoot starts one.node one.boot
  pub all : (node boot : ℕ) → HadBoot starts node boot
      → (i : ℕ) × (one : Greatest) × (slice_get greatest i ≡ Some one) × (one.node ≡ node)
