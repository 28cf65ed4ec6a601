-- Ends of cancel requests that were reported (own).
use Rattle.std.specs.Prelude.{ℕ, ◌≡◌, List, Some, slice_get}
use Rattle.world.specs.World.{Connection, Forward, Report}

-- the cancel connection of an arrival was reported clean
pub record IsCarried (connections : List Connection) (arrival : ℕ) : Type 0 where
  pub place : ℕ
  pub connection : Connection
  pub there : slice_get connections place ≡ Some connection
  pub for : connection.arrival ≡ arrival
  pub clean : connection.report ≡ Some Report.Clean

-- the forward connection of an arrival was reported clean
pub record IsPassedOn (forwards : List Forward) (arrival : ℕ) : Type 0 where
  pub place : ℕ
  pub forward : Forward
  pub there : slice_get forwards place ≡ Some forward
  pub for : forward.origin ≡ arrival
  pub clean : forward.report ≡ Some Report.Clean
