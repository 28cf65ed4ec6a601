-- How many cancel requests (tickets) of a link are under way, and whether one failed (own).
use Rattle.std.specs.Prelude.{ℕ, Bool}

-- how many tickets of the link are open, and whether one ever failed
pub record OpenTickets : Type 0 where
  pub tickets : ℕ
  pub condemned : Bool
