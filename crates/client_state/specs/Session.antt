-- The state of a session (own): the limit of a request, its database, whether it holds a lease, how many requests are
-- outstanding, and what was gathered of an extended query.
use Rattle.std.specs.Prelude.{ℕ, Bool, List}

-- the limit of a request, the database that it logged in to, whether it holds a lease, how many requests wait for their
-- ReadyForQuery, and the texts of an extended query's messages that were read since the last
-- request
pub record Session : Type 0 where
  pub limit : ℕ
  pub database : ℕ
  pub leased : Bool
  pub outstanding : ℕ
  pub gathered : List ℕ
