-- Whose turn it is to get a link (own; PgBouncer manual, transaction pooling): the slot that waits
-- first for a database, if a link there is idle or a place is free.
use Rattle.std.specs.Prelude.{ℕ, ◌≡◌, true, Option, Some, None, ◌⊎◌, slice_get}
use Rattle.lease.specs.declared.link_place.LinkPlace.{LinkPlace}
use Rattle.link_pool.specs.Pool.{PoolView, place_at, queue_at}
use Rattle.link_pool.specs.PoolStep.{is_idle, NoIdle, NoneFree, IsNextFree}

-- a link of the database is idle, or one of its places is free
pub record HasRoom (database : ℕ) (v : PoolView) : Type 0 where
  pub at : LinkPlace
  pub of : at.database ≡ database
  pub room : (is_idle (place_at v at) ≡ true) ⊎ IsNextFree v at

-- the first that waits for the database, where there is room; and otherwise nobody
abbrev pub IsTurn : ℕ → Option ℕ → PoolView → Type 0
IsTurn database (Some slot) v =
    (slice_get (queue_at v database) 0 ≡ Some slot) × HasRoom database v
IsTurn database None v =
    (slice_get (queue_at v database) 0 ≡ None) ⊎ (NoIdle database v × NoneFree database v)
