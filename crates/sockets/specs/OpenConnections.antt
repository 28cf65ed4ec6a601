-- How many connections a process has (own): `all` that are open, from their admission to their end;
-- of these the pending ones, which may be evicted: their first packets weren't read, or they were
-- told their last error; and those of sessions. `IsWithin` is the limit.
use Rattle.std.specs.Prelude.{ℕ, ◌≡◌, ◌≤◌, ◌<◌, ◌+◌, ◌-◌, ◌⊎◌, Option, Some, None}
use Rattle.sockets.specs.declared.connections.Capacity.{Capacity}

pub record OpenConnections : Type 0 where
  pub capacity : Capacity
  pub all : ℕ
  pub pending : ℕ
  pub sessions : ℕ

-- how many connections sessions may have: all but those that are kept for what isn't one
abbrev pub session_room : Capacity → ℕ
session_room capacity = capacity.connections - capacity.kept

-- another is admitted only if one is evicted
abbrev pub IsFull : OpenConnections → Type 0
IsFull now = (now.capacity.connections ≤ now.all) ⊎ (now.capacity.pending ≤ now.pending)

-- another may be admitted
pub record HasRoom (now : OpenConnections) : Type 0 where
  pub all : now.all < now.capacity.connections
  pub pending : now.pending < now.capacity.pending

-- There are no more than the capacity, and eight that were evicted and aren't closed yet. Sessions
-- have none of those that are kept.
pub record IsWithin (now : OpenConnections) : Type 0 where
  pub all : now.all ≤ now.capacity.connections + 8
  pub pending : now.pending ≤ now.capacity.pending
  pub sessions : now.sessions ≤ session_room now.capacity

-- how many there are of this: one or none
abbrev pub how_many : {T : Type 0} → Option T → ℕ
how_many None = 0
how_many (Some one) = 1
