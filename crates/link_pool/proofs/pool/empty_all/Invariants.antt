use Rattle.std.proofs.Common.{◌≡◌, ◌++◌, map, take, drop}
use Rattle.link_pool.specs.Entries.{freed}
use Rattle.link_pool.proofs.pool.empty_all.Given as goal

-- the pools so far are emptied
abbrev pub invariant-loop-database : goal.invariant-loop-database
invariant-loop-database g l = l.pools.items ≡ map freed (take l.database l.initial.pools.items) ++ drop l.database l.initial.pools.items
