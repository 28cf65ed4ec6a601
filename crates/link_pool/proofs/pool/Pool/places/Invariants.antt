use Rattle.std.proofs.Common.{◌≡◌, map, take}
use Rattle.link_pool.specs.Entries.{place_of}
use Rattle.link_pool.proofs.pool.Pool.places.Given as goal

-- the places so far are those of the pools so far
abbrev pub invariant-loop-database : goal.invariant-loop-database
invariant-loop-database g l = record {
  made : map (λ places. places.items) l.all.items
      ≡ map (λ pool. map place_of pool.entries) (take l.database l.self-inside.pools.items);
}
