use Rattle.std.proofs.Common.{◌≡◌, ◌≤◌, length, map, take, vec_capacity, vec_len}
use Rattle.link_pool.specs.Entries.{new_links}
use Rattle.link_pool.proofs.pool.Pool.new.Given as goal

-- the pools so far are those of the sizes so far
abbrev pub invariant-loop-size : goal.invariant-loop-size
invariant-loop-size g l =
    record {
      room : length l.pool_sizes ≤ vec_capacity l.pools;
      count : vec_len l.pools ≡ l.size-index;
      made : l.pools.items ≡ map new_links (take l.size-index l.pool_sizes);
    }
