use Rattle.std.proofs.Common.{◌≡◌, ◌≤◌, replicate, vec_capacity}
use Rattle.link_pool.specs.declared.entry.Entry.TheVariants as entry
use Rattle.link_pool.proofs.database_links.free_places.Given as goal

-- the places so far are free
abbrev pub invariant-loop-index : goal.invariant-loop-index
invariant-loop-index g l = record {
  room : l.size ≤ vec_capacity l.entries;
  made : l.entries.items ≡ replicate l._index entry.Free;
}
