use Rattle.std.proofs.Common.{◌≡◌, map, take}
use Rattle.link_pool.specs.Entries.{place_of}
use Rattle.link_pool.proofs.database_links.DatabaseLinks.places.Given as goal

-- the places so far are those of the entries so far
abbrev pub invariant-loop-index : goal.invariant-loop-index
invariant-loop-index g l = record {
  made : l.places.items ≡ map place_of (take l.index l.self-inside.entries.items);
}
