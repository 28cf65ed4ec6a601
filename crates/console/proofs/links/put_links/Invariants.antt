use Rattle.std.proofs.Common.{◌≡◌, ◌++◌, map, take, slice_get}
use Rattle.std.specs.List.{flat_map}
use Rattle.console.specs.Rows.{link_at, numbered_link}
use Rattle.console.proofs.Places.{places_of}
use Rattle.console.proofs.links.put_links.Given as goal

-- the rows of the places so far
abbrev pub invariant-loop-index : goal.invariant-loop-index
invariant-loop-index g l = l.rows.items ≡ l.fn.rows.items
    ++ map (numbered_link l.settings) (flat_map link_at (take l.index (places_of (slice_get l.view.links.pools l.database))))
