use Rattle.std.proofs.Common.{◌≡◌, map, take, Some}
use Rattle.std.specs.List.{flat_map}
use Rattle.console.specs.Rows.{links_in, numbered_link}
use Rattle.console.proofs.links.numbered_links.Given as goal

-- the rows of the databases so far
abbrev pub invariant-loop-database : goal.invariant-loop-database
invariant-loop-database g l = l.rows.items
    ≡ map (numbered_link l.settings) (flat_map (λ pool. links_in (Some pool)) (take l.database l.view.links.pools))
