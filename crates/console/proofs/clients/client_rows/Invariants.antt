use Rattle.std.proofs.Common.{◌≡◌, map, slice_get}
use Rattle.std.specs.List.{flat_map}
use Rattle.node_core.specs.View.{client_at}
use Rattle.console.specs.Rows.{below, slot_row, data_row}
use Rattle.console.proofs.clients.client_rows.Given as goal

-- the rows of the slots so far
abbrev pub invariant-loop-slot : goal.invariant-loop-slot
invariant-loop-slot l = l.frames.items ≡ map data_row (flat_map
    (λ slot. slot_row l.settings slot (client_at (slice_get l.clients slot)) (slice_get l.claims slot))
    (below l.slot))
