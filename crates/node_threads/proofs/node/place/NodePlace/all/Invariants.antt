use Rattle.std.proofs.Common.{◌≡◌, map}
use Rattle.std.specs.Arc.{arc_value}
use Rattle.std.specs.List.{range_with_len}
use Rattle.node_threads.specs.NodePlaces.{place_in}
use Rattle.node_threads.proofs.node.place.NodePlace.all.Given as goal

-- each place so far
abbrev pub invariant-loop-place : goal.invariant-loop-place
invariant-loop-place l =
    l.places.items ≡ map (place_in (arc_value l.fn.shared)) (range_with_len 0 l.place)
