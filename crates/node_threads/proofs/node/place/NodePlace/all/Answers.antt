use Rattle.std.proofs.Common.{◌∙◌}
use Rattle.std.specs.Arc.{arc_value}
use Rattle.node_threads.proofs.PlaceLemmas.{next_place}
use Rattle.node_threads.proofs.node.place.NodePlace.all.Goals as goal

pub loop-place-preserved : goal.loop-place-preserved
loop-place-preserved c =
    c.in_ok-push.ensures.items
    ∙ next_place (arc_value c.args.shared.now) (arc_value c.in_ok-group.group) _ _
    c.loop-place.invariant c.in_ok-group.ensures
