use Rattle.std.proofs.Common.{◌≡◌, ◌<◌, map, subst, sym, eqb-true}
use Rattle.slot_queues.specs.Queues.{others}
use Rattle.slot_queues.proofs.Rings.{left_alone}
use Rattle.slot_queues.proofs.slot_queues.SlotQueues.is_alone.Goals as goal

pub returns : goal.returns
returns c = λ is.
    let q = c.self.inside in
    let below = subst (λ v. c.args.slot < v.slots) (sym c.self.view_is) c.requires in
    subst (λ v. map (others c.args.slot) v.queues ≡ v.queues) c.self.view_is
    (left_alone q.next.items q.prev.items q.slots c.args.slot c.index.result.now c.get-node.result c.self.invariant below c.get-node.ensures c.index.ensures (eqb-true c.index.result.now c.get-node.result is))
