use Rattle.std.proofs.Common.{[], length, replicate, refl}
use Rattle.slot_queues.specs.Rings.{queues_in}
use Rattle.slot_queues.proofs.Rings.{parted, own, shown}
use Rattle.slot_queues.proofs.slot_queues.SlotQueues.clear.Goals as goal

pub invariant_of-self : goal.invariant_of-self
invariant_of-self c =
    let q = c.self.inside in
    let tied = parted q.next.items q.prev.items c.part.new.nodes.items c.part-2.new.nodes.items q.slots (queues_in q.next.items q.slots) c.self.invariant c.part.ensures c.part-2.ensures in
    own c.part.new.nodes.items c.part-2.new.nodes.items q.slots (replicate (length (queues_in q.next.items q.slots)) []) tied

pub returns : goal.returns
returns c =
    let q = c.self.inside in
    let tied = parted q.next.items q.prev.items c.part.new.nodes.items c.part-2.new.nodes.items q.slots (queues_in q.next.items q.slots) c.self.invariant c.part.ensures c.part-2.ensures in
    rw (← c.self.view_is, shown c.part.new.nodes.items c.part-2.new.nodes.items q.slots (replicate (length (queues_in q.next.items q.slots)) []) tied) refl
