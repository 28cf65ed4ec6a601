use Rattle.std.proofs.Common.{◌<◌, map, subst, sym, refl}
use Rattle.slot_queues.specs.Queues.{others}
use Rattle.slot_queues.specs.Rings.{queues_in}
use Rattle.slot_queues.proofs.Rings.{removed, own, shown}
use Rattle.slot_queues.proofs.slot_queues.SlotQueues.take_out.Goals as goal

pub invariant_of-self : goal.invariant_of-self
invariant_of-self c =
    let q = c.self.inside in
    let below = subst (λ v. c.args.slot < v.slots) (sym c.self.view_is) c.requires in
    let tied = removed q.next.items q.prev.items c.exchange.new.next.items c.exchange.new.prev.items q.slots c.args.slot c.index-before.result.now c.get-node.result c.self.invariant below c.get-node.ensures c.index-before.ensures (record { next_is = c.exchange.ensures.next; prev_is = c.exchange.ensures.prev }) in
    own c.exchange.new.next.items c.exchange.new.prev.items q.slots (map (others c.args.slot) (queues_in q.next.items q.slots)) tied

pub returns : goal.returns
returns c =
    let q = c.self.inside in
    let below = subst (λ v. c.args.slot < v.slots) (sym c.self.view_is) c.requires in
    let tied = removed q.next.items q.prev.items c.exchange.new.next.items c.exchange.new.prev.items q.slots c.args.slot c.index-before.result.now c.get-node.result c.self.invariant below c.get-node.ensures c.index-before.ensures (record { next_is = c.exchange.ensures.next; prev_is = c.exchange.ensures.prev }) in
    rw (← c.self.view_is, shown c.exchange.new.next.items c.exchange.new.prev.items q.slots (map (others c.args.slot) (queues_in q.next.items q.slots)) tied) refl
