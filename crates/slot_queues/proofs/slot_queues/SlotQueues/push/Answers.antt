use Rattle.std.proofs.Common.{◌≡◌, ◌<◌, length, set, subst, sym, arith, refl}
use Rattle.slot_queues.specs.Queues.{behind, queue_of, times_in}
use Rattle.slot_queues.specs.Rings.{queues_in}
use Rattle.slot_queues.proofs.Rings.{pushed, own, shown}
use Rattle.slot_queues.proofs.slot_queues.SlotQueues.push.Goals as goal

pub invariant_of-self : goal.invariant_of-self
invariant_of-self c =
    let q = c.self.inside in
    let there = subst (λ v. c.args.queue < length v.queues) (sym c.self.view_is) c.requires.queue in
    let below = subst (λ v. c.args.slot < v.slots) (sym c.self.view_is) c.requires.slot in
    let none = subst (λ v. times_in c.args.slot v.queues ≡ 0) (sym c.self.view_is) c.requires.waits_nowhere in
    let named = c.get.type_inv in
    let is = c.get.ensures in
    let tied = pushed q.next.items q.prev.items c.exchange.new.next.items c.exchange.new.prev.items q.slots c.args.queue c.args.slot c.index-last.result.now c.get.result c.self.invariant there below (omega (arith, named, is)) none c.index-last.ensures is (record { next_is = c.exchange.ensures.next; prev_is = c.exchange.ensures.prev }) in
    own c.exchange.new.next.items c.exchange.new.prev.items q.slots (set (queues_in q.next.items q.slots) c.args.queue (behind c.args.slot (queue_of (queues_in q.next.items q.slots) c.args.queue))) tied

pub returns : goal.returns
returns c =
    let q = c.self.inside in
    let there = subst (λ v. c.args.queue < length v.queues) (sym c.self.view_is) c.requires.queue in
    let below = subst (λ v. c.args.slot < v.slots) (sym c.self.view_is) c.requires.slot in
    let none = subst (λ v. times_in c.args.slot v.queues ≡ 0) (sym c.self.view_is) c.requires.waits_nowhere in
    let named = c.get.type_inv in
    let is = c.get.ensures in
    let tied = pushed q.next.items q.prev.items c.exchange.new.next.items c.exchange.new.prev.items q.slots c.args.queue c.args.slot c.index-last.result.now c.get.result c.self.invariant there below (omega (arith, named, is)) none c.index-last.ensures is (record { next_is = c.exchange.ensures.next; prev_is = c.exchange.ensures.prev }) in
    rw (← c.self.view_is, shown c.exchange.new.next.items c.exchange.new.prev.items q.slots (set (queues_in q.next.items q.slots) c.args.queue (behind c.args.slot (queue_of (queues_in q.next.items q.slots) c.args.queue))) tied) refl
