use Rattle.std.proofs.Common.{◌≡◌, ℕ, ◌≤◌, ◌<◌, Some, None, subst, sym, arith, length, slice_get}
use Rattle.slot_queues.specs.Queues.{times_in, queue_of}
use Rattle.slot_queues.proofs.Rings.{is_first, no_first}
use Rattle.slot_queues.proofs.slot_queues.SlotQueues.first.Goals as goal

pub overflow_cast-result : goal.overflow_cast-result
overflow_cast-result c =
    let q = c.self.inside in
    let there = subst (λ v. c.args.queue < length v.queues) (sym c.self.view_is) c.requires in
    let named = (is_first q.next.items q.prev.items q.slots c.args.queue c.index-node.result.now c.self.invariant there c.index-node.ensures c.if-node-self.true).1 in
    omega (arith, named)

pub returns-then-node-self-clause-first : goal.returns-then-node-self-clause-first
returns-then-node-self-clause-first c =
    let q = c.self.inside in
    let there = subst (λ v. c.args.queue < length v.queues) (sym c.self.view_is) c.requires in
    let found = is_first q.next.items q.prev.items q.slots c.args.queue c.index-node.result.now c.self.invariant there c.index-node.ensures c.if-node-self.true in
    subst (λ v. Some c.index-node.result.now ≡ slice_get (queue_of v.queues c.args.queue) 0) c.self.view_is (sym found.0)

pub returns-then-node-self-clause-once : goal.returns-then-node-self-clause-once
returns-then-node-self-clause-once c =
    subst (λ v. (slot : ℕ) → times_in slot v.queues ≤ 1) c.self.view_is c.self.invariant.once

pub returns-else-node-self-clause-first : goal.returns-else-node-self-clause-first
returns-else-node-self-clause-first c =
    let q = c.self.inside in
    let there = subst (λ v. c.args.queue < length v.queues) (sym c.self.view_is) c.requires in
    let none = no_first q.next.items q.prev.items q.slots c.args.queue c.index-node.result.now c.self.invariant there c.index-node.ensures c.if-node-self.false in
    subst (λ v. None ≡ slice_get (queue_of v.queues c.args.queue) 0) c.self.view_is (sym none)

pub returns-else-node-self-clause-once : goal.returns-else-node-self-clause-once
returns-else-node-self-clause-once c =
    subst (λ v. (slot : ℕ) → times_in slot v.queues ≤ 1) c.self.view_is c.self.invariant.once
