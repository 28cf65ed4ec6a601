use Rattle.std.proofs.Common.{rules, ◌≡◌, ℕ, ◌+◌, [], length, replicate, subst, ap, ◌∙◌, refl}
use Rattle.std.proofs.lemmas.List.{length-replicate}
use Rattle.slot_queues.specs.Rings.{IsApart}
use Rattle.slot_queues.proofs.Rings.{tied_apart, own, shown}
use Rattle.slot_queues.proofs.slot_queues.SlotQueues.new.Goals as goal

pub invariant_of-result : goal.invariant_of-result
invariant_of-result c =
    let a : c.in_ok-next.next.items ≡ replicate c.in_ok-nodes.nodes 0 = search rules in
    let b : c.in_ok-prev.prev.items ≡ replicate c.in_ok-nodes.nodes 0 = search rules in
    let all : c.in_ok-nodes.nodes ≡ c.args.slots + c.args.queues = search rules in
    let long : length (replicate c.in_ok-nodes.nodes 0) ≡ c.args.slots + c.args.queues = length-replicate {A = ℕ} c.in_ok-nodes.nodes 0 ∙ all in
    let tied = tied_apart c.part.new.nodes.items c.part-2.new.nodes.items c.args.slots c.args.queues (subst (λ (n : ℕ). IsApart n c.part.new.nodes.items) (ap length a ∙ long) c.part.ensures) (subst (λ (n : ℕ). IsApart n c.part-2.new.nodes.items) (ap length b ∙ long) c.part-2.ensures) in
    own c.part.new.nodes.items c.part-2.new.nodes.items c.args.slots (replicate c.args.queues []) tied

pub returns : goal.returns
returns c =
    let a : c.in_ok-next.next.items ≡ replicate c.in_ok-nodes.nodes 0 = search rules in
    let b : c.in_ok-prev.prev.items ≡ replicate c.in_ok-nodes.nodes 0 = search rules in
    let all : c.in_ok-nodes.nodes ≡ c.args.slots + c.args.queues = search rules in
    let long : length (replicate c.in_ok-nodes.nodes 0) ≡ c.args.slots + c.args.queues = length-replicate {A = ℕ} c.in_ok-nodes.nodes 0 ∙ all in
    let tied = tied_apart c.part.new.nodes.items c.part-2.new.nodes.items c.args.slots c.args.queues (subst (λ (n : ℕ). IsApart n c.part.new.nodes.items) (ap length a ∙ long) c.part.ensures) (subst (λ (n : ℕ). IsApart n c.part-2.new.nodes.items) (ap length b ∙ long) c.part-2.ensures) in
    rw (shown c.part.new.nodes.items c.part-2.new.nodes.items c.args.slots (replicate c.args.queues []) tied) refl
