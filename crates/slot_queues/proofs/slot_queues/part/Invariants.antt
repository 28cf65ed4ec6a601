use Rattle.std.proofs.Common.{◌≡◌, ℕ, ◌<◌, length, slice_index}
use Rattle.slot_queues.proofs.slot_queues.part.Given as goal

-- the nodes so far lead to themselves
abbrev pub invariant-loop-node : goal.invariant-loop-node
invariant-loop-node l = record {
  all : length l.nodes.items ≡ length l.initial.nodes.items;
  alone : (k : ℕ) → k < l.node → slice_index l.nodes.items k ≡ k;
}
