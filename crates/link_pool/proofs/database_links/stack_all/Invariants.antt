use Rattle.std.proofs.Common.{◌≡◌, ◌+◌, ◌≤◌, ◌++◌, length, vec_capacity}
use Rattle.link_pool.specs.Stacks.{all_places}
use Rattle.link_pool.proofs.database_links.stack_all.Given as goal

-- the places from the last down to this one are on the stack
abbrev pub invariant-loop-index : goal.invariant-loop-index
invariant-loop-index l = record {
  room : l.size ≤ vec_capacity l.stack;
  same : vec_capacity l.stack ≡ vec_capacity l.initial.stack;
  left : length l.stack.items + l.index ≡ l.size;
  made : l.stack.items ++ all_places l.index ≡ all_places l.size;
}
