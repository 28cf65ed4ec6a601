use Rattle.std.proofs.Common.{◌≡◌, ◌+◌, ◌≤◌, ◌++◌, length, take, vec_capacity}
use Rattle.std.specs.List.{flat_map, sum_by}
use Rattle.startup.proofs.append.append.Given as goal

-- the parts so far stand behind what the buffer had, which has room for all of them
abbrev pub invariant-loop-part : goal.invariant-loop-part
invariant-loop-part l = record {
  items : l.out.items ≡ l.fn.out.items ++ flat_map (λ part. part.now) (take l.part-index l.parts);
  room : length l.fn.out.items + sum_by (λ part. length part.now) l.parts ≤ vec_capacity l.out;
}
