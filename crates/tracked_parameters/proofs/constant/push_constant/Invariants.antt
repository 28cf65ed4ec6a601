use Rattle.std.proofs.Common.{◌≡◌, ◌++◌, take}
use Rattle.std.specs.List.{flat_map}
use Rattle.tracked_parameters.specs.Stored.{piece}
use Rattle.tracked_parameters.proofs.constant.push_constant.Given as goal

-- what stands for the bytes so far is behind what the text had
abbrev pub invariant-loop-byte : goal.invariant-loop-byte
invariant-loop-byte l = l.out.items ≡ l.fn.out.items ++ flat_map piece (take l.byte-index l.value)
