use Rattle.std.proofs.Common.{◌≡◌, ◌++◌, map, bit_xor, take, drop}
use Rattle.scram.proofs.mac.padded.Given as goal

abbrev pub invariant-loop-b : goal.invariant-loop-b
invariant-loop-b l = l.b-items ≡ map (λ b. bit_xor b l.byte) (take l.b-index l.block) ++ drop l.b-index l.block
