use Rattle.std.proofs.Common.{◌≡◌, ◌++◌, take, drop}
use Rattle.scram.specs.Hmac.{xor_bytes}
use Rattle.scram.proofs.bytes.xor.Given as goal

abbrev pub invariant-loop-i : goal.invariant-loop-i
invariant-loop-i l = l.out ≡ xor_bytes (take l.i l.a) (take l.i l.b) ++ drop l.i l.a
