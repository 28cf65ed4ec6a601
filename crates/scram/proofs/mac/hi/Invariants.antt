use Rattle.std.proofs.Common.{◌≡◌, ◌-◌, ◌≤◌}
use Rattle.scram.specs.Hmac.{u_of, xor_of_first}
use Rattle.scram.specs.Keyed.{IsKeyedBy}
use Rattle.scram.proofs.mac.hi.Given as goal

abbrev pub invariant-loop : goal.invariant-loop
invariant-loop l =
    IsKeyedBy l.key l.str × (1 ≤ l.counter) × (l.block ≡ u_of l.str l.salt (l.counter - 1))
    × (l.all ≡ xor_of_first l.str l.salt (l.counter - 1))
