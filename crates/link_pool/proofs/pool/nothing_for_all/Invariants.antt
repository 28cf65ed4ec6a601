use Rattle.std.proofs.Common.{◌≡◌, ◌++◌, drop, replicate}
use Rattle.link_pool.specs.declared.place.Claim.TheVariants as claim
use Rattle.link_pool.proofs.pool.nothing_for_all.Given as goal

-- the slots so far have nothing
abbrev pub invariant-loop-slot : goal.invariant-loop-slot
invariant-loop-slot l = l.claims.items ≡ replicate l.slot claim.Nothing ++ drop l.slot l.initial.claims.items
