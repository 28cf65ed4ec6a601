-- Nothing happens at a node that isn't there: the numbers of nodes are below 2^14.
use Rattle.std.proofs.Common.{◌≡◌, ℕ, ◌<◌, ◌≤◌, ◌^◌, refl, subst, arith}
use Rattle.pg_ids.specs.declared.any_key.Kind.{Kind}
use Rattle.std.specs.Prelude.{Option}
use Rattle.world.specs.declared.event.Event.{Event}
use Rattle.world.specs.declared.reply.Took.{Took}
use Rattle.world.specs.World.{World}
use Rattle.world.specs.Admissible.{HasNode}
use Rattle.world.specs.WorldRun.{WorldStep}
use Rattle.world.specs.Facts.{Facts}

no_node : (w : World) → Facts w → (node : ℕ) → 2 ^ 14 ≤ node → HasNode w node → ⊥
no_node w f node past has =
    let range = (f.nodes.ranges has.0 has.1 has.2.there).0 in
    let below : node < 2 ^ 14 = subst (λ (n : ℕ). n < 2 ^ 14) has.2.named range in
    omega (arith, below, past)

pub skips_login : (w : World) → Facts w → (node label database secret : ℕ) (kind : Kind) → 2 ^ 14 ≤ node
    → WorldStep (Event.Login node label database secret kind) Took.Skipped w w
skips_login w f node label database secret kind past =
    (λ may. no_node w f node past (may.place, may.view, may.is), refl)

pub skips_deliver : (w : World) → Facts w → (flight node : ℕ) → 2 ^ 14 ≤ node
    → WorldStep (Event.Deliver flight node) Took.Skipped w w
skips_deliver w f flight node past = (λ may. no_node w f node past may.1, refl)

pub skips_accept : (w : World) → Facts w → (flight node : ℕ) → 2 ^ 14 ≤ node
    → WorldStep (Event.Accept flight node) Took.Skipped w w
skips_accept w f flight node past = (λ may. no_node w f node past may.1, refl)

pub skips_restart : (w : World) → Facts w → (node : ℕ) (asked : Option ℕ) → 2 ^ 14 ≤ node
    → WorldStep (Event.Restart node asked) Took.Skipped w w
skips_restart w f node asked past = (λ may. no_node w f node past may.0, refl)
