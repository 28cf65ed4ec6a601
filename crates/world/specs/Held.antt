-- A client that was found with a lease in hand (own).
use Rattle.std.specs.Prelude.{ℕ, ◌≡◌, Option, Some, None}
use Rattle.world.specs.declared.state.Held.{Held}

-- somebody was found, with the lease of this server process and so much outstanding
abbrev pub IsHeld : ℕ → ℕ → Option Held → Type 0
IsHeld at outstanding None = ⊥
IsHeld at outstanding (Some held) = (held.hand.at ≡ at) × (held.hand.outstanding ≡ outstanding)
