-- The session's state as an enum of the code (internal).
use Rattle.std.specs.Prelude.{ℕ, Bool, true, false}
use Rattle.client_state.specs.declared.client.Stage.{Stage}
use Rattle.client_state.specs.declared.client.Stage.TheVariants.{NoLease, Leased, Asking}

-- a lease is held
abbrev pub is_leased : Stage → Bool
is_leased NoLease = false
is_leased Leased = true
is_leased Asking = true

-- how many requests are outstanding
abbrev pub outstanding_of : Stage → ℕ
outstanding_of NoLease = 0
outstanding_of Leased = 0
outstanding_of Asking = 1
