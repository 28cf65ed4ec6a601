-- The state of a link by its tickets (own): condemned once one failed; otherwise clear if none is
-- open; otherwise waiting.
use Rattle.std.specs.Prelude.{ℕ, zero, suc, Bool, true, false}
use Rattle.quarantine.specs.OpenTickets.{OpenTickets}
use Rattle.quarantine.specs.declared.hold.HoldState.{HoldState}
use Rattle.quarantine.specs.declared.hold.HoldState.TheVariants.{Clear, Waiting, Condemned}

-- condemned once a ticket failed; else clear where none is open; else it waits for those that are
abbrev pub state_by : ℕ → Bool → HoldState
state_by tickets true = Condemned
state_by zero false = Clear
state_by (suc n) false = Waiting (suc n)

-- the state of a link with these tickets
abbrev pub state_of : OpenTickets → HoldState
state_of t = state_by t.tickets t.condemned
