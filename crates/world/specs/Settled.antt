-- When nothing more can come of a cancel request (own).
use Rattle.std.specs.Prelude.{ℕ, ◌≡◌, ◌≤◌, true, List, Some, slice_get, length}
use Rattle.lease.specs.declared.ticket.TicketRecord.{TicketRecord}
use Rattle.node_core.specs.declared.exchange.Order.{Order}
use Rattle.world.specs.World.{World, Arrival, Connection, Forward, Interrupt}

-- the order sends a request nowhere: it was refused, or it ended a wait
abbrev pub IsNowhere : Order TicketRecord → Type 0
IsNowhere (Order.Serve ticket database key) = ⊥
IsNowhere (Order.Forward to packet) = ⊥
IsNowhere (Order.Unwait slot) = Unit {0}
IsNowhere (Order.Refused reason) = Unit {0}

-- the cancel connection of an arrival was ended by the server, however that was reported
pub record HasEnded (connections : List Connection) (arrival : ℕ) : Type 0 where
  pub place : ℕ
  pub connection : Connection
  pub there : slice_get connections place ≡ Some connection
  pub for : connection.arrival ≡ arrival
  pub ended : connection.ended ≡ true

-- an arrival was forwarded, and led to this one on its forward connection
pub record LedTo (forwards : List Forward) (arrival onward : ℕ) : Type 0 where
  pub place : ℕ
  pub forward : Forward
  pub there : slice_get forwards place ≡ Some forward
  pub from : forward.origin ≡ arrival
  pub to : forward.accepted ≡ Some onward

-- An arrival is settled if it was refused or ended a wait; if the server ended its cancel
-- connection; or if it was forwarded, and what arrived on its forward connection is settled.
pub data Settled (arrivals : List Arrival) (connections : List Connection)
    (forwards : List Forward) : ℕ → Type 0 where
  Nowhere : (arrival : ℕ) (came : Arrival) → slice_get arrivals arrival ≡ Some came
      → IsNowhere came.order → Settled arrivals connections forwards arrival
  Ended : (arrival : ℕ) → HasEnded connections arrival
      → Settled arrivals connections forwards arrival
  Forwarded : (arrival onward : ℕ) → LedTo forwards arrival onward
      → Settled arrivals connections forwards onward
      → Settled arrivals connections forwards arrival

abbrev pub IsSettled : World → ℕ → Type 0
IsSettled w arrival = Settled w.arrivals w.connections w.forwards arrival

-- an arrival, or the one on its forward connection, at any depth
pub data ComesOf (forwards : List Forward) : ℕ → ℕ → Type 0 where
  Itself : (arrival : ℕ) → ComesOf forwards arrival arrival
  Onward : (arrival onward later : ℕ) → LedTo forwards arrival onward
      → ComesOf forwards onward later → ComesOf forwards arrival later

-- an arrival that was settled is settled still, and no interruption came since for it, or for what
-- came of it
pub record SettledStays (old new : World) : Type 0 where
  pub still : (arrival : ℕ) → IsSettled old arrival → IsSettled new arrival
  pub quiet : (arrival later place : ℕ) (struck : Interrupt) → IsSettled old arrival
      → ComesOf new.forwards arrival later → length old.interrupts ≤ place
      → slice_get new.interrupts place ≡ Some struck → struck.arrival ≡ later → ⊥

-- of a settled arrival nothing is to come: each cancel connection for it, or for what came of it,
-- was ended by the server
abbrev pub NothingToCome : World → Type 0
NothingToCome w = (arrival later place : ℕ) (connection : Connection) → IsSettled w arrival
    → ComesOf w.forwards arrival later → slice_get w.connections place ≡ Some connection
    → connection.arrival ≡ later → connection.ended ≡ true

-- an arrival on a forward connection that was ended without a byte is settled, and so is the one
-- that was forwarded
abbrev pub EndedIsSettled : World → Type 0
EndedIsSettled w = (place : ℕ) (forward : Forward) → slice_get w.forwards place ≡ Some forward
    → forward.ended ≡ true
    → (arrival : ℕ) × (forward.accepted ≡ Some arrival) × IsSettled w arrival
    × IsSettled w forward.origin
