-- A packet that is carried on.
use Rattle.std.proofs.Common.{ℕ, ◌≡◌, Ok, List, refl, inl, subst}
use Rattle.startup.specs.CancelPacket.{packet_bytes}
use Rattle.startup.specs.declared.packet.Packet.{Packet}
use Rattle.peer_forward.specs.Calls.{Effect}
use Rattle.peer_forward.specs.Carrying.{Carried}
use Rattle.peer_forward.specs.declared.outcome.Outcome.{Outcome}
use Rattle.peer_forward.specs.declared.verdict.Verdict.{Verdict}
use Rattle.peer_forward.specs.declared.verdict.Verdict.TheVariants as verdict
use Rattle.node_threads.specs.Cancelling.{Opens, CarriedOver, IsCarried}

-- a packet that was carried over a stream that was opened for it
pub carried-over : {T : Type 0} (wrote gave : Effect T) (opens : Opens T) (number : ℕ)
    (packet : List ℕ) (end : Outcome) (stream after : T) → opens number (Ok stream)
    → Carried wrote gave stream packet end after
    → IsCarried wrote gave opens number packet end (verdict.Carried end)
carried-over wrote gave opens number packet end stream after opened carried =
    let over : CarriedOver wrote gave opens number packet end =
    record { stream = stream; opened = opened; after = after; carried = carried } in
    inl (over, refl)

-- what is said of a packet holds of the packet that it is
pub same-packet : {T : Type 0} (wrote gave : Effect T) (opens : Opens T) (number : ℕ)
    (packet same : Packet) (end : Outcome) (told : Verdict) → packet ≡ same
    → IsCarried wrote gave opens number (packet_bytes packet) end told
    → IsCarried wrote gave opens number (packet_bytes same) end told
same-packet wrote gave opens number packet same end told is carried =
    subst (λ (p : Packet). IsCarried wrote gave opens number (packet_bytes p) end told) is carried
