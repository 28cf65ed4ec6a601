-- When the end of a request may be reported to whoever forwarded it, by the order that it got.
use Rattle.std.proofs.Common.{◌≡◌, ℕ, List, Some, ap, sym, subst, ◌∙◌}
use Rattle.std.specs.List.{slice_get}
use Rattle.std.proofs.lemmas.Option.{same_Some}
use Rattle.lease.specs.declared.ticket.TicketRecord.{TicketRecord}
use Rattle.startup.specs.declared.packet.Packet.{Packet}
use Rattle.node_core.specs.declared.exchange.Order.{Order}
use Rattle.world.specs.World.{World, Arrival}
use Rattle.world.specs.Settled.{IsNowhere}
use Rattle.world.specs.Admissible.{IsAnswered}
use Rattle.world.specs.Answered.{IsCarried, IsPassedOn}
use Rattle.world.specs.Facts.{IsServed, IsForwarded, Facts}

-- it came
pub answered_came : (w : World) → Facts w → (a : ℕ) → IsAnswered w.arrivals w.connections w.forwards a
    → (came : Arrival) × (slice_get w.arrivals a ≡ Some came)
answered_came w f a (IsAnswered.Nowhere came there goes) = (came, there)
answered_came w f a (IsAnswered.Carried p c there of clean) =
    let came = (f.connections.each p c there).served in
    (came.0, ap (slice_get w.arrivals) (sym of) ∙ came.1)
answered_came w f a (IsAnswered.Onward p g there of clean) =
    let came = (f.forwards.each p g there).origin in
    (came.0, ap (slice_get w.arrivals) (sym of) ∙ came.1)

-- one that was sent to a server was carried
pub carried : (w : World) → Facts w → (a : ℕ) (came : Arrival) (ticket : TicketRecord) (database : ℕ) (key : List ℕ)
    → slice_get w.arrivals a ≡ Some came → came.order ≡ Order.Serve ticket database key
    → IsAnswered w.arrivals w.connections w.forwards a → IsCarried w.connections a
carried w f a came ticket database key there order (IsAnswered.Nowhere x at goes) =
    absurd (subst IsNowhere (ap (λ (z : Arrival). z.order) (same_Some x came (sym at ∙ there)) ∙ order) goes)
carried w f a came ticket database key there order (IsAnswered.Carried p c at of clean) =
    record { place = p; connection = c; there = at; for = of; clean = clean }
carried w f a came ticket database key there order (IsAnswered.Onward p g at of clean) =
    let x = (f.forwards.each p g at).origin in
    absurd (subst IsForwarded (ap (λ (z : Arrival). z.order)
    (same_Some x.0 came (sym x.1 ∙ ap (slice_get w.arrivals) of ∙ there)) ∙ order) x.2)

pub was_carried : (w : World) (a : ℕ) → IsCarried w.connections a → IsAnswered w.arrivals w.connections w.forwards a
was_carried w a is = IsAnswered.Carried is.place is.connection is.there is.for is.clean

-- one that was forwarded was passed on
pub passed_on : (w : World) → Facts w → (a : ℕ) (came : Arrival) (to : ℕ) (packet : Packet)
    → slice_get w.arrivals a ≡ Some came → came.order ≡ Order.Forward to packet
    → IsAnswered w.arrivals w.connections w.forwards a → IsPassedOn w.forwards a
passed_on w f a came to packet there order (IsAnswered.Nowhere x at goes) =
    absurd (subst IsNowhere (ap (λ (z : Arrival). z.order) (same_Some x came (sym at ∙ there)) ∙ order) goes)
passed_on w f a came to packet there order (IsAnswered.Carried p c at of clean) =
    let x = (f.connections.each p c at).served in
    absurd (subst (IsServed c.ticket c.key) (ap (λ (z : Arrival). z.order)
    (same_Some x.0 came (sym x.1 ∙ ap (slice_get w.arrivals) of ∙ there)) ∙ order) x.2)
passed_on w f a came to packet there order (IsAnswered.Onward p g at of clean) =
    record { place = p; forward = g; there = at; for = of; clean = clean }

pub was_passed_on : (w : World) (a : ℕ) → IsPassedOn w.forwards a → IsAnswered w.arrivals w.connections w.forwards a
was_passed_on w a is = IsAnswered.Onward is.place is.forward is.there is.for is.clean

-- one that went nowhere
pub went_nowhere : (w : World) (a : ℕ) (came : Arrival) → slice_get w.arrivals a ≡ Some came → IsNowhere came.order
    → IsAnswered w.arrivals w.connections w.forwards a
went_nowhere w a came there goes = IsAnswered.Nowhere came there goes
