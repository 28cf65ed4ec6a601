use Rattle.std.proofs.Common.{◌≡◌, ℕ, Some, sym, subst, ◌∙◌}
use Rattle.std.specs.List.{slice_get}
use Rattle.std.proofs.lemmas.Option.{none-some, same_Some}
use Rattle.world.specs.World.{IsBackend}
use Rattle.world.specs.Wire.{backend_of}
use Rattle.world.specs.contracts.state.State.{the_view}
use Rattle.world.proofs.Possible.{connection_backend}
use Rattle.world.proofs.Striking.{strikes_nothing, strikes_client}
use Rattle.world.proofs.state.State.act.Goals as goal

pub unreachable-requires : goal.unreachable-requires
unreachable-requires c =
    let f = rw (← c.self.view_is) at c.requires in
    let b = connection_backend _ f _ c.in-Some.connection (sym c.in-Some.ensures) in
    none-some b.0 (c.in_default-get.ensures ∙ b.1.there)

pub returns-in_default-running-clause-step : goal.returns-in_default-running-clause-step
returns-in_default-running-clause-step c =
    let f = rw (← c.self.view_is) at c.requires in
    let conn = c.in-Some.connection in
    let there = subst (λ (n : ℕ). slice_get c.self.inside.connections.rows n ≡ Some conn) c.place.view_is (sym c.in-Some.ensures) in
    let b = connection_backend _ f c.args.place conn there in
    let one = same_Some b.0 (backend_of c.in-Some-get.process) (sym b.1.there ∙ sym c.in-Some-get.ensures) in
    let is = subst (IsBackend c.self.inside.backends.rows conn.server conn.key conn.backend) one b.1 in
    let set = rw (c.acting.ensures, c.place.view_is) at c.set.ensures.rows in
    rw (← c.self.view_is) (strikes_nothing (the_view c.self.inside) c.args.place conn _ _ there c.if-connection.false
    c.if-connection-2.false is c.in_default-running.is set)

pub returns-clause-step : goal.returns-clause-step
returns-clause-step c =
    let f = rw (← c.self.view_is) at c.requires in
    let conn = c.in-Some.connection in
    let there = subst (λ (n : ℕ). slice_get c.self.inside.connections.rows n ≡ Some conn) c.place.view_is (sym c.in-Some.ensures) in
    let b = connection_backend _ f c.args.place conn there in
    let one = same_Some b.0 (backend_of c.in-Some-get.process) (sym b.1.there ∙ sym c.in-Some-get.ensures) in
    let is = subst (IsBackend c.self.inside.backends.rows conn.server conn.key conn.backend) one b.1 in
    let set = rw (c.acting-2.ensures, c.place.view_is) at c.set-2.ensures.rows in
    let rested = c.in_ok-rest.ensures.rested (backend_of c.in-Some-get.process) is.there in
    rw (← c.self.view_is) (strikes_client (the_view c.self.inside) c.args.place c.in-Some-running.label conn _ _ _ _ there c.if-connection.false
    c.if-connection-2.false is c.in-Some-running.is rested
    (rw (c.in_ok-reserve.ensures.items) at c.note.ensures) set)
