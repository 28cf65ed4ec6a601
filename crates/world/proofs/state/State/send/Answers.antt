use Rattle.std.proofs.Common.{ℕ, Some, ap, refl, ◌∙◌}
use Rattle.world.specs.World.{World, Hand}
use Rattle.world.specs.Changes.{holding, with_session}
use Rattle.world.specs.contracts.state.State.{the_view}
use Rattle.world.proofs.Requesting.{held_backend, sends, some_lease}
use Rattle.world.proofs.Stepping.{on_err}
use Rattle.world.proofs.state.State.send.Goals as goal

pub returns-in_default-clause-step : goal.returns-in_default-clause-step
returns-in_default-clause-step c = (λ has. c.in_default.ensures.only has.2.0 has.0 has.1 has.2.1, refl)

pub send-requires : goal.send-requires
send-requires c =
    let f = rw (← c.self.view_is) at c.requires in
    let found = rw (← c.self.view_is) at c.in-Some.ensures.found in
    let held = c.in-Some.held in
    let b = held_backend _ f held.place held.hand.at held.hand.outstanding held.session held.hand.lease found.there c.in-Some.ensures.hand in
    record { there = (b.0, b.1.there, b.1.holder ∙ ap Some found.named) }

pub returns-clause-step : goal.returns-clause-step
returns-clause-step c =
    let f = rw (← c.self.view_is) at c.requires in
    let found = rw (← c.self.view_is) at c.in-Some.ensures.found in
    let held = c.in-Some.held in
    let b = held_backend _ f held.place held.hand.at held.hand.outstanding held.session held.hand.lease found.there c.in-Some.ensures.hand in
    let one = c.in-Some-checked_add.ensures.1 in
    rw (← c.self.view_is) (sends (the_view c.self.inside) _ c.args.label held.place held.hand.at held.hand.outstanding held.session held.hand.lease
    b.0 c.send.new.self.rows found c.in-Some.ensures.stays c.in-Some.ensures.hand b.1.there (c.in_ok-send.ensures.sent b.0 b.1.there)
    (c.put_in_hand.ensures ∙ ap (λ (n : ℕ). let w : World = the_view c.self.inside in
    with_session held.place (holding (Hand.Lease held.hand.lease held.hand.at n) held.session)
    (record w { backends = c.send.new.self.rows })) one))

pub returns-in_default-checked_add-clause-may : goal.returns-in_default-checked_add-clause-may
returns-in_default-checked_add-clause-may c =
    let held = c.in-Some.held in
    some_lease c.args.self.now c.args.label held.place held.hand.at held.hand.outstanding held.session held.hand.lease
    c.in-Some.ensures.found c.in-Some.ensures.stays c.in-Some.ensures.hand

pub returns-in_err-send-clause-may : goal.returns-in_err-send-clause-may
returns-in_err-send-clause-may c =
    let held = c.in-Some.held in
    on_err c.from_residual.result
    (some_lease c.args.self.now c.args.label held.place held.hand.at held.hand.outstanding held.session held.hand.lease
    c.in-Some.ensures.found c.in-Some.ensures.stays c.in-Some.ensures.hand)
