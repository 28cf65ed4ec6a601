use Rattle.std.proofs.Common.{◌≡◌, refl, sym, subst, ap, ◌∙◌}
use Rattle.link_pool.specs.declared.place.Place.TheVariants as place
use Rattle.link_pool.specs.Pool.{give_back, quarantine}
use Rattle.link_pool.specs.OnePlace.{IsPool}
use Rattle.link_pool.proofs.Handing.{of_held, vacated, rested, quarantined, idle_of}
use Rattle.link_pool.proofs.Settling.{clear_at, waiting_at}
use Rattle.link_pool.proofs.pool.Pool.release.Goals as goal

pub change-requires-clause-slot : goal.change-requires-clause-slot
change-requires-clause-slot g c =
    let of = of_held c.args.self.now.view c.details-details.result c.in-Some.field-0.link c.in-Some.field-0.slot c.held.ensures.whole c.in-Some.ensures.held in of.within

pub change-requires-clause-whole : goal.change-requires-clause-whole
change-requires-clause-whole g c =
    let v = c.args.self.now.view in
    let link = c.in-Some.field-0.link in
    let clear = clear_at link.hold.tickets link.hold.condemned (sym c.in-Clear.ensures.state) in
    let says : link.details ≡ c.idle.result.details = c.in-Some.ensures.held.says ∙ c.details-details.ensures ∙ ap (λ l. l.details) (sym c.idle.ensures) in
    subst (λ l. IsPool (give_back v c.details-details.result.at c.in-Some.field-0.slot (place.Link l))) (idle_of link c.idle.result.details says clear.0 clear.1)
    (rested v c.details-details.result link c.in-Some.field-0.slot c.held.ensures.whole c.in-Some.ensures.held clear)

pub change-requires-in-Waiting-clause-slot : goal.change-requires-in-Waiting-clause-slot
change-requires-in-Waiting-clause-slot g c =
    let of = of_held c.args.self.now.view c.details-details.result c.in-Some.field-0.link c.in-Some.field-0.slot c.held.ensures.whole c.in-Some.ensures.held in of.within

pub change-requires-in-Waiting-clause-whole : goal.change-requires-in-Waiting-clause-whole
change-requires-in-Waiting-clause-whole g c =
    let v = c.args.self.now.view in
    let link = c.in-Some.field-0.link in
    let waits = waiting_at link.hold.tickets c.in-Waiting.field-0 link.hold.condemned (sym c.in-Waiting.ensures.state) in
    let says : link.details ≡ c.quarantine.result.details = c.in-Some.ensures.held.says ∙ c.details-details.ensures ∙ ap (λ l. l.details) (sym c.quarantine.ensures) in
    subst (λ d. IsPool (quarantine v c.details-details.result.at c.in-Some.field-0.slot (record { details = d; key = link.key; state = link.state; hold = link.hold }))) says
    (quarantined v c.details-details.result link c.in-Some.field-0.slot c.held.ensures.whole c.in-Some.ensures.held waits)

pub change-requires-in-Condemned-clause-slot : goal.change-requires-in-Condemned-clause-slot
change-requires-in-Condemned-clause-slot g c =
    let of = of_held c.args.self.now.view c.details-details.result c.in-Some.field-0.link c.in-Some.field-0.slot c.held.ensures.whole c.in-Some.ensures.held in of.within

pub change-requires-in-Condemned-clause-whole : goal.change-requires-in-Condemned-clause-whole
change-requires-in-Condemned-clause-whole g c =
    vacated c.args.self.now.view c.details-details.result.at c.in-Some.field-0.slot c.held.ensures.whole (of_held c.args.self.now.view c.details-details.result c.in-Some.field-0.link c.in-Some.field-0.slot c.held.ensures.whole c.in-Some.ensures.held) refl
