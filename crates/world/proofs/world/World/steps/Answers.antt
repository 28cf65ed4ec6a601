use Rattle.std.proofs.Common.{List, [], refl, sym, subst}
use Rattle.std.proofs.lemmas.Option.{slice_get_read}
use Rattle.world.specs.declared.reply.Took.{Took}
use Rattle.world.proofs.Stepping.{Along, along_runs, along_settled, along_first, along_all}
use Rattle.world.proofs.world.World.steps.Goals as goal

pub loop-event-init : goal.loop-event-init
loop-event-init c =
    subst (λ (did : List Took). Along c.args.self.now [] did c.args.self.now) (sym c.in_ok-took.ensures.items)
    (Along.Over c.args.self.now)

pub loop-event-preserved : goal.loop-event-preserved
loop-event-preserved c =
    let facts = c.in_ok-did.ensures.facts in
    along_first c.args.events.now c.loop-event.event-index c.event-item.result c.loop-event.took.items c.note.new.took.items
    c.in_ok-did.did c.args.self.now c.loop-event.self c.advance.new.self
    (slice_get_read c.args.events.now _ c.loop-event.event-index c.event-item.result refl c.loop-event-test.true c.event-item.is)
    c.loop-event.invariant facts.0 facts.1 c.in_ok-did.ensures.step c.in_ok-note.ensures

pub returns-clause-runs : goal.returns-clause-runs
returns-clause-runs c =
    along_runs c.args.events.now c.loop-event.took.items c.args.self.now c.loop-event.self
    (along_all c.args.events.now c.loop-event.event-index c.loop-event.took.items c.args.self.now c.loop-event.self
    c.loop-event-test.false c.loop-event.invariant)

pub returns-clause-settled : goal.returns-clause-settled
returns-clause-settled c =
    along_settled c.args.events.now c.loop-event.took.items c.args.self.now c.loop-event.self
    (along_all c.args.events.now c.loop-event.event-index c.loop-event.took.items c.args.self.now c.loop-event.self
    c.loop-event-test.false c.loop-event.invariant)
