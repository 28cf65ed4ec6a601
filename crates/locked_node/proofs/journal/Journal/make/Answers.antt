use Rattle.std.proofs.Common.{◌<◌, ◌∙◌, ap, sym, subst}
use Rattle.node_core.specs.View.{NodeValue}
use Rattle.locked_node.specs.Totals.{all_calls, IsCountOf}
use Rattle.locked_node.specs.Journal.{JournalValue, journal_view, JournalStep, Puts, CALL_LIMIT}
use Rattle.locked_node.specs.Waking.{Wakes, woken_by, database_of}
use Rattle.locked_node.proofs.Histories.{history_more, journal_step, put_counted}
use Rattle.locked_node.proofs.journal.Journal.make.Goals as goal

pub returns-clause-count : goal.returns-clause-count
returns-clause-count g c =
    let is = subst (λ d. IsCountOf (g.C.Call.exchange d c.make-reply.result) c.record.new.note) c.details-details.ensures c.record.ensures.count in
    record { kind = is.kind; numbers = is.numbers }

pub count-requires : goal.count-requires
count-requires g c = record {
  room = subst (λ t. all_calls t < CALL_LIMIT) (sym c.record.ensures.put.totals) (subst (λ (j : JournalValue g.row.S.Denot). all_calls j.log.totals < CALL_LIMIT) (sym c.self.view_is) c.requires.room);
  of = (_, c.record.ensures.count);
}

-- the history has one call more
pub invariant_of-self : goal.invariant_of-self
invariant_of-self g c =
    let call = g.C.Call.exchange (g.C.Call.handed c.args.call) c.make-reply.result in
    let puts = subst (λ d. Puts c.self.inside.log (g.C.Call.exchange d c.make-reply.result) c.record.new.log) c.details-details.ensures c.record.ensures.put in
    let counts = c.count.ensures.totals call (subst (λ d. IsCountOf (g.C.Call.exchange d c.make-reply.result) c.record.new.note) c.details-details.ensures c.record.ensures.count) in
    history_more _ call _ c.make-reply.ensures.step (put_counted c.self.inside.log c.record.new.log c.count.new.self call puts c.count.ensures.tail counts) c.self.invariant

pub returns-clause-step : goal.returns-clause-step
returns-clause-step g c =
    let call = g.C.Call.exchange (g.C.Call.handed c.args.call) c.make-reply.result in
    let puts = subst (λ d. Puts c.self.inside.log (g.C.Call.exchange d c.make-reply.result) c.record.new.log) c.details-details.ensures c.record.ensures.put in
    let counts = c.count.ensures.totals call (subst (λ d. IsCountOf (g.C.Call.exchange d c.make-reply.result) c.record.new.note) c.details-details.ensures c.record.ensures.count) in
    subst (λ (j : JournalValue g.row.S.Denot). JournalStep (journal_view j) call (record { view = c.make-reply.new.core.view; log = c.count.new.self })) c.self.view_is
    (journal_step _ call _ c.whole_node.ensures.whole c.make-reply.ensures.step (put_counted c.self.inside.log c.record.new.log c.count.new.self call puts c.count.ensures.tail counts) c.self.invariant)

pub returns-clause-turn : goal.returns-clause-turn
returns-clause-turn g c =
    let call = g.C.Call.exchange (g.C.Call.handed c.args.call) c.make-reply.result in
    let first = c.record.ensures.woken ∙ ap (λ d. woken_by (g.C.Call.exchange d c.make-reply.result)) c.details-details.ensures in
    subst (λ (j : JournalValue g.row.S.Denot). Wakes (woken_by call) (database_of j.view call) c.pass_on.new.self c.make-reply.new.core.view) c.self.view_is
    (subst (λ w. Wakes w (database_of c.self.inside.core.view call) c.pass_on.new.self c.make-reply.new.core.view) first
    (subst (λ d. Wakes c.record.new.note.turn.woken d c.pass_on.new.self c.make-reply.new.core.view) (c.database-database.ensures c.make-reply.result ∙ ap (λ (n : NodeValue g.row.S.Denot). database_of n.view call) c.whole_node.ensures.same) c.pass_on.ensures))
