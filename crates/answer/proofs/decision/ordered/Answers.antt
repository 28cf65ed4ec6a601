use Rattle.std.proofs.Common.{ap}
use Rattle.locked_node.specs.Totals.{all_calls}
use Rattle.locked_node.specs.Journal.{journal_view}
use Rattle.answer.specs.Decision.{has}
use Rattle.std.proofs.Common.{length}
use Rattle.answer.proofs.CallLemmas.{cannot_be, may_order}
use Rattle.answer.proofs.decision.ordered.Goals as goal

pub returns-in-Ok : goal.returns-in-Ok
returns-in-Ok g c =
    let made = c.in_ok-shared.ensures in
    may_order (journal_view c.args.journal) c.in_ok-shared.caller c.order_behind-order.new.caller
    c.into_journal.result made.start made.allowance (ap all_calls made.totals) made.none
    c.into_journal.ensures.whole c.args.clients.now c.args.key c.in-Ok.order c.in-Ok.ensures

pub returns-in-Err : goal.returns-in-Err
returns-in-Err g c =
    let made = c.in_ok-shared.ensures in
    absurd (cannot_be (journal_view c.args.journal) c.in_ok-shared.caller
    c.order_behind-order.new.caller c.into_journal.result made.start made.allowance
    (ap all_calls made.totals) made.none c.into_journal.ensures.whole (has c.args.held.now)
    (length c.args.clients.now) c.requires.room c.in-Err.ensures)
