use Rattle.std.proofs.lemmas.Result.{MatchResult-weaker}
use Rattle.answer.specs.Decision.{leases_of}
use Rattle.answer.proofs.CallLemmas.{reply_passed}
use Rattle.answer.proofs.LeavingLemmas.{calls_all, cannot_close_asked, cannot_leave_asked, cannot_report_asked}
use Rattle.answer.proofs.hand_back.hand_back.Goals as goal

pub returns-in_err-report-clause-handed : goal.returns-in_err-report-clause-handed
returns-in_err-report-clause-handed g c =
    reply_passed c.from_residual.result c.in_err-report.field-0.0 _ _ c.from_residual.ensures.1
    (cannot_report_asked c.args.held.now.passes.items (leases_of c.args.held.now.leases.items)
    c.args.ticket c.args.caller.now c.report.new.caller c.in_err-report.ensures.reported)

pub returns-in_err-close_all-clause-handed : goal.returns-in_err-close_all-clause-handed
returns-in_err-close_all-clause-handed g c =
    reply_passed c.from_residual-in_err-close_all.result c.in_err-close_all.field-0.0 _ _
    c.from_residual-in_err-close_all.ensures.1
    (cannot_close_asked c.args.held.now.passes.items (leases_of c.args.held.now.leases.items)
    c.args.ticket c.args.caller.now c.report.new.caller c.close_all.new.caller
    c.in_ok-report.ensures.reported c.in_err-close_all.ensures.closed)

pub returns-clause-handed : goal.returns-clause-handed
returns-clause-handed g c =
    let passes = c.args.held.now.passes.items in
    let leases = leases_of c.args.held.now.leases.items in
    let reported = c.in_ok-report.ensures.reported in
    let closed = c.in_ok-close_all.ensures.closed in
    MatchResult-weaker c.leave_all.result c.leave_all.ensures.left
    (λ _ left. calls_all passes leases c.args.ticket c.args.caller.now c.report.new.caller
    c.close_all.new.caller c.leave_all.new.caller reported closed left)
    (λ _ cannot. cannot_leave_asked passes leases c.args.ticket c.args.caller.now
    c.report.new.caller c.close_all.new.caller c.leave_all.new.caller reported closed cannot)
