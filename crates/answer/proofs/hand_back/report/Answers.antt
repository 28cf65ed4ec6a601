use Rattle.std.proofs.lemmas.Result.{MatchResult-weaker}
use Rattle.answer.proofs.LeavingLemmas.{cannot_report, reports_none, reports_one}
use Rattle.answer.proofs.hand_back.report.Goals as goal

pub returns-in-Some-clause-reported : goal.returns-in-Some-clause-reported
returns-in-Some-clause-reported g c =
    rw c.in-Some.is
    (MatchResult-weaker c.report_failed.result c.report_failed.ensures
    (λ _ step. reports_one c.in-Some.ticket c.args.caller.now c.report_failed.new.caller step)
    (λ given trips. cannot_report c.in-Some.ticket given c.args.caller.now
    c.report_failed.new.caller trips))

pub returns-in-None-clause-reported : goal.returns-in-None-clause-reported
returns-in-None-clause-reported g c = rw c.in-None.is (reports_none c.args.caller.now)
