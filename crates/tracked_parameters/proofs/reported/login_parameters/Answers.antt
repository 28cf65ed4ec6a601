use Rattle.std.proofs.Common.{◌∙◌, List, ap}
use Rattle.std.specs.List.{flat_map}
use Rattle.std.proofs.lemmas.List.{take_all}
use Rattle.startup.specs.Replies.{Report, statuses}
use Rattle.tracked_parameters.specs.Reported.{login_reports}
use Rattle.tracked_parameters.specs.StoredReports.{own_status, kept_reports}
use Rattle.tracked_parameters.specs.declared.stored.Stored.{Stored}
use Rattle.tracked_parameters.proofs.ReportLemmas.{statuses_are}
use Rattle.tracked_parameters.proofs.reported.login_parameters.Goals as goal

pub returns : goal.returns
returns c =
    let names = c.args.names.now in
    let wanted = c.args.wanted.now in
    let all = c.deref-stored-items.result.now in
    c.loop-stored.invariant
    ∙ ap (λ (xs : List Stored). flat_map (own_status names wanted) xs) (take_all c.loop-stored.stored-index all c.loop-stored-test.false)
    ∙ statuses_are names wanted all
    ∙ ap (λ (xs : List Stored). statuses (login_reports names wanted (kept_reports xs))) c.deref-stored-items.ensures.value
    ∙ ap (λ (rs : List Report). statuses (login_reports names wanted rs)) c.reported.view_is
