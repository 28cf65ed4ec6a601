use Rattle.std.proofs.Common.{◌∙◌, List, ap}
use Rattle.startup.specs.Replies.{Report}
use Rattle.startup.specs.Reports.{is_reported}
use Rattle.startup.specs.Stored.{all_reported}
use Rattle.startup.specs.declared.report.Stored.{Stored}
use Rattle.startup.proofs.ReportLemmas.{among}
use Rattle.startup.proofs.reports.Reports.has.Goals as goal

pub returns : goal.returns
returns c =
    c.is_among.ensures ∙ among c.args.name.now c.deref.result.now
    ∙ ap (λ (xs : List Stored). is_reported c.args.name.now (all_reported xs)) c.deref.ensures.value
    ∙ ap (λ (rs : List Report). is_reported c.args.name.now rs) c.self.view_is
