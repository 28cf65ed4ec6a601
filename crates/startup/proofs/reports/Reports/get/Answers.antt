use Rattle.std.proofs.Common.{List, sym, subst}
use Rattle.std.specs.List.{AllByRecursion}
use Rattle.startup.specs.Reports.{IsReport}
use Rattle.startup.specs.Stored.{all_reported}
use Rattle.startup.specs.declared.report.Stored.{Stored}
use Rattle.startup.proofs.ReportLemmas.{formed_at}
use Rattle.startup.proofs.reports.Reports.get.Goals as goal

pub returns-clause-formed : goal.returns-clause-formed
returns-clause-formed c =
    let found = c.in_ok-get.ensures.lookup in
    let all = subst (λ (xs : List Stored). AllByRecursion IsReport (all_reported xs)) (sym c.deref.ensures.value) c.self.invariant.are.formed in
    formed_at c.deref.result.now c.args.place c.in_ok-get.field-0.now c.lend.result all found.0 found.1 c.lend.ensures
