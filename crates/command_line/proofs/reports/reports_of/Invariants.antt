use Rattle.std.proofs.Common.{◌≡◌, [], drop, map}
use Rattle.command_line.specs.ReportTexts.{reports_behind}
use Rattle.command_line.proofs.reports.reports_of.Given as goal

-- those so far, and then those of the other texts
abbrev pub invariant-loop-text : goal.invariant-loop-text
invariant-loop-text l = reports_behind [] (map (λ t. t.now) l.texts)
    ≡ reports_behind l.reports (map (λ t. t.now) (drop l.text-index l.texts))
