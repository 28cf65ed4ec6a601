-- The parameters that logins report, among the arguments of `serve` (own).
use Rattle.std.specs.Prelude.{List, [], ◌∷◌, ◌++◌, Option, Some, None}
use Rattle.startup.specs.Replies.{Report}
use Rattle.startup.specs.Reports.{refusal}
use Rattle.startup.specs.declared.report_error.ReportError.{ReportError}
use Rattle.command_line.specs.Arguments.{Text, cut_at}
use Rattle.command_line.specs.Numbers.{◌>>=◌}

-- one more parameter, where it isn't refused beside the others
abbrev pub unless_refused : List Report → Report → Option ReportError → Option (List Report)
unless_refused reports report None = Some (reports ++ report ∷ [])
unless_refused reports report (Some error) = None

abbrev pub added : List Report → Text → Text → Option (List Report)
added reports name value =
    unless_refused reports (record { name = name; value = value }) (refusal reports name value)

-- a text names a parameter by what stands before its first `=` (61), and the value by what stands
-- behind it
unfoldable pub report_added : List Report → Text → Option (List Report)
report_added reports text = do
  value ← (cut_at 61 text).1
  added reports (cut_at 61 text).0 value

-- the parameters that texts name, behind others, where none is refused
unfoldable pub reports_behind : List Report → List Text → Option (List Report)
reports_behind reports [] = Some reports
reports_behind reports (text ∷ texts) = do
  more ← report_added reports text
  reports_behind more texts

-- the parameters that texts name
abbrev pub reports_of : List Text → Option (List Report)
reports_of texts = reports_behind [] texts
