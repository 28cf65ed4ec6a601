-- What a login reports to a client (PostgreSQL manual, "Message Flow": Start-up; that a client's own
-- values take the place of the server's is own).
use Rattle.std.specs.Prelude.{ℕ, List, [], ◌∷◌, ◌++◌, map, slice_set, unwrap_or, Option, Some, None}
use Rattle.std.specs.List.{position_from}
use Rattle.startup.specs.Replies.{Report}
use Rattle.tracked_parameters.specs.Names.{alike}
use Rattle.tracked_parameters.specs.Values.{value_of}

-- the place of the report about this parameter
abbrev pub report_at : List ℕ → List Report → Option ℕ
report_at name reports = position_from (λ one. alike one.name name) 0 reports

abbrev pub with_report : Option ℕ → Report → List Report → List Report
with_report None report reports = reports ++ report ∷ []
with_report (Some place) report reports = slice_set reports place report

-- the reports after one more: it takes the place of the one about the same parameter, else it is the
-- last
abbrev pub reported : List Report → Report → List Report
reported reports report = with_report (report_at report.name reports) report reports

-- the report with the client's own value, where it has one
abbrev pub own_report : List (List ℕ) → List (Option (List ℕ)) → Report → Report
own_report names wanted report =
    record { name = report.name; value = unwrap_or (value_of names wanted report.name) report.value }

-- what a login reports to a client that wants these values
abbrev pub login_reports : List (List ℕ) → List (Option (List ℕ)) → List Report → List Report
login_reports names wanted reports = map (own_report names wanted) reports
