-- Reported parameters as they are kept (internal).
use Rattle.std.specs.Prelude.{ℕ, ◌≡◌, List, map}
use Rattle.std.specs.String.{string_bytes}
use Rattle.startup.specs.Replies.{Report, statuses}
use Rattle.startup.specs.Reports.{AreReports}
use Rattle.startup.specs.declared.report.Stored.{Stored}
use Rattle.startup.specs.declared.report.Report.{Report as Lent}

-- one that is kept
abbrev pub reported : Stored → Report
reported stored = record { name = string_bytes stored.name; value = string_bytes stored.value }

-- one that is lent
abbrev pub lent : Lent → Report
lent report = record { name = report.name.now; value = report.value.now }

-- all that are kept
abbrev pub all_reported : List Stored → List Report
all_reported stored = map reported stored

-- they may be reported together, and these are their messages
pub record AreKept (reports : List Report) (messages : List ℕ) : Type 0 where
  pub are : AreReports reports
  pub text : messages ≡ statuses reports
