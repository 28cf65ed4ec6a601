-- Which parameters logins may report beside the three that every login has, and why others are
-- refused (own): `refusal`. What is reported of the encodings is fixed.
use Rattle.std.specs.Prelude.{ℕ, ◌≡◌, ◌≢◌, ◌+◌, ◌≤◌, Bool, true, false, ◌==◌, ◌||◌, List, [], ◌∷◌, length, codes, bytes_eq, nat_lt, if◌then◌else◌, Option, Some, None}
use Rattle.std.specs.List.{AllByRecursion, list_any}
use Rattle.startup.specs.StartupMessage.{HasNoZero}
use Rattle.startup.specs.Replies.{Report, parameter_status, statuses}
use Rattle.startup.specs.declared.report_error.ReportError.{ReportError}
use Rattle.startup.specs.declared.report_error.ReportError.TheVariants.{Name, Value, Fixed, Twice, TooLong}

-- a text with a zero byte can't stand in a message, where a zero byte ends it
abbrev pub has_zero : List ℕ → Bool
has_zero text = list_any (λ byte. byte == 0) text

abbrev pub is_empty : List ℕ → Bool
is_empty [] = true
is_empty (byte ∷ bytes) = false

-- the encodings, which every login reports to be UTF8
abbrev pub is_fixed : List ℕ → Bool
is_fixed name = bytes_eq name (codes "server_encoding") || bytes_eq name (codes "client_encoding")

-- the name is that of one of these
abbrev pub is_reported : List ℕ → List Report → Bool
is_reported name reports = list_any (λ report. bytes_eq report.name name) reports

-- how many bytes all messages have, with one more of this name and this value
abbrev pub length_with : List Report → List ℕ → List ℕ → ℕ
length_with reports name value = length (statuses reports) + length (parameter_status name value)

-- why this parameter can't be reported beside these: the first of these reasons that is there
unfoldable pub refusal : List Report → List ℕ → List ℕ → Option ReportError
refusal reports name value =
    if is_empty name || has_zero name then Some Name
    else (if has_zero value then Some Value
    else (if is_fixed name then Some Fixed
    else (if is_reported name reports then Some Twice
    else (if nat_lt 8000 (length_with reports name value) then Some TooLong
    else None))))

-- a parameter that may be reported
pub record IsReport (report : Report) : Type 0 where
  pub named : report.name ≢ []
  pub name : HasNoZero report.name
  pub value : HasNoZero report.value
  pub free : is_fixed report.name ≡ false
  pub short : length (parameter_status report.name report.value) ≤ 8000

-- no name is reported twice
abbrev pub AreReportedOnce : List Report → Type 0
AreReportedOnce [] = Unit {0}
AreReportedOnce (r ∷ rs) = AllByRecursion (λ other. other.name ≢ r.name) rs × AreReportedOnce rs

-- parameters that may be reported together
pub record AreReports (reports : List Report) : Type 0 where
  pub formed : AllByRecursion IsReport reports
  pub once : AreReportedOnce reports
  pub short : length (statuses reports) ≤ 8000
