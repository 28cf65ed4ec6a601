-- Reports as they are kept.
use Rattle.std.proofs.Common.{◌≡◌, ◌∙◌, ℕ, Option, Some, None, List, [], ◌∷◌, ◌++◌, set, refl, sym, ap}
use Rattle.std.specs.List.{position_from, flat_map}
use Rattle.std.proofs.lemmas.List.{map-set, map-append}
use Rattle.startup.specs.Replies.{Report, statuses}
use Rattle.tracked_parameters.specs.Names.{alike}
use Rattle.tracked_parameters.specs.Reported.{reported, report_at, with_report, login_reports}
use Rattle.tracked_parameters.specs.StoredReports.{kept_report, kept_reports, own_status}
use Rattle.tracked_parameters.specs.declared.stored.Stored.{Stored}
use Rattle.tracked_parameters.proofs.PlaceLemmas.{position_from-map}

place_is : (items slice : List Stored) (o : Option ℕ) (report : Report) (now : List Report) → slice ≡ items → o ≡ position_from (λ one. alike (kept_report one).name report.name) 0 slice → kept_reports items ≡ now → report_at report.name now ≡ o
place_is items slice o report now same is view =
    ap (λ (rs : List Report). report_at report.name rs) (sym view)
    ∙ ap (λ (xs : List Stored). report_at report.name (kept_reports xs)) (sym same)
    ∙ sym (position_from-map kept_report (λ one. alike one.name report.name) 0 slice) ∙ sym is

-- one that takes the place of another
pub reported_at : (items slice : List Stored) (o : Option ℕ) (place : ℕ) (stored : Stored) (report : Report) (now : List Report) → slice ≡ items → o ≡ position_from (λ one. alike (kept_report one).name report.name) 0 slice → o ≡ Some place → kept_report stored ≡ report → kept_reports items ≡ now → kept_reports (set items place stored) ≡ reported now report
reported_at items slice o place stored report now same is found kept view =
    map-set kept_report items place stored ∙ ap (λ (r : Report). set (kept_reports items) place r) kept
    ∙ ap (λ (rs : List Report). set rs place report) view
    ∙ sym (ap (λ (p : Option ℕ). with_report p report now) (place_is items slice o report now same is view ∙ found))

-- one more
pub reported_last : (items slice new : List Stored) (o : Option ℕ) (stored : Stored) (report : Report) (now : List Report) → slice ≡ items → o ≡ position_from (λ one. alike (kept_report one).name report.name) 0 slice → o ≡ None → kept_report stored ≡ report → kept_reports items ≡ now → new ≡ items ++ stored ∷ [] → kept_reports new ≡ reported now report
reported_last items slice new o stored report now same is none kept view pushed =
    ap kept_reports pushed ∙ map-append kept_report items (stored ∷ []) ∙ ap (λ (r : Report). kept_reports items ++ r ∷ []) kept
    ∙ ap (λ (rs : List Report). rs ++ report ∷ []) view
    ∙ sym (ap (λ (p : Option ℕ). with_report p report now) (place_is items slice o report now same is view ∙ none))

-- the messages of all
pub statuses_are : (names : List (List ℕ)) (wanted : List (Option (List ℕ))) (items : List Stored) → flat_map (own_status names wanted) items ≡ statuses (login_reports names wanted (kept_reports items))
statuses_are names wanted [] = refl
statuses_are names wanted (stored ∷ items) = ap (λ (bytes : List ℕ). own_status names wanted stored ++ bytes) (statuses_are names wanted items)
