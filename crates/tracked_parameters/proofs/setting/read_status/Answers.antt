use Rattle.std.proofs.Common.{◌∙◌, ◌==◌, ℕ, List, [], ◌∷◌, ◌++◌, length, sym, ap}
use Rattle.std.proofs.lemmas.Bool.{false≢true}
use Rattle.tracked_parameters.proofs.TextLemmas.{one_text, status_begins, always_none}
use Rattle.tracked_parameters.proofs.setting.read_status.Goals as goal

pub returns-in_err-value-clause-none : goal.returns-in_err-value-clause-none
returns-in_err-value-clause-none c =
    let found = c.in_ok-name.ensures.found in
    always_none c.from_residual-in_err-value.result (λ report is.
    let same = one_text report.name c.in_ok-name.name.now (report.value ++ 0 ∷ []) c.in_ok-name.rest.now is.name found.0 (sym (status_begins c.args.body.now report is) ∙ found.1) in
    c.in_err-value.ensures.none report.value [] is.value (sym same.1))

pub returns-then-not-is_empty-clause-none : goal.returns-then-not-is_empty-clause-none
returns-then-not-is_empty-clause-none c =
    let found = c.in_ok-name.ensures.found in
    let more = c.in_ok-value.ensures.found in
    λ report is.
    let same = one_text report.name c.in_ok-name.name.now (report.value ++ 0 ∷ []) c.in_ok-name.rest.now is.name found.0 (sym (status_begins c.args.body.now report is) ∙ found.1) in
    let last = one_text report.value c.in_ok-value.value.now [] c.in_ok-value.after.now is.value more.0 (same.1 ∙ more.1) in
    false≢true (c.if-not-is_empty.ensures ∙ ap (λ (xs : List ℕ). length xs == 0) (sym last.1))
