use Rattle.std.proofs.Common.{◌≡◌, ◌∙◌, ◌≢◌, List, ℕ, sym, subst}
use Rattle.std.specs.List.{AllByRecursion}
use Rattle.std.specs.Str.{IsUtf8}
use Rattle.startup.proofs.BodyLemmas.{one_text}
use Rattle.startup.proofs.ParameterLemmas.{always_none, no_text, split_at, cut, respelled}
use Rattle.startup.proofs.parameter.text_at.Goals as goal

pub returns-in_err-end-clause-none : goal.returns-in_err-end-clause-none
returns-in_err-end-clause-none c =
    always_none c.from_residual.result (no_text c.args.bytes.now c.zero_at.result c.zero_at.ensures.place c.in_err-end.was)

pub returns-in-Ok-clause-found : goal.returns-in-Ok-clause-found
returns-in-Ok-clause-found c =
    let split = split_at c.args.bytes.now c.in_ok-end.end c.zero_at.result c.zero_at.ensures.place c.in_ok-end.was in
    let parts = cut c.args.bytes.now c.in_ok-end.end split in
    let is = c.in-Ok.ensures.cases in
    let front : c.in-Ok.text.now ≡ split.front = is.0 ∙ parts.0 in
    (record { utf8 = subst (λ (t : List ℕ). IsUtf8 t) (sym is.0) is.1; no_zero = subst (λ (t : List ℕ). AllByRecursion (λ byte. byte ≢ 0) t) (sym front) split.no_zero }, respelled c.args.bytes.now split.front _ split.after _ split.spelled front parts.1)

pub returns-in-Err-clause-none : goal.returns-in-Err-clause-none
returns-in-Err-clause-none c =
    let split = split_at c.args.bytes.now c.in_ok-end.end c.zero_at.result c.zero_at.ensures.place c.in_ok-end.was in
    let parts = cut c.args.bytes.now c.in_ok-end.end split in
    λ text after is spelled. let same = one_text text split.front after split.after is.no_zero split.no_zero (sym spelled ∙ split.spelled) in
    c.in-Err.ensures.cases.0 (subst (λ (t : List ℕ). IsUtf8 t) (same.0 ∙ sym parts.0) is.utf8)
