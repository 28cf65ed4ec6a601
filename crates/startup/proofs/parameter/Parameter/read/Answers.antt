use Rattle.std.proofs.Common.{◌∙◌, sym}
use Rattle.startup.proofs.ParameterLemmas.{always_none, first_text, empty}
use Rattle.startup.proofs.parameter.Parameter.read.Goals as goal

pub returns-then-is_empty-clause-none : goal.returns-then-is_empty-clause-none
returns-then-is_empty-clause-none c =
    let found = c.in_ok-name.ensures.found in
    λ p after is spelled.
    let same = first_text c.args.bytes.now p after c.in_ok-name.name.now c.in_ok-name.rest.now is spelled found.0 found.1 in
    is.named (same.0 ∙ empty c.in_ok-name.name.now c.if-is_empty.ensures)

pub returns-in_err-value-clause-none : goal.returns-in_err-value-clause-none
returns-in_err-value-clause-none c =
    let found = c.in_ok-name.ensures.found in
    always_none c.from_residual-in_err-value.result (λ p after is spelled.
    let same = first_text c.args.bytes.now p after c.in_ok-name.name.now c.in_ok-name.rest.now is spelled found.0 found.1 in
    c.in_err-value.ensures.none p.value after is.value (sym same.1))
