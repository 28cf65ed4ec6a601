use Rattle.std.proofs.Common.{arith}
use Rattle.startup.proofs.FieldLemmas.{field_read, no_field}
use Rattle.startup.proofs.ParameterLemmas.{always_none}
use Rattle.startup.proofs.fields.field_at.Goals as goal

pub returns-in_err-end-clause-none : goal.returns-in_err-end-clause-none
returns-in_err-end-clause-none c =
    always_none c.from_residual-in_err-end.result
    (no_field c.args.bytes.now c.in_ok-kind.rest.now c.in_ok-kind.kind.now c.zero_at.result
    c.in_ok-kind.ensures.cases.0 c.zero_at.ensures.place c.in_err-end.was)

pub returns-clause-found : goal.returns-clause-found
returns-clause-found c =
    field_read c.args.bytes.now c.in_ok-kind.rest.now c.in_ok-kind.kind.now c.in_ok-end.end
    c.zero_at.result c.in_ok-kind.ensures.cases.0 (λ e. omega (arith, e, c.if-kind-eq0.false)) c.zero_at.ensures.place c.in_ok-end.was
