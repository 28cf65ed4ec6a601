use Rattle.startup.proofs.FieldLemmas.{passes, has_first, has_none}
use Rattle.startup.proofs.fields.error_field.Goals as goal

pub returns-then-found-kind-clause-found : goal.returns-then-found-kind-clause-found
returns-then-found-kind-clause-found c =
    (c.loop-found.invariant c.in-Some.text.now).0
    (has_first c.loop-found.rest.now c.in-Some.found c.args.kind c.in-Some.text.now
    c.in-Some.after.now c.if-found-kind.true c.in-Some.ensures.found)

pub loop-found-preserved : goal.loop-found-preserved
loop-found-preserved c text =
    let before = c.loop-found.invariant text in
    let step = passes c.loop-found.rest.now c.in-Some.after.now c.in-Some.found c.args.kind
    c.in-Some.text.now c.in-Some.ensures.found c.if-found-kind.false text in
    (λ has. before.0 (step.0 has), λ has. step.1 (before.1 has))

pub returns-clause-none : goal.returns-clause-none
returns-clause-none c text has =
    has_none c.loop-found.rest.now c.args.kind c.in_default.ensures.none text
    ((c.loop-found.invariant text).1 has)
