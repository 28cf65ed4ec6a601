use Rattle.link_state.proofs.FirstErrorLemmas.{passes, is_first, holds_none}
use Rattle.link_state.proofs.server_errors.first_error.Goals as goal

pub returns-then-kind-eq69-clause-found : goal.returns-then-kind-eq69-clause-found
returns-then-kind-eq69-clause-found c =
    (c.loop-kind.invariant c.in-Some.message.now).0
    (is_first c.loop-kind.rest.now c.in-Some.message.now c.in-Some.after.now c.in-Some.kind
    c.if-kind-eq69.true c.in-Some.ensures.found)

pub loop-kind-preserved : goal.loop-kind-preserved
loop-kind-preserved c error =
    let before = c.loop-kind.invariant error in
    let step = passes c.loop-kind.rest.now c.in-Some.message.now c.in-Some.after.now c.in-Some.kind
    c.in-Some.ensures.found c.if-kind-eq69.false error in
    (λ is. before.0 (step.0 is), λ is. step.1 (before.1 is))

pub returns-clause-none : goal.returns-clause-none
returns-clause-none c error is =
    holds_none c.loop-kind.rest.now c.in_default.ensures.none error
    ((c.loop-kind.invariant error).1 is)
