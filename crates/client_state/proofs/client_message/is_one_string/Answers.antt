use Rattle.client_state.proofs.TextLemmas.{after_zero, after_other}
use Rattle.client_state.proofs.client_message.is_one_string.Goals as goal

pub returns-then-last-eq0 : goal.returns-then-last-eq0
returns-then-last-eq0 c =
    after_zero _ _ _ _ c.in-Some.ensures.cases.0 c.if-last-eq0.true c.contains.ensures.value

pub returns-else-last-eq0 : goal.returns-else-last-eq0
returns-else-last-eq0 c =
    after_other _ _ _ c.in-Some.ensures.cases.0 c.if-last-eq0.false
