use Rattle.link_state.proofs.ValueLemmas.{value_absent, value_behind}
use Rattle.link_state.proofs.value.value_in.Goals as goal

pub returns-in_default : goal.returns-in_default
returns-in_default c =
    value_absent c.as_bytes.result.now c.args.name.now c.args.body.now c.as_bytes.ensures.value c.in_default.ensures.cases

pub returns : goal.returns
returns c =
    let cases = c.in-Some.ensures.cases in
    value_behind c.as_bytes.result.now c.args.name.now c.args.body.now c.in-Some.rest.now _ c.as_bytes.ensures.value cases.0 cases.1 c.value_after.ensures
