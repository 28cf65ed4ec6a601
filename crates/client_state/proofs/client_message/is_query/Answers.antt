use Rattle.std.proofs.Common.{◌∙◌, sym, ap}
use Rattle.client_state.specs.Text.{is_one_string}
use Rattle.client_state.proofs.RequestLemmas.{query_is}
use Rattle.client_state.proofs.client_message.is_query.Goals as goal

pub returns-in-Some : goal.returns-in-Some
returns-in-Some c is =
    query_is c.args.limit c.args.bytes.now c.in-Some.head c.in-Some.ensures.some.0
    c.if-head-eq81.true c.if-head-bytes.true
    (ap is_one_string (sym c.split_at.ensures.back) ∙ sym c.is_one_string.ensures ∙ is)
