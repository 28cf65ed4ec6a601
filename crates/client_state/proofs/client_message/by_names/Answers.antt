use Rattle.std.proofs.Common.{sym, ◌∙◌}
use Rattle.client_state.proofs.MessageLemmas.{named_empty}
use Rattle.client_state.proofs.client_message.by_names.Goals as goal

pub returns-then-begins_empty : goal.returns-then-begins_empty
returns-then-begins_empty c =
    named_empty c.args.count c.args.body.now (sym c.begins_empty.ensures ∙ c.if-begins_empty.true)
