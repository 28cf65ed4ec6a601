use Rattle.std.proofs.Common.{◌∙◌, Some, ap}
use Rattle.startup.proofs.ReportLemmas.{appended, without_key, with_short_key, with_long_key}
use Rattle.startup.proofs.replies.write_login.Goals as goal

pub returns-in-Some-Short-clause-ok : goal.returns-in-Some-Short-clause-ok
returns-in-Some-Short-clause-ok c =
    appended _ _ _ _ _ c.append.ensures.ok
    (with_short_key _ _ _ c.in-Some-Short.key _ c.messages-messages.ensures.text c.to_bytes.ensures (c.in-Some-Short.is ∙ ap Some c.in-Some-Short.field-0-is))

pub returns-in-Some-Long-clause-ok : goal.returns-in-Some-Long-clause-ok
returns-in-Some-Long-clause-ok c =
    appended _ _ _ _ _ c.append-in-Some-Long.ensures.ok
    (with_long_key _ _ _ c.in-Some-Long.key c.in-Some-Long.part _ _ c.messages-messages.ensures.text c.to_bytes-in-Some-Long.ensures c.to_bytes-in-Some-Long-2.ensures (c.in-Some-Long.is ∙ ap Some c.in-Some-Long.field-0-is))

pub returns-in-None-clause-ok : goal.returns-in-None-clause-ok
returns-in-None-clause-ok c =
    appended _ _ _ _ _ c.append-in-None.ensures.ok
    (without_key _ _ _ c.messages-messages.ensures.text c.in-None.is)
