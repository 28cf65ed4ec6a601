use Rattle.std.proofs.Common.{◌∙◌, sym}
use Rattle.tracked_links.proofs.HearingLemmas.{message_status, message_other}
use Rattle.tracked_links.proofs.heard_status.hear_message.Goals as goal

pub returns-clause-hears : goal.returns-clause-hears
returns-clause-hears c =
    λ kind whole kept. message_status kind c.args.names.now whole c.args.server.now c.hear_status.new.server (kept.kind_is ∙ c.in-Some.ensures.some.0)
    (c.hear_status.ensures.hears whole (c.in-Some.ensures.some.1 ∙ kept.body_is))

pub returns-in_default-clause-hears : goal.returns-in_default-clause-hears
returns-in_default-clause-hears c =
    λ kind whole kept. message_other kind c.args.names.now whole c.args.server.now (λ e. c.in_default.ensures.none c.requires.head (sym kept.kind_is ∙ e))
