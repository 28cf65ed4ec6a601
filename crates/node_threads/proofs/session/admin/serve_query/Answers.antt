use Rattle.std.proofs.Common.{◌∙◌, [], inl, inr, refl, ap}
use Rattle.pg_frames.specs.FrameText.{texts}
use Rattle.node_threads.proofs.ConsoleLemmas.{takes_reply}
use Rattle.node_threads.proofs.session.admin.serve_query.Goals as goal

pub returns-in_default-texts-clause-takes : goal.returns-in_default-texts-clause-takes
returns-in_default-texts-clause-takes g c settings is =
    let asks = c.in-Some.ensures.some in ([], refl, inr (asks.0, asks.1, inl refl))

pub returns-clause-takes : goal.returns-clause-takes
returns-clause-takes g c settings is =
    takes_reply _ _ _ _ settings _ c.args.body.now c.in-Some.query.now c.as_slice.result.now
    c.in-Ok.frames.items c.write_whole.result c.in-Some.ensures.some
    (c.in-Ok.ensures.reply settings is)
    (c.as_slice.ensures.value ∙ c.in-Ok-texts.ensures ∙ ap texts c.deref.ensures.value)
    c.write_whole.ensures.whole c.write_whole.ensures.stopped
