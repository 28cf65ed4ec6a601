use Rattle.std.proofs.Common.{◌∙◌, ◌++◌, sym, ap}
use Rattle.pg_frames.specs.FrameText.{text}
use Rattle.node_threads.proofs.ConsoleLemmas.{texts_next, texts_all}
use Rattle.node_threads.proofs.session.admin_replies.texts.Goals as goal

pub loop-frame-preserved : goal.loop-frame-preserved
loop-frame-preserved c =
    c.in-Ok.ensures.ok ∙ ap (λ xs. xs ++ text c.frame-item.result) c.loop-frame.invariant
    ∙ sym (texts_next c.args.frames.now c.loop-frame.frame-index c.frame-item.result
    c.loop-frame-test.true c.frame-item.is)

pub returns : goal.returns
returns c =
    texts_all c.args.frames.now c.loop-frame.frame-index _ c.loop-frame-test.false
    c.loop-frame.invariant
