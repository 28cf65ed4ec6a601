use Rattle.std.proofs.Common.{refl, ◌∙◌}
use Rattle.session_io.proofs.OpeningLemmas.{wrote_error}
use Rattle.session_io.proofs.SendingLemmas.{sends, sends_error}
use Rattle.session_io.proofs.login.refusal.refuse.Goals as goal

pub returns-clause-written : goal.returns-clause-written
returns-clause-written g c =
    wrote_error _ _ _ _ c.args.code _ c.as_slice.result.now c.write_whole.result refl
    (c.as_slice.ensures ∙ c.in-Ok.ensures) c.write_whole.ensures.whole c.write_whole.ensures.stopped

pub returns-clause-said : goal.returns-clause-said
returns-clause-said g c =
    sends_error _ _ _ _ c.args.code c.as_slice.result.now (c.as_slice.ensures ∙ c.in-Ok.ensures)
    (sends _ _ _ _ c.as_slice.result.now c.write_whole.result c.write_whole.ensures.whole
    c.write_whole.ensures.stopped)
