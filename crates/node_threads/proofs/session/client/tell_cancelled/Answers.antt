use Rattle.std.proofs.Common.{◌∙◌, refl}
use Rattle.node_threads.proofs.ServingLemmas.{told_cancelled, told_cancelled_some, told_cancelled_less}
use Rattle.node_threads.proofs.session.client.tell_cancelled.Goals as goal

pub returns-then-not-write_whole : goal.returns-then-not-write_whole
returns-then-not-write_whole g c =
    told_cancelled_less _ _ _ _ _ _ (c.as_slice.ensures ∙ c.in-Ok.ensures) c.nothing-then-not-write_whole.ensures
    (c.if-not-write_whole.ensures.stopped refl)

pub returns-then-write_whole : goal.returns-then-write_whole
returns-then-write_whole g c =
    told_cancelled _ _ _ _ _ _ _ (c.as_slice.ensures ∙ c.in-Ok.ensures)
    (c.as_slice-2.ensures ∙ c.ready-ready.ensures)
    (c.if-not-write_whole.ensures.whole refl) (c.if-write_whole.ensures.whole refl)

pub returns : goal.returns
returns g c =
    told_cancelled_some _ _ _ _ _ _ _ _ (c.as_slice.ensures ∙ c.in-Ok.ensures)
    (c.as_slice-2.ensures ∙ c.ready-ready.ensures) c.nothing-else-write_whole.ensures
    (c.if-not-write_whole.ensures.whole refl) (c.if-write_whole.ensures.stopped refl)
