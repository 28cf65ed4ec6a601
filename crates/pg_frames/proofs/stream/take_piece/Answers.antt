use Rattle.std.proofs.Common.{◌≡◌, ap, None, Some, subst, rules}
use Rattle.pg_frames.specs.declared.error.FrameError.TheVariants.{Memory}
use Rattle.pg_frames.specs.FrameText.{HasFault}
use Rattle.pg_frames.proofs.CutLemmas.{piece_taken, told_fault}
use Rattle.pg_frames.proofs.stream.take_piece.Goals as goal

pub returns-in-Ok-clause-taken : goal.returns-in-Ok-clause-taken
returns-in-Ok-clause-taken c none =
    let judged = c.in-Ok.ensures.judged in
    piece_taken _ _ _ _ _ _ _ None c.in-Ok.ensures.limit c.in_ok-hand_out.ensures.handed (ap (λ p. p.bytes) c.in-Ok.ensures.ok)
    (subst (HasFault c.args.cutter.now.limit _) judged.2 judged.1)

pub returns-in-Err-2-clause-taken : goal.returns-in-Err-2-clause-taken
returns-in-Err-2-clause-taken c none =
    let other : c.in-Err-2.fault ≡ Memory → ⊥ = search rules in
    let judged = c.in-Err-2.ensures.judged in
    let told = told_fault _ _ other judged.2 in
    piece_taken _ _ _ _ _ _ _ (Some c.in-Err-2.fault) c.in-Err-2.ensures.limit c.in_ok-hand_out.ensures.handed
    (ap (λ p. p.bytes) (c.in-Err-2.ensures.first none (λ e. other cc))) (subst (HasFault c.args.cutter.now.limit _) told judged.1)
