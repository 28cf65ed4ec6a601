use Rattle.std.proofs.Common.{ℕ, ◌∙◌, ◌++◌, Option, None, sym, ap, subst}
use Rattle.std.specs.Result.{result_err}
use Rattle.pg_frames.specs.declared.error.FrameError.{FrameError}
use Rattle.pg_frames.specs.FrameText.{HasFault}
use Rattle.pg_frames.specs.Passage.{Passage, after, fed}
use Rattle.pg_frames.specs.Parts.{SoFar, Drained}
use Rattle.pg_frames.proofs.FlowLemmas.{so_far_fed, so_far_fault, drained_from, fault_of_answer}
use Rattle.pg_frames.proofs.parts.take_some.Goals as goal

pub returns : goal.returns
returns c limit stream drained =
    let pieces = c.args.pieces.now.items in
    let piece = c.args.piece.now in
    let judged = c.feed-answer.ensures.judged in
    let limit_is = drained.so_far.limit_is in
    let stands =
    subst (λ (n : ℕ). HasFault n (after c.args.flow.now) None) (sym limit_is) drained.stands in
    let now_stands =
    subst (λ (n : ℕ). HasFault n (after (fed c.args.flow.now piece)) judged.0) limit_is judged.1 in
    let so_far = so_far_fed _ stream piece pieces c.args.flow.now drained.so_far in
    let has =
    so_far_fault _ (stream ++ piece) pieces (fed c.args.flow.now piece) judged.0 so_far
    now_stands in
    let there =
    subst (λ (p : Passage). SoFar limit (stream ++ piece) pieces p)
    (sym (c.feed-answer.ensures.taken stands)) so_far in
    let handed = c.in_ok-hand_out.ensures limit (stream ++ piece) there in
    let here =
    drained_from _ (stream ++ piece) c.hand_out.new.pieces.items c.hand_out.new.flow judged.0
    handed.0 handed.1 has in
    let forgot =
    subst (λ (p : Passage). Drained limit (stream ++ piece) c.hand_out.new.pieces.items p judged.0)
    (sym c.forget_all.ensures) here in
    let told = c.err.ensures.value ∙ ap result_err judged.2 ∙ fault_of_answer judged.0 in
    subst (λ (fault : Option FrameError). Drained limit (stream ++ piece) c.hand_out.new.pieces.items
    c.forget_all.new.flow fault) (sym told) forgot
