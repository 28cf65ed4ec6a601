use Rattle.std.proofs.lemmas.Result.{IfOk-weaker}
use Rattle.answer.proofs.AllFaultLemmas.{tells_both}
use Rattle.answer.proofs.explained.append_faults.Goals as goal

pub returns : goal.returns
returns c =
    rw (c.deref.ensures.value, c.deref-2.ensures.value) at
    (IfOk-weaker c.append_whole.result _ _
    (λ _ h. tells_both c.args.file.now _ _ _ _ _ c.in_ok-append_lines.ensures h)
    c.append_whole.ensures)
