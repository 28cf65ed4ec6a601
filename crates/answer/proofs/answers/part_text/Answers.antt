use Rattle.std.proofs.Common.{◌∙◌, append_assoc}
use Rattle.std.proofs.lemmas.Result.{IfOk-weaker}
use Rattle.answer.proofs.answers.part_text.Goals as goal

pub returns : goal.returns
returns c =
    IfOk-weaker c.format.result _ _ (λ text h. h
    ∙ rw (c.in-Some.is, c.get-boot.ensures, c.get-serial.ensures) (simp append_assoc))
    c.format.ensures.ok
