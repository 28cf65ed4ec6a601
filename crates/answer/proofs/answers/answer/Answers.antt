use Rattle.std.proofs.Common.{refl}
use Rattle.answer.proofs.WritingLemmas.{answers_fault}
use Rattle.answer.proofs.answers.answer.Goals as goal

pub returns-in-Err : goal.returns-in-Err
returns-in-Err g c = answers_fault _ _ _ _ c.in-Err.fault c.write_fault.result
    c.in-Err.ensures.fault c.write_fault.ensures refl
