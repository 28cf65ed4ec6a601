use Rattle.std.proofs.Common.{◌∙◌}
use Rattle.std.proofs.lemmas.Result.{IfOk-weaker}
use Rattle.answer.proofs.AllFaultLemmas.{told_by}
use Rattle.answer.proofs.explained.append_of_whole.Goals as goal

pub returns : goal.returns
returns c =
    IfOk-weaker c.append_told.result _ _
    (λ _ h. told_by _ _ _ _ c.whole_cause.result.now h (c.as_str.ensures.value ∙ c.in_ok-line.ensures))
    c.append_told.ensures
