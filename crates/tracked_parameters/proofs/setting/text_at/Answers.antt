use Rattle.tracked_parameters.proofs.TextLemmas.{text_before, no_text, always_none}
use Rattle.tracked_parameters.proofs.setting.text_at.Goals as goal

pub returns-in_err-end-clause-none : goal.returns-in_err-end-clause-none
returns-in_err-end-clause-none c =
    always_none c.from_residual.result (no_text c.args.bytes.now c.zero_at.result c.zero_at.ensures.place c.in_err-end.was)

pub returns-clause-found : goal.returns-clause-found
returns-clause-found c =
    text_before c.args.bytes.now c.zero_at.result c.in_ok-end.end c.zero_at.ensures.place c.in_ok-end.was
