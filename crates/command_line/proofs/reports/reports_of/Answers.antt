use Rattle.std.proofs.Common.{◌∙◌, inl, inr}
use Rattle.std.proofs.lemmas.Result.{err_from_is_err_and}
use Rattle.command_line.proofs.ReportLemmas.{reports_more, reports_refused, reports_done}
use Rattle.command_line.proofs.reports.reports_of.Goals as goal

-- a text is refused
pub returns-in_err-add_text : goal.returns-in_err-add_text
returns-in_err-add_text c =
    let p = err_from_is_err_and c.from_residual.result c.from_residual.ensures.1 in
    rw (p.1, p.2)
    (elim c.in_err-add_text.ensures [
      | inl memory ↦ inl memory
      | inr none ↦ inr (c.loop-text.invariant ∙ reports_refused c.loop-text.reports c.args.texts.now
          c.loop-text.text-index _ c.loop-text-test.true none)
    ])

pub loop-text-preserved : goal.loop-text-preserved
loop-text-preserved c = c.loop-text.invariant ∙ reports_more c.loop-text.reports
    c.add_text.new.reports c.args.texts.now c.loop-text.text-index _ c.loop-text-test.true
    c.in_ok-add_text.ensures

pub returns : goal.returns
returns c = c.loop-text.invariant ∙ reports_done c.loop-text.reports c.args.texts.now
    c.loop-text.text-index c.loop-text-test.false
