use Rattle.std.proofs.Common.{◌+◌, inl, inr, Err, sym, ap, subst, ◌∙◌}
use Rattle.std.specs.Str.Iter.{lines_rest}
use Rattle.std.proofs.lemmas.Result.{err_from_is_err_and}
use Rattle.ini_config.specs.Settings.{Given, line_given}
use Rattle.ini_config.specs.View.{given_seen}
use Rattle.ini_config.proofs.LineLemmas.{LinesLeft, all_left, next_line, no_line, in_line-Ok, in_line-Err, settings_of-stops, settings_of-result}
use Rattle.ini_config.proofs.read.read_settings.Goals as goal

pub loop-line-init : goal.loop-line-init
loop-line-init c = record {
  can = tt;
  ends = tt;
  lines = subst (λ (g : Given). LinesLeft c.args.text.now g 0 c.into_iter-line-iterator.result) (sym c.new-draft.ensures) (all_left c.args.text.now c.into_iter-line-iterator.result (ap lines_rest c.into_iter-line-iterator.ensures.into_iter_gives ∙ c.lines-line-items.ensures.rest));
}

pub loop-line-preserved : goal.loop-line-preserved
loop-line-preserved c =
    let g = given_seen c.loop-line.draft in
    let next = next_line c.args.text.now g c.loop-line.number c.loop-line.line-iterator c.next.new.self c.in-Some.line c.loop-line.invariant.lines c.in-Some.ensures.steps in
    let given = in_line-Ok (λ _. given_seen c.take_line.new.self) (c.loop-line.number + 1) c.take_line.result (line_given g c.trimmed.result.now) c.in_ok-in_line.field-0 (sym c.in_line.ensures ∙ c.in_ok-in_line.was) c.take_line.ensures.gives in
    record { can = tt; ends = tt; lines = next.goes (given_seen c.take_line.new.self) (ap (line_given g) (sym c.trimmed.ensures) ∙ given) }

pub returns-in_err-in_line : goal.returns-in_err-in_line
returns-in_err-in_line c =
    let p = err_from_is_err_and c.from_residual.result c.from_residual.ensures.1 in
    let g = given_seen c.loop-line.draft in
    let fault = c.in_err-in_line.field-0.0 in
    let next = next_line c.args.text.now g c.loop-line.number c.loop-line.line-iterator c.next.new.self c.in-Some.line c.loop-line.invariant.lines c.in-Some.ensures.steps in
    let refused = in_line-Err (λ _. given_seen c.take_line.new.self) (c.loop-line.number + 1) c.take_line.result (line_given g c.trimmed.result.now) fault (sym c.in_line.ensures ∙ c.in_err-in_line.was) c.take_line.ensures.gives in
    rw (p.1, p.2)
    (elim refused [
      | inl memory ↦ inl memory
      | inr said ↦ inr (settings_of-stops c.args.text.now fault (next.stops said.0 (ap (line_given g) (sym c.trimmed.ensures) ∙ said.1) ∙ ap Err said.2))
    ])

pub returns : goal.returns
returns c =
    let g = given_seen c.loop-line.draft in
    settings_of-result c.args.text.now g c.settings.result c.in_line-2.result (no_line c.args.text.now g c.loop-line.number c.loop-line.line-iterator c.next.new.self c.loop-line.invariant.lines c.in-None.ensures.steps) c.in_line-2.ensures c.settings.ensures
