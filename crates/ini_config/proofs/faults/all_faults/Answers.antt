use Rattle.std.proofs.Common.{ℕ, ◌+◌, List, [], Bor, map, sym, ap, subst, ◌∙◌}
use Rattle.std.specs.Str.Iter.{lines_rest}
use Rattle.std.specs.Str.Lines.{lines}
use Rattle.ini_config.specs.declared.faults.WholeFault.{WholeFault}
use Rattle.ini_config.specs.Faults.{AreFaults, whole_faults}
use Rattle.ini_config.specs.Surveyed.{Surveyed, surveyed, line_faults_seen}
use Rattle.ini_config.proofs.Surveys.{SurveyLeft, all_left, next_line, no_line, no_faults}
use Rattle.ini_config.proofs.faults.all_faults.Goals as goal

pub loop-line-init : goal.loop-line-init
loop-line-init c = record {
  can = tt;
  ends = tt;
  lines = subst (λ (s : Surveyed). SurveyLeft c.args.text.now s 0 c.into_iter-line-iterator.result)
      (sym c.new-survey.ensures) (all_left c.args.text.now c.into_iter-line-iterator.result
      (ap lines_rest c.into_iter-line-iterator.ensures.into_iter_gives
      ∙ c.lines-line-items.ensures.rest));
}

pub loop-line-preserved : goal.loop-line-preserved
loop-line-preserved c =
    let next = next_line c.args.text.now (surveyed c.loop-line.survey) c.loop-line.number
    c.loop-line.line-iterator c.next.new.self c.in-Some.line c.loop-line.invariant.lines
    c.in-Some.ensures.steps in
    record {
      can = tt;
      ends = tt;
      lines = subst (λ (s : Surveyed). SurveyLeft c.args.text.now s (c.loop-line.number + 1)
          c.next.new.self) (sym c.in_ok-take_line.ensures) next.goes;
    }

pub returns : goal.returns
returns c =
    let s = surveyed c.loop-line.survey in
    let whole = c.in_ok-whole.ensures
    ∙ ap (λ (t : List (Bor (List ℕ))). whole_faults (map (λ line. line.now) t) s.given)
    c.deref.ensures.value in
    let all = subst (λ (w : List WholeFault). AreFaults [] (lines c.args.text.now) s.faults w)
    (sym whole) (no_line c.args.text.now s c.loop-line.number c.loop-line.line-iterator
    c.next.new.self c.loop-line.invariant.lines c.in-None.ensures.steps) in
    record {
      faults = all;
      accepted = λ none nothing. no_faults c.args.text.now s.faults c.in_ok-whole.whole.items all
          (ap line_faults_seen none) nothing;
    }
