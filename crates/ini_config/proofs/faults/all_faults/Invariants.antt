use Rattle.ini_config.specs.Surveyed.{surveyed}
use Rattle.ini_config.proofs.Surveys.{SurveyLeft}
use Rattle.ini_config.proofs.faults.all_faults.Given as goal

abbrev pub invariant-loop-line : goal.invariant-loop-line
invariant-loop-line l = record {
  can : (goal.iterator-loop-line).can_next l.line-iterator;
  ends : (goal.iterator-loop-line).is_finite l.line-iterator;
  lines : SurveyLeft l.text (surveyed l.survey) l.number l.line-iterator;
}
