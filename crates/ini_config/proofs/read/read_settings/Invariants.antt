use Rattle.ini_config.specs.View.{given_seen}
use Rattle.ini_config.proofs.LineLemmas.{LinesLeft}
use Rattle.ini_config.proofs.read.read_settings.Given as goal

abbrev pub invariant-loop-line : goal.invariant-loop-line
invariant-loop-line l = record {
  can : (goal.iterator-loop-line).can_next l.line-iterator;
  ends : (goal.iterator-loop-line).is_finite l.line-iterator;
  lines : LinesLeft l.text (given_seen l.draft) l.number l.line-iterator;
}
