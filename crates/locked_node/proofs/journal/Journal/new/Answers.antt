use Rattle.std.proofs.Common.{[], refl, sym, subst}
use Rattle.locked_node.specs.Replay.{Replay}
use Rattle.locked_node.specs.Journal.{IsTallyOf}
use Rattle.locked_node.proofs.Histories.{tally_none}
use Rattle.locked_node.proofs.journal.Journal.new.Goals as goal

pub invariant_of-result : goal.invariant_of-result
invariant_of-result g c = record {
  past = [];
  first = c.args.core.view;
  base = c.args.core.view;
  before = refl;
  after = subst (λ t. Replay c.args.core.view t c.args.core.view) (sym c.in_ok-log.ensures.tail) refl;
  totals = subst (λ t. IsTallyOf t c.in_ok-log.log.totals) (sym c.in_ok-log.ensures.tail) (tally_none c.in_ok-log.log.totals c.in_ok-log.ensures.totals);
}
