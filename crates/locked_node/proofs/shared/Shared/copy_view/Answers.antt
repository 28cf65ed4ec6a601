use Rattle.std.proofs.Common.{IfOk, subst}
use Rattle.std.proofs.lemmas.Result.{IfOk-weaker}
use Rattle.locked_node.specs.Totals.{calls_at}
use Rattle.locked_node.specs.Journal.{CountsWithin}
use Rattle.locked_node.specs.Lock.{CallerView}
use Rattle.locked_node.proofs.Stepping.{copy_counts}
use Rattle.locked_node.proofs.shared.Shared.copy_view.Goals as goal

pub returns-clause-numbers : goal.returns-clause-numbers
returns-clause-numbers g c =
    subst (λ (o : CallerView). IfOk c.copy-view.result (λ view. CountsWithin (calls_at o.tally) view)) c.caller.view_is
    (IfOk-weaker c.copy-view.result _ _ (λ view h. copy_counts c.caller.inside _ view c.caller.invariant c.take.ensures.took.took h) c.copy-view.ensures.view)
