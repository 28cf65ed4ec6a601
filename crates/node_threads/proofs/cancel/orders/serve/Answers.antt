use Rattle.node_threads.proofs.CarryingLemmas.{carried-over}
use Rattle.node_threads.proofs.cancel.orders.serve.Goals as goal

pub returns-clause-finished : goal.returns-clause-finished
returns-clause-finished g c = (
  _,
  carried-over _ _ _ _ _ _ _ _ c.in-Ok.ensures.opened c.report_at_lock.ensures.carried,
  c.report_at_lock.ensures.finished,
)
