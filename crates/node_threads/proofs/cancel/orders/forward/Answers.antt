use Rattle.node_threads.proofs.CarryingLemmas.{carried-over}
use Rattle.node_threads.proofs.cancel.orders.forward.Goals as goal

pub returns : goal.returns
returns g c = record {
  finished = (
    _,
    carried-over _ _ _ _ _ _ _ _ c.in-Ok.ensures.opened c.relay.ensures.carried,
    c.relay.ensures.finished,
  );
}
