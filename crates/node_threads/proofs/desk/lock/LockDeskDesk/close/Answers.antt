use Rattle.std.proofs.Common.{refl}
use Rattle.link_pool.specs.Said.{close_said}
use Rattle.node_threads.proofs.Told.{said-counted}
use Rattle.node_threads.proofs.desk.lock.LockDeskDesk.close.Goals as goal

pub returns : goal.returns
returns g c = record {
  told = (
    refl,
    (
      close_said c.close-reply.result,
      said-counted close_said _ _ _ _ _ c.close-reply.ensures.counted,
    ),
  );
  took = tt;
}
