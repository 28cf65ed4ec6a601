use Rattle.node_threads.proofs.Balancing.{close_moves}
use Rattle.node_threads.proofs.session.leases.take.Goals as goal

pub returns-clause-moves : goal.returns-clause-moves
returns-clause-moves g c =
    close_moves c.args.lease.details _ _ _ _ _ c.close-reply.ensures.counted
