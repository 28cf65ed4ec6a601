use Rattle.std.proofs.Common.{ap, subst, sym}
use Rattle.node_threads.specs.Balance.{Hand, Moves, nothing}
use Rattle.node_threads.specs.Leasing.{hand_of}
use Rattle.node_threads.proofs.Balancing.{close_moves}
use Rattle.node_threads.proofs.session.leases.unless_gone.Goals as goal

pub returns-else-is_of-clause-moves : goal.returns-else-is_of-clause-moves
returns-else-is_of-clause-moves g c =
    subst (λ (h : Hand). Moves h c.args.caller.now nothing c.close-closed.new.caller)
    (sym (ap hand_of c.in-Lease.is))
    (close_moves c.in-Lease.lease.details _ _ _ _ _ c.close-closed.ensures.counted)
