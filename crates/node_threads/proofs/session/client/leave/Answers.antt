use Rattle.node_threads.specs.Balance.{a_pass, nothing}
use Rattle.node_threads.proofs.Balancing.{moves_on, leave_moves, gone_moves}
use Rattle.node_threads.proofs.session.client.leave.Goals as goal

pub loop-preserved : goal.loop-preserved
loop-preserved g c =
    moves_on a_pass a_pass a_pass _ _ _ c.loop.invariant
    (leave_moves c.loop.pass _ _ _ _ _ c.in-Holding.ensures.counted)

pub returns-in-Left : goal.returns-in-Left
returns-in-Left g c = record {
  moves = moves_on a_pass a_pass nothing _ _ _ c.loop.invariant
      (gone_moves c.loop.pass c.leave.result _ _ _ _ c.in-Left.is c.leave.ensures.counted);
}
