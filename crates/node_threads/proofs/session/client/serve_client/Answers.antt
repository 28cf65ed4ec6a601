use Rattle.node_threads.specs.Balance.{nothing, a_pass}
use Rattle.node_threads.proofs.Balancing.{join_moves, moves_on, moves_beside}
use Rattle.node_threads.proofs.ServingLemmas.{client_served, client_refused}
use Rattle.node_threads.proofs.session.client.serve_client.Goals as goal

pub returns-in_default : goal.returns-in_default
returns-in_default g c = record {
  balanced = join_moves c.args.database c.args.secret c.args.kind _ _ _ _ _
      c.in_default.ensures.counted;
  served = client_refused _ _ _ _ _ _ c.join.result c.args.cutter.now.bytes _ _ c.in_default.not-Ok c.join.ensures.counted c.refuse.ensures.said;
}

pub returns : goal.returns
returns g c = record {
  balanced = moves_on nothing a_pass nothing _ _ _
      (join_moves c.args.database c.args.secret c.args.kind _ _ _ _ _ c.in-Ok.ensures.counted)
      (moves_on a_pass a_pass nothing _ _ _
      (moves_beside a_pass nothing nothing _ _ c.serve_pass-end.ensures.balanced)
      c.leave.ensures.moves);
  served = client_served _ _ _ _ _ _ _ c.in-Ok.pass c.serve_pass-end.result c.as_slice.result.now c.args.cutter.now.bytes _ _ _ _ _
      c.write_whole.result
      c.in-Ok.ensures.counted c.serve_pass-end.ensures.stays c.leave.ensures.moves
      c.as_slice.ensures c.write_whole.ensures.whole c.write_whole.ensures.stopped;
}
