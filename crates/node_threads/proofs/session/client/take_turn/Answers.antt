use Rattle.std.proofs.Common.{rules}
use Rattle.node_threads.proofs.ServingLemmas.{carried}
use Rattle.node_threads.proofs.session.client.take_turn.Goals as goal

pub returns-clause-carries : goal.returns-clause-carries
returns-clause-carries g c =
    let stays = c.turn.ensures.stay in
    carried _ _ _ c.args.session.now.limit c.args.lease.stream.flow c.args.lease.details _
    stays.0.stream _ _ c.args.request c.args.cutter.now.bytes _ c.turn.result _ _
    c.requires.at_start c.requires.limit stays.1 (search rules)
