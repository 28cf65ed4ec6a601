use Rattle.std.proofs.Common.{sym, ap}
use Rattle.node_threads.specs.Serving.{end_of}
use Rattle.node_threads.proofs.Balancing.{close_moves, handed_in_moves, goes_on_as_at_start}
use Rattle.node_threads.proofs.ServingLemmas.{spoilt, rides, rides_on}
use Rattle.node_threads.proofs.session.client.ride.Goals as goal

pub returns-then-not-is_at_start-clause-moves : goal.returns-then-not-is_at_start-clause-moves
returns-then-not-is_at_start-clause-moves g c =
    close_moves c.args.lease.details _ _ _ _ _ c.close-reply.ensures.counted

pub returns-then-not-is_at_start-clause-comes : goal.returns-then-not-is_at_start-clause-comes
returns-then-not-is_at_start-clause-comes g c =
    spoilt _ _ _ _ c.args.lease c.args.request c.lost.result c.args.cutter.now.bytes _ _ _
    c.close-reply.ensures.counted c.lost.ensures

pub returns-in-Release : goal.returns-in-Release
returns-in-Release g c = record {
  moves = handed_in_moves c.take_turn-stayed.result c.args.lease.details _ _
      c.take_turn-stayed.ensures.carries.2.told;
  session = λ none. goes_on_as_at_start _ c.take_turn-stayed.result c.args.session.now _
      c.args.session.now.database c.in-Release.is c.take_turn-stayed.ensures.session
      c.requires.session;
  limit = c.take_turn-stayed.ensures.limit;
  comes = rides_on _ _ _ _ _ c.args.lease c.args.request c.args.cutter.now.bytes _
      c.take_turn-stayed.result _ _ c.take_turn-stayed.ensures.carries c.in-Release.is;
}

pub returns-in-End-clause-moves : goal.returns-in-End-clause-moves
returns-in-End-clause-moves g c =
    handed_in_moves c.take_turn-stayed.result c.args.lease.details _ _
    c.take_turn-stayed.ensures.carries.2.told

pub returns-in-End-clause-comes : goal.returns-in-End-clause-comes
returns-in-End-clause-comes g c =
    rides _ _ _ _ _ c.args.lease c.args.request c.args.cutter.now.bytes _
    c.take_turn-stayed.result _ _ _ c.take_turn-stayed.ensures.carries
    (sym (ap end_of c.in-End.is))
