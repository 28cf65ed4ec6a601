use Rattle.std.proofs.Common.{[], refl, arith}
use Rattle.locked_node.proofs.Stepping.{makes, caller_keeps, caller_counts}
use Rattle.locked_node.proofs.shared.Shared.call.Goals as goal

pub invariant_of-caller : goal.invariant_of-caller
invariant_of-caller g c =
    let call = g.C.Call.exchange (g.C.Call.handed c.args.call) c.make-reply.result in
    caller_keeps _ _ _
    (makes _ _ _ _ call (omega arith) c.take.ensures.own c.make-reply.ensures.own c.pass_on.ensures.own
    c.take.ensures.took.took c.make-reply.ensures.calls c.pass_on.ensures.given refl (c.add.ensures call c.make-reply.ensures.count))
    c.caller.invariant

pub returns-clause-counted : goal.returns-clause-counted
returns-clause-counted g c =
    let call = g.C.Call.exchange (g.C.Call.handed c.args.call) c.make-reply.result in
    (caller_counts c.caller.inside (record { seat = c.pass_on.new.seat; allowance = _; tally = _; note = c.make-reply.new.note }) _ _ _ _ c.caller.view_is
    (makes _ _ _ _ call (omega arith) c.take.ensures.own c.make-reply.ensures.own c.pass_on.ensures.own
    c.take.ensures.took.took c.make-reply.ensures.calls c.pass_on.ensures.given refl (c.add.ensures call c.make-reply.ensures.count)))

pub returns-then-caller-eq0-clause-streams : goal.returns-then-caller-eq0-clause-streams
returns-then-caller-eq0-clause-streams g c = ([], [], c.forfeit.ensures.streams [])
