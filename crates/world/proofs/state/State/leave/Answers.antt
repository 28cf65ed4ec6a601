use Rattle.std.proofs.Common.{subst, ⊎_elim}
use Rattle.node_core.specs.declared.exchange.{LeaveReply.LeaveReply, Exchange.Exchange}
use Rattle.lease.specs.declared.pass.PassRecord.{PassRecord}
use Rattle.world.specs.Changes.{Steps}
use Rattle.world.proofs.Possible.{session_node}
use Rattle.world.proofs.Asked.{never_stays}
use Rattle.world.proofs.state.State.leave.Goals as goal

pub leave-requires : goal.leave-requires
leave-requires c =
    let f = rw (← c.self.view_is) at c.requires in
    let is = rw (← c.self.view_is) at c.in-Some.ensures.found in
    record { has = session_node _ f c.in-Some.idle.place c.in-Some.idle.session is.there }

pub unreachable-requires : goal.unreachable-requires
unreachable-requires c =
    let f = rw (← c.self.view_is) at c.requires in
    let is = rw (← c.self.view_is) at c.in-Some.ensures.found in
    let s = c.in-Some.idle.session in
    ⊎_elim
    (λ holding. never_stays _ f c.in-Some.idle.place s c.leave.new.self holding.0 is.there
    c.in-Some.ensures.stays c.in-Some.ensures.hand
    (subst (λ (r : LeaveReply PassRecord). Steps s.node (Exchange.Leave s.pass r) c.self.inside.nodes c.leave.new.self)
    holding.1 c.leave.ensures))
    (λ exhausted. (subst (λ (r : LeaveReply PassRecord). Steps s.node (Exchange.Leave s.pass r) c.self.inside.nodes c.leave.new.self)
    exhausted c.leave.ensures).step)
    c.in-Holding.is
