use Rattle.std.proofs.Common.{subst}
use Rattle.node_core.specs.declared.exchange.Exchange.{Exchange}
use Rattle.node_core.specs.NodeStep.{Asked}
use Rattle.world.specs.Changes.{Steps}
use Rattle.world.proofs.Possible.{session_node}
use Rattle.world.proofs.Asked.{never_holds, got_process, got_rest}
use Rattle.world.proofs.state.State.acquire.Goals as goal

pub acquire-requires : goal.acquire-requires
acquire-requires c =
    let f = rw (← c.self.view_is) at c.requires in
    let is = rw (← c.self.view_is) at c.in-Some.ensures.found in
    record { has = session_node _ f c.in-Some.idle.place c.in-Some.idle.session is.there }

pub process_of-at-requires : goal.process_of-at-requires
process_of-at-requires c =
    let f = rw (← c.self.view_is) at c.requires in
    got_process _ f c.acquire.ensures.whole c.in-Some.idle.session c.in-Got.lease c.acquire.new.self
    c.in-Got.ensures.step

pub hold-requires : goal.hold-requires
hold-requires c =
    let f = rw (← c.self.view_is) at c.requires in
    let leased = c.process_of-at.ensures in
    record {
      there = (
        leased.0,
        leased.1.there,
        got_rest _ f c.in-Some.idle.session c.in-Got.lease c.acquire.new.self c.process_of-at.result leased.0
            c.in-Got.ensures.step leased.1,
      );
    }

pub unreachable-requires : goal.unreachable-requires
unreachable-requires c =
    let f = rw (← c.self.view_is) at c.requires in
    let is = rw (← c.self.view_is) at c.in-Some.ensures.found in
    let s = c.in-Some.idle.session in
    never_holds _ f c.in-Some.idle.place s c.acquire.new.self is.there c.in-Some.ensures.stays
    c.in-Some.ensures.hand
    (subst (λ (r : Asked). Steps s.node (Exchange.Acquire s.pass r) c.self.inside.nodes c.acquire.new.self)
    c.in-Holding.is c.acquire.ensures.step)
