use Rattle.std.proofs.Common.{map, List, sym, subst}
use Rattle.std.proofs.Math.ListN.{set}
use Rattle.node_core.specs.View.{NodeView}
use Rattle.world.specs.World.{IsNode}
use Rattle.world.specs.Changes.{Steps}
use Rattle.world.specs.Facts.{AreWhole}
use Rattle.world.proofs.Cores.{stepped, kept_on}
use Rattle.world.proofs.nodes.Nodes.step.Goals as goal

pub invariant_of-self : goal.invariant_of-self
invariant_of-self g c =
    kept_on (λ core. core.view) c.self.inside.cores.items c.args.node c.in-Some.place c.in-Some.ensures.found.0 c.index_mut.result.now
    c.make-reply.new.core c.index.result.now (g.C.Step.exchange c.args.made c.make-reply.result) c.self.invariant
    (subst (λ (ns : List NodeView). IsNode ns c.args.node c.in-Some.place c.in-Some.ensures.found.0) (sym c.self.view_is) c.in-Some.ensures.found.1)
    c.index_mut.ensures.value c.make-reply.ensures c.index.ensures c.known.ensures

pub returns-clause-step : goal.returns-clause-step
returns-clause-step g c =
    subst (λ (ns : List NodeView). Steps c.args.node (g.C.Step.exchange c.args.made c.make-reply.result) ns
    (map (λ core. core.view) (set c.self.inside.cores.items c.in-Some.place c.make-reply.new.core))) c.self.view_is
    (stepped (λ core. core.view) c.self.inside.cores.items c.args.node c.in-Some.place c.in-Some.ensures.found.0 c.index_mut.result.now
    c.make-reply.new.core (g.C.Step.exchange c.args.made c.make-reply.result)
    (subst (λ (ns : List NodeView). IsNode ns c.args.node c.in-Some.place c.in-Some.ensures.found.0) (sym c.self.view_is) c.in-Some.ensures.found.1)
    c.index_mut.ensures.value c.make-reply.ensures)

pub returns-clause-whole : goal.returns-clause-whole
returns-clause-whole g c = subst AreWhole c.self.view_is c.self.invariant.whole
