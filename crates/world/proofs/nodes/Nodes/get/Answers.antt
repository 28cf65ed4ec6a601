use Rattle.std.proofs.Common.{subst}
use Rattle.world.specs.Facts.{AreApart, AreWhole}
use Rattle.world.proofs.Cores.{node_lent, node_there}
use Rattle.world.proofs.nodes.Nodes.get.Goals as goal

pub returns-in_err-place-clause-whole : goal.returns-in_err-place-clause-whole
returns-in_err-place-clause-whole c = subst AreWhole c.self.view_is c.self.invariant.whole

pub returns-clause-found : goal.returns-clause-found
returns-clause-found c =
    node_lent (λ core. core.view) c.self.inside.cores.items c.deref.result.now c.args.node c.in_ok-place.field-0 c.in_ok-place.ensures.found.0
    c.args.self.now c.get.result c.self.view_is c.deref.ensures.value c.in_ok-place.ensures.found.1 c.get.ensures.lookup.1

pub returns-clause-none : goal.returns-clause-none
returns-clause-none c =
    node_there _ (λ core. core.view) c.self.inside.cores.items c.deref.result.now c.args.node c.in_ok-place.field-0 c.in_ok-place.ensures.found.0
    c.args.self.now c.get.result c.self.view_is c.deref.ensures.value c.in_ok-place.ensures.found.1 c.get.ensures.lookup.0

pub returns-clause-whole : goal.returns-clause-whole
returns-clause-whole c = subst AreWhole c.self.view_is c.self.invariant.whole

pub returns-in_err-place-clause-apart : goal.returns-in_err-place-clause-apart
returns-in_err-place-clause-apart c = subst AreApart c.self.view_is c.self.invariant.apart

pub returns-clause-apart : goal.returns-clause-apart
returns-clause-apart c = subst AreApart c.self.view_is c.self.invariant.apart
