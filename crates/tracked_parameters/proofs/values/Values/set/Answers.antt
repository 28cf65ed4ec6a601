use Rattle.std.proofs.Common.{arith}
use Rattle.tracked_parameters.proofs.ValueLemmas.{texts_set, kept_set, kept_unset}
use Rattle.tracked_parameters.proofs.values.Values.set.Goals as goal

pub invariant_of-self : goal.invariant_of-self
invariant_of-self c =
    texts_set c.set.result c.self.inside.values.items c.args.place c.index_mut.result.now c.set.new.self c.args.value.now c.self.invariant c.requires.text (λ i. omega (arith, c.type_inv.value i)) c.index_mut.ensures.value c.set.ensures.ok c.set.ensures.err

pub returns-clause-ok : goal.returns-clause-ok
returns-clause-ok c =
    kept_set c.set.result c.self.inside.values.items c.args.place c.set.new.self c.args.value.now _ c.self.view_is c.set.ensures.ok

pub returns-clause-err : goal.returns-clause-err
returns-clause-err c =
    kept_unset c.set.result c.self.inside.values.items c.args.place c.index_mut.result.now c.set.new.self _ c.self.view_is c.index_mut.ensures.value c.set.ensures.err
