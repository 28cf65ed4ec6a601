use Rattle.tracked_parameters.proofs.NameLemmas.{names_after}
use Rattle.tracked_parameters.proofs.names.TrackedNames.put.Goals as goal

pub invariant_of-self : goal.invariant_of-self
invariant_of-self c =
    names_after c.put.result c.put.new.names.items c.self.inside.names.items _ c.args.name.now c.self.invariant c.self.view_is c.requires c.put.ensures.ok (c.put.ensures.err)
