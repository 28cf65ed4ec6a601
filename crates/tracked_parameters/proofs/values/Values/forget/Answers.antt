use Rattle.tracked_parameters.proofs.UpdateLemmas.{kept_forgotten, texts_forgotten}
use Rattle.tracked_parameters.proofs.values.Values.forget.Goals as goal

pub invariant_of-self : goal.invariant_of-self
invariant_of-self c = texts_forgotten c.self.inside.values.items c.args.place c.forget.new.self c.self.invariant c.forget.ensures

pub returns : goal.returns
returns c = kept_forgotten c.self.inside.values.items c.args.place c.forget.new.self c.args.self.now c.self.view_is c.forget.ensures
