use Rattle.std.proofs.Common.{subst}
use Rattle.tracked_parameters.specs.Values.{AreTexts}
use Rattle.tracked_parameters.proofs.ValueLemmas.{lent_text, read_at}
use Rattle.tracked_parameters.proofs.values.Values.at.Goals as goal

pub returns-clause-text : goal.returns-clause-text
returns-clause-text c =
    lent_text c.args.self.now c.args.place c.get.result (subst AreTexts c.self.view_is c.self.invariant)
    (read_at c.self.inside.values.items c.args.self.now c.args.place c.index.result.now c.get.result c.self.view_is c.requires c.index.ensures c.get.ensures)
