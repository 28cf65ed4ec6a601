use Rattle.tracked_parameters.proofs.ValueLemmas.{kept_none, kept_unknown, taken}
use Rattle.tracked_parameters.proofs.values.Values.adopt_at.Goals as goal

pub returns-then-is_none-clause-ok : goal.returns-then-is_none-clause-ok
returns-then-is_none-clause-ok c =
    kept_none c.args.self.now c.args.present.now c.args.place c.at.result c.at.ensures.value c.if-is_none.ensures

pub returns-in_default-clause-ok : goal.returns-in_default-clause-ok
returns-in_default-clause-ok c =
    kept_unknown c.args.self.now c.args.present.now c.args.place c.at-2.result c.at-2.ensures.value c.in_default.is

pub returns-clause-ok : goal.returns-clause-ok
returns-clause-ok c =
    taken c.set.result c.args.self.now c.args.present.now c.set.new.self c.args.place c.at.result c.at-2.result c.in-Some.value c.at.ensures.value c.if-is_none.ensures c.at-2.ensures.value c.in-Some.is c.set.ensures.ok
