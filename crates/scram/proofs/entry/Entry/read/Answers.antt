use Rattle.std.proofs.Common.{sym, ◌∙◌}
use Rattle.scram.specs.Entry.{method}
use Rattle.scram.proofs.PartsLemmas.{same_rest}
use Rattle.scram.proofs.entry.Entry.read.Goals as goal

pub returns-in_default : goal.returns-in_default
returns-in_default c = λ begins. c.in_default.ensures begins.0 begins.1

pub returns-in-None : goal.returns-in-None
returns-in-None c =
    let none = rw c.in-None.is at c.in_ok-entry.ensures in
    ((c.in-Some.rest.now, c.in-Some.ensures), λ kept is spelled. none kept is (same_rest method _ _ (sym c.in-Some.ensures ∙ spelled)))
