use Rattle.std.proofs.Common.{[], ◌∷◌}
use Rattle.session_io.proofs.CallLists.{ReadToEnd-failed}
use Rattle.session_io.proofs.login.refused.read_text.Goals as goal

pub returns-then-count-eq0-clause-none : goal.returns-then-count-eq0-clause-none
returns-then-count-eq0-clause-none g c same =
    let none = c.read_some-count.ensures.none c.if-count-eq0.true in
    (none.0 ∷ [], none.1, ReadToEnd-failed none.0 none.2)
