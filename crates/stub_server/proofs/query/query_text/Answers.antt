use Rattle.std.proofs.Common.{◌∙◌, sym, subst}
use Rattle.std.proofs.lemmas.Bool.{false≢true}
use Rattle.startup.specs.StartupMessage.{HasNoZero}
use Rattle.stub_server.proofs.QueryLemmas.{same_ends, no_zero_found}
use Rattle.stub_server.proofs.query.query_text.Goals as goal
use Rattle.stub_server.proofs.query.query_text.Goals.{else-last-eq0-via-then-last-eq0+else-not-contains, else-last-eq0-via-else-last-eq0}

pub returns-else-last-eq0-clause-none : goal.returns-else-last-eq0-clause-none
returns-else-last-eq0-clause-none c text query =
    let ends = same_ends c.in_ok-last.text.now text c.in_ok-last.last.now 0
    (sym c.in_ok-last.ensures.cases.0 ∙ c.as_slice.ensures ∙ query.body) in
    elim c.else-last-eq0.branch [
      | else-last-eq0-via-then-last-eq0+else-not-contains w ↦
          let no_zero = subst HasNoZero (sym ends.0) query.no_zero in
          let none = no_zero_found c.in_ok-last.text.now no_zero in
          false≢true (sym none ∙ sym w.contains.ensures.value ∙ w.if-not-contains.false)
      | else-last-eq0-via-else-last-eq0 w ↦ w.if-last-eq0.false ends.1
    ]
