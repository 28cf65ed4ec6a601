use Rattle.std.proofs.Common.{List, sym, subst}
use Rattle.std.proofs.lemmas.Option.{IfSome_then}
use Rattle.link_state.specs.declared.watched.Watched.{Watched}
use Rattle.link_state.specs.Watched.{seen, all_seen, IsChangeOf}
use Rattle.link_state.proofs.WatchLemmas.{change_here, change_later}
use Rattle.link_state.proofs.watched_list.+first_change.Goals as goal

pub returns-in-Some-difference-clause-some : goal.returns-in-Some-difference-clause-some
returns-in-Some-difference-clause-some t c =
    let change = c.in-Some-difference.change in
    let some = c.in-Some-difference.ensures.some in
    subst (λ (xs : List Watched). IsChangeOf (all_seen xs) change) (sym c.in-Some.ensures.cases.0)
    (change_here (seen c.in-Some.one.now) (all_seen c.in-Some.more.now) change some.0 some.1 some.2 some.3)

pub returns-in-None-clause-some : goal.returns-in-None-clause-some
returns-in-None-clause-some t c =
    IfSome_then c.first_change.result c.first_change.ensures.some (λ change is.
    subst (λ (xs : List Watched). IsChangeOf (all_seen xs) change) (sym c.in-Some.ensures.cases.0)
    (change_later (seen c.in-Some.one.now) (all_seen c.in-Some.more.now) change is))
