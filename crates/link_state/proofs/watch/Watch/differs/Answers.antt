use Rattle.std.proofs.Common.{◌≡◌, ◌∙◌, List, ap, subst}
use Rattle.std.specs.List.{AllByRecursion}
use Rattle.std.proofs.lemmas.Option.{IfSome_then}
use Rattle.link_state.specs.Watch.{WatchedValue, WatchState}
use Rattle.link_state.specs.Watched.{all_seen, IsSame, IsChangeOf}
use Rattle.link_state.proofs.WatchLemmas.{none_then, says_same, says_change}
use Rattle.link_state.proofs.watch.Watch.differs.Goals as goal

all_is : (c : goal.After-first_change) → all_seen c.deref.result.now ≡ c.args.self.now.watched
all_is c = ap all_seen c.deref.ensures.value ∙ ap (λ (w : WatchState). w.watched) c.self.view_is

pub returns-clause-none : goal.returns-clause-none
returns-clause-none c =
    λ bytes frames rest h begins. none_then c.first_change.result _ _ c.first_change.ensures.none (λ same.
    says_same c.args.self.now bytes frames rest h begins (subst (AllByRecursion IsSame) (all_is c) same))

pub returns-clause-some : goal.returns-clause-some
returns-clause-some c =
    λ bytes frames rest h begins. IfSome_then c.first_change.result c.first_change.ensures.some (λ change is.
    says_change c.args.self.now bytes frames rest change h begins (subst (λ (all : List WatchedValue). IsChangeOf all change) (all_is c) is))

pub returns-then-not-self-clause-none : goal.returns-then-not-self-clause-none
returns-then-not-self-clause-none c =
    λ bytes frames rest h begins. says_same c.args.self.now bytes frames rest h begins
    (subst (AllByRecursion IsSame) (ap (λ (w : WatchState). w.watched) c.self.view_is) (c.self.invariant.same c.if-not-self.true))
