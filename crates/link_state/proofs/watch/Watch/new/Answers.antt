use Rattle.std.proofs.Common.{ℕ, List, ◌++◌, ◌∷◌, [], sym, subst}
use Rattle.std.specs.List.{AllByRecursion}
use Rattle.link_state.specs.declared.watched.Watched.{Watched}
use Rattle.link_state.specs.Watch.{encoding}
use Rattle.link_state.specs.Watched.{all_seen, Suffices}
use Rattle.link_state.proofs.WatchLemmas.{new_told, new_seen, fresh_same}
use Rattle.link_state.proofs.watch.Watch.new.Goals as goal

pub returns-clause-told : goal.returns-clause-told
returns-clause-told c =
    new_told (all_seen c.in_ok-watched.watched.items) (c.args.reports.now ++ encoding ∷ []) c.in_ok-watched.ensures

pub returns-clause-seen : goal.returns-clause-seen
returns-clause-seen c =
    new_seen (all_seen c.in_ok-watched.watched.items) (c.args.reports.now ++ encoding ∷ []) c.in_ok-incoming.incoming c.in_ok-watched.ensures c.in_ok-incoming.ensures.comes

pub invariant_of-result : goal.invariant_of-result
invariant_of-result c = record {
  enough = subst (λ (n : ℕ). AllByRecursion (Suffices n) (all_seen c.in_ok-watched.watched.items)) (sym c.in_ok-incoming.ensures.limit)
      (subst (λ (all : List Watched). AllByRecursion (Suffices c.limit_of.result) (all_seen all)) c.deref.ensures.value c.limit_of.ensures.enough);
  awaits = λ _. c.in_ok-incoming.ensures.left;
  same = λ _. fresh_same (all_seen c.in_ok-watched.watched.items) (c.args.reports.now ++ encoding ∷ []) c.in_ok-watched.ensures;
}
