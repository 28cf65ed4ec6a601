use Rattle.std.proofs.Common.{◌∙◌, ℕ, List, map, refl, sym, ap, subst}
use Rattle.std.specs.List.{AllByRecursion}
use Rattle.link_state.specs.Watch.{WatchedValue, WatchState, HasSeen, told_one, told_of}
use Rattle.link_state.specs.Watched.{all_seen, noted, Suffices}
use Rattle.link_state.proofs.WatchLemmas.{seen_more, seen_broken, seen_whole, noted_told, noted_enough}
use Rattle.link_state.proofs.watch.Watch.read_piece.Goals as goal

pub invariant_of-self-in-Whole : goal.invariant_of-self-in-Whole
invariant_of-self-in-Whole c = record {
  enough = subst (AllByRecursion (Suffices c.restart.new.self.limit)) (sym c.judge_message-self-inside.ensures.noted)
      (subst (λ (n : ℕ). AllByRecursion (Suffices n) (noted c.advance.new.self.front.items (all_seen c.self.inside.watched.items))) (sym c.restart.ensures.limit)
      (noted_enough c.advance.new.self.limit c.advance.new.self.front.items (all_seen c.self.inside.watched.items)
      (subst (λ (n : ℕ). AllByRecursion (Suffices n) (all_seen c.self.inside.watched.items)) (sym c.advance.ensures.limit) c.self.invariant.enough)));
  awaits = λ _. c.restart.ensures.left;
  same = c.judge_message-self-inside.ensures.same;
}

pub returns-in-More-clause-seen : goal.returns-in-More-clause-seen
returns-in-More-clause-seen c =
    λ before h. seen_more (all_seen c.self.inside.watched.items) c.self.inside.incoming c.advance.new.self c.self.inside.stopped before c.args.piece.now
    (ap (λ (w : WatchState). w.stopped) c.self.view_is ∙ c.requires.going)
    (subst (λ (w : WatchState). HasSeen w before) (sym c.self.view_is) h)
    c.in-More.ensures.reaches (c.in-More.ensures.left refl)

pub returns-in-Broken-clause-seen : goal.returns-in-Broken-clause-seen
returns-in-Broken-clause-seen c =
    λ before h. seen_broken (all_seen c.self.inside.watched.items) c.self.inside.incoming c.advance.new.self c.self.inside.stopped before c.args.piece.now
    (ap (λ (w : WatchState). w.stopped) c.self.view_is ∙ c.requires.going)
    (subst (λ (w : WatchState). HasSeen w before) (sym c.self.view_is) h)
    c.in-Broken.ensures.reaches

pub returns-in-Whole-clause-seen : goal.returns-in-Whole-clause-seen
returns-in-Whole-clause-seen c =
    λ before h. seen_whole (all_seen c.self.inside.watched.items) (all_seen c.judge_message-self-inside.new.watched.items) c.self.inside.incoming c.advance.new.self c.restart.new.self c.self.inside.stopped before c.args.piece.now
    (ap (λ (w : WatchState). w.stopped) c.self.view_is ∙ c.requires.going)
    c.judge_message-self-inside.ensures.noted
    (subst (λ (w : WatchState). HasSeen w before) (sym c.self.view_is) h)
    c.in-Whole.ensures.reaches (c.in-Whole.ensures.head refl)
    (subst (λ (n : ℕ). AllByRecursion (Suffices n) (all_seen c.self.inside.watched.items)) (sym c.advance.ensures.limit) c.self.invariant.enough)
    c.advance.new.self.head c.restart.ensures.comes

pub returns-in-Whole-clause-told : goal.returns-in-Whole-clause-told
returns-in-Whole-clause-told c =
    ap (λ (all : List WatchedValue). map told_one all) c.judge_message-self-inside.ensures.noted
    ∙ noted_told c.advance.new.self.front.items (all_seen c.self.inside.watched.items)
    ∙ ap told_of c.self.view_is
