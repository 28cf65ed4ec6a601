use Rattle.std.proofs.Common.{◌∙◌, refl, sym, ap, subst}
use Rattle.std.specs.Arc.{arc_value}
use Rattle.tracked_links.specs.Heard.{HearingState, HasHeard}
use Rattle.tracked_links.proofs.HearingLemmas.{heard_more, heard_broken, heard_whole}
use Rattle.tracked_links.proofs.hearing.Hearing.hear_piece.Goals as goal

pub returns-in-More-clause-heard : goal.returns-in-More-clause-heard
returns-in-More-clause-heard c =
    λ before h. heard_more (arc_value c.self.inside.names) c.self.inside.server c.self.inside.incoming c.advance.new.self c.self.inside.stopped before c.args.piece.now
    (ap (λ (s : HearingState). s.stopped) c.self.view_is ∙ c.requires.going)
    (subst (λ (s : HearingState). HasHeard s before) (sym c.self.view_is) h)
    c.in-More.ensures.reaches (c.in-More.ensures.left refl)

pub returns-in-Broken-clause-heard : goal.returns-in-Broken-clause-heard
returns-in-Broken-clause-heard c =
    λ before h. heard_broken (arc_value c.self.inside.names) c.self.inside.server c.self.inside.incoming c.advance.new.self c.self.inside.stopped before c.args.piece.now
    (ap (λ (s : HearingState). s.stopped) c.self.view_is ∙ c.requires.going)
    (subst (λ (s : HearingState). HasHeard s before) (sym c.self.view_is) h)
    c.in-Broken.ensures.reaches

pub returns-in-Whole-clause-heard : goal.returns-in-Whole-clause-heard
returns-in-Whole-clause-heard c =
    λ before h. heard_whole (arc_value c.self.inside.names) c.deref.result.now c.self.inside.server c.hear_message.new.server c.self.inside.incoming c.advance.new.self c.restart.new.self c.self.inside.most c.self.inside.stopped before c.args.piece.now
    (ap (λ (s : HearingState). s.stopped) c.self.view_is ∙ c.requires.going) c.deref.ensures
    (subst (λ (s : HearingState). HasHeard s before) (sym c.self.view_is) h)
    c.in-Whole.ensures.reaches (c.in-Whole.ensures.head refl)
    (c.advance.ensures.limit ∙ c.self.invariant.limit_is)
    c.hear_message.ensures.hears
    c.restart.ensures.comes
