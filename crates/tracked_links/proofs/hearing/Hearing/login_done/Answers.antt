use Rattle.std.proofs.Common.{sym, subst}
use Rattle.std.specs.Arc.{arc_value}
use Rattle.tracked_links.specs.Heard.{HearingState, HasHeard}
use Rattle.tracked_links.proofs.HearingLemmas.{login_done_hears}
use Rattle.tracked_links.proofs.hearing.Hearing.login_done.Goals as goal

pub returns-clause-heard : goal.returns-clause-heard
returns-clause-heard c =
    λ before h. login_done_hears c.login_done.result (arc_value c.self.inside.names) c.self.inside.server c.login_done.new.self c.self.inside.incoming c.self.inside.stopped before
    c.login_done.ensures.ok c.login_done.ensures.err
    (subst (λ (s : HearingState). HasHeard s before) (sym c.self.view_is) h)
