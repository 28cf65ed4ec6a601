use Rattle.tracked_parameters.proofs.ReportLemmas.{reported_at, reported_last}
use Rattle.tracked_parameters.proofs.reported.Reported.note.Goals as goal

pub returns-in-Some-clause-ok : goal.returns-in-Some-clause-ok
returns-in-Some-clause-ok c =
    reported_at c.self.inside.stored.items c.deref.result.now c.position.result c.in-Some.place c.in_ok-stored.stored _ _ c.deref.ensures.value c.position.ensures.found c.in-Some.is c.in_ok-stored.ensures c.self.view_is

pub returns-in_ok-push-in-None-clause-ok : goal.returns-in_ok-push-in-None-clause-ok
returns-in_ok-push-in-None-clause-ok c =
    reported_last c.self.inside.stored.items c.deref.result.now c.push.new.self.items c.position.result c.in_ok-stored.stored _ _ c.deref.ensures.value c.position.ensures.found c.in-None.is c.in_ok-stored.ensures c.self.view_is c.in_ok-push-in-None.ensures.items
