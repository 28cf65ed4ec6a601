use Rattle.std.proofs.Common.{◌∙◌, ap}
use Rattle.std.specs.Arc.{arc_value}
use Rattle.tracked_parameters.specs.Server.{new_server}
use Rattle.tracked_links.proofs.HearingLemmas.{new_heard}
use Rattle.tracked_links.proofs.hearing.Hearing.new.Goals as goal

pub returns-clause-heard : goal.returns-clause-heard
returns-clause-heard c =
    new_heard (arc_value c.args.names) c.in_ok-server.server c.in_ok-incoming.incoming (c.in_ok-server.ensures.server ∙ ap new_server c.deref.ensures) c.in_ok-incoming.ensures.comes
