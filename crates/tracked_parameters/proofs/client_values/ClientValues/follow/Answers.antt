use Rattle.std.proofs.Common.{◌∙◌, length, ap}
use Rattle.tracked_parameters.proofs.ClientLemmas.{follows}
use Rattle.tracked_parameters.proofs.client_values.ClientValues.follow.Goals as goal

pub returns-clause-has : goal.returns-clause-has
returns-clause-has c =
    follows c.update.result c.update.new.self c.self.inside.values c.args.server.now.login c.args.server.now.current c.current.result.now c.current.ensures.values c.current.ensures.places.login
    (ap length c.self.view_is ∙ c.requires.fit) c.update.ensures.ok
