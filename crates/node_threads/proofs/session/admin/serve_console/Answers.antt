use Rattle.std.proofs.Common.{◌∙◌, slice_get, ap}
use Rattle.std.specs.Arc.{arc_value}
use Rattle.node_threads.proofs.ConsoleLemmas.{console_served}
use Rattle.node_threads.proofs.session.admin.serve_console.Goals as goal

pub returns-then-greet-clause-served : goal.returns-then-greet-clause-served
returns-then-greet-clause-served g c settings is =
    console_served _ _ _ c.args.reports.now settings _ _ _ _ c.args.cutter.now.bytes _
    c.greet.result c.if-greet.true c.greet.ensures
    (c.serve_queries.ensures.queries settings
    (ap (λ n. slice_get (arc_value n.group) n.place) c.deref.ensures ∙ is))
