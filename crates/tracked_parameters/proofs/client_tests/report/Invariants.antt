use Rattle.tracked_parameters.specs.Values.{Fit}
use Rattle.tracked_parameters.proofs.client_tests.report.Given as goal

-- a place for each name
abbrev pub invariant-loop-body : goal.invariant-loop-body
invariant-loop-body g l = Fit l.names l.server.current
