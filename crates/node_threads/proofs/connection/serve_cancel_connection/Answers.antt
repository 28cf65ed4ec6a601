use Rattle.std.proofs.Common.{inr}
use Rattle.node_threads.proofs.connection.serve_cancel_connection.Goals as goal

pub returns-clause-served : goal.returns-clause-served
returns-clause-served g c = inr (_, _, c.serve_cancel.ensures.served)
