use Rattle.std.proofs.Common.{◌∙◌, sym}
use Rattle.node_threads.proofs.ConnectionLemmas.{serves_some, serves_none}
use Rattle.node_threads.proofs.connection.serve_session.Goals as goal

pub returns-clause-served : goal.returns-clause-served
returns-clause-served g c =
    serves_some _ _ _ _ _ c.args.node.now.secrets _ c.in-Some.database _ c.args.kind _ _
    (sym c.find_database.ensures ∙ c.in-Some.is) c.secret-secret.ensures
    c.serve_client.ensures.served

pub returns-in_default-clause-served : goal.returns-in_default-clause-served
returns-in_default-clause-served g c =
    serves_none _ _ _ _ _ c.args.node.now.secrets _ c.args.kind c.args.cutter.now.bytes _
    (sym c.find_database.ensures ∙ c.in_default.is) c.refuse.ensures.said
