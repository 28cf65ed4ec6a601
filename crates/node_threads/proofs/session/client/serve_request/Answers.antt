use Rattle.std.proofs.Common.{◌∙◌, ap}
use Rattle.client_state.specs.Session.{Session}
use Rattle.node_threads.proofs.ServingLemmas.{request_served_at, request_left}
use Rattle.node_threads.proofs.session.client.serve_request.Goals as goal

pub returns-in-Err-clause-serves : goal.returns-in-Err-clause-serves
returns-in-Err-clause-serves g c =
    request_left _ _ _ c.args.session.now.limit _ _ _ c.in-Err.end c.args.cutter.now.bytes _ _
    c.requires.limit c.in-Err.ensures.asks

pub returns-then-not-try_leave-clause-serves : goal.returns-then-not-try_leave-clause-serves
returns-then-not-try_leave-clause-serves g c =
    request_served_at _ _ _ c.args.session.now.limit _ _ _ _ c.database-database.result _
    c.acquire-acquired.result c.in-Ok.request c.serve_acquired-end.result c.args.cutter.now.bytes _
    _ _ _ _ (c.database-database.ensures ∙ ap (λ (s : Session). s.database) c.in-Ok.ensures.session)
    c.requires.limit c.in-Ok.ensures.asks
    c.acquire-acquired.ensures.answer c.acquire-acquired.ensures.database
    c.acquire-acquired.ensures.moves c.serve_acquired-end.ensures.comes

pub returns-else-not-try_leave-clause-serves : goal.returns-else-not-try_leave-clause-serves
returns-else-not-try_leave-clause-serves g c =
    request_served_at _ _ _ c.args.session.now.limit _ _ _ _ c.database-database.result _
    c.acquire-acquired.result c.in-Ok.request c.serve_acquired-end.result c.args.cutter.now.bytes _
    _ _ _ _ (c.database-database.ensures ∙ ap (λ (s : Session). s.database) c.in-Ok.ensures.session)
    c.requires.limit c.in-Ok.ensures.asks
    c.acquire-acquired.ensures.answer c.acquire-acquired.ensures.database
    c.acquire-acquired.ensures.moves c.serve_acquired-end.ensures.comes
