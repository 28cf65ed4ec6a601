use Rattle.session_io.proofs.LoginLemmas.{Coming}
use Rattle.session_io.proofs.login.server.read_login.Given as goal

-- so far the server's messages were read up to this place
abbrev pub invariant-loop : goal.invariant-loop
invariant-loop g l = Coming l.fn.link.flow.limit g.L.WriteCalls.wrote g.L.ReadCalls.gave
    l.fn.link.stream l.place l.login
    l.link.flow l.link.stream
