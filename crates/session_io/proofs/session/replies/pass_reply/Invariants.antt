use Rattle.std.proofs.Common.{◌≡◌}
use Rattle.session_io.proofs.PassingLemmas.{Passing}
use Rattle.session_io.proofs.session.replies.pass_reply.Given as goal

-- so far the reply was read and passed on, and the session is as it was
abbrev pub invariant-loop : goal.invariant-loop
invariant-loop g l = Passing l.fn.link.flow.limit g.L.WriteCalls.wrote g.L.ReadCalls.gave
    g.C.WriteCalls.wrote
    g.C.ReadCalls.gave l.fn.link.stream l.fn.client l.fn.link.flow.bytes l.place l.link.flow
    l.link.stream l.client × (l.session ≡ l.fn.session)
