use Rattle.std.proofs.Common.{◌≡◌}
use Rattle.session_io.proofs.AskingLemmas.{Awaiting}
use Rattle.session_io.proofs.session.requests.next_request.Given as goal

-- so far messages were gathered, and no request is whole
abbrev pub invariant-loop : goal.invariant-loop
invariant-loop g l = Awaiting l.fn.session.limit g.C.WriteCalls.wrote g.C.ReadCalls.gave l.fn.client
    l.fn.session.leased l.fn.session.database l.fn.cutter.bytes l.session l.cutter.bytes l.client
    × (l.cutter.limit ≡ l.fn.session.limit)
