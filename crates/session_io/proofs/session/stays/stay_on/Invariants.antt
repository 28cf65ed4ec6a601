use Rattle.std.proofs.Common.{◌≡◌, None, []}
use Rattle.session_io.proofs.StayLemmas.{Staying}
use Rattle.session_io.proofs.session.stays.stay_on.Given as goal

-- so far there were rounds; the session asks again, and the link is between two frames
abbrev pub invariant-loop : goal.invariant-loop
invariant-loop g l = Staying l.fn.session.limit g.L.WriteCalls.wrote g.L.ReadCalls.gave
    g.C.WriteCalls.wrote g.C.ReadCalls.gave l.fn.link.stream l.fn.client l.fn.request
    l.fn.link.flow.bytes l.fn.cutter.bytes l.request l.link.flow.bytes l.cutter.bytes l.link.stream
    l.client × (l.session ≡ l.fn.session) × (l.link.flow.left ≡ None) × (l.link.flow.passed ≡ [])
    × (l.link.flow.limit ≡ l.fn.session.limit) × (l.cutter.limit ≡ l.fn.session.limit)
