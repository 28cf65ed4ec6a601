use Rattle.session_io.proofs.OpeningLemmas.{Underway}
use Rattle.session_io.proofs.login.first_packets.open.Given as goal

-- so far requests for encryption were answered
abbrev pub invariant-loop : goal.invariant-loop
invariant-loop g l = Underway (record {
  wrote = g.C.WriteCalls.wrote;
  gave = g.C.ReadCalls.gave;
  saw = g.C.Requester.saw;
  refused = g.C.Arrival.refused;
}) l.fn.client l.opening l.text.items l.client
