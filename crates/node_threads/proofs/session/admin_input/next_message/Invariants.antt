use Rattle.std.proofs.Common.{◌≡◌}
use Rattle.session_io.specs.StreamCalls.{SomeCalls}
use Rattle.node_threads.specs.ConsoleSession.{ReadsOn}
use Rattle.node_threads.proofs.session.admin_input.next_message.Given as goal

-- so far no message was whole
abbrev pub invariant-loop : goal.invariant-loop
invariant-loop g l = SomeCalls g.C.WriteCalls.wrote g.C.ReadCalls.gave l.fn.client l.client
    (λ calls. ReadsOn l.fn.cutter.limit l.fn.cutter.bytes calls l.cutter.bytes)
    × (l.cutter.limit ≡ l.fn.cutter.limit)
