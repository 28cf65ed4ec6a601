use Rattle.std.proofs.Common.{◌≡◌}
use Rattle.client_state.specs.Acts.{start}
use Rattle.node_threads.specs.Balance.{Balanced}
use Rattle.node_threads.specs.Meaning.{meaning_of, moment}
use Rattle.node_threads.proofs.ServingLemmas.{Serving}
use Rattle.node_threads.proofs.session.client.serve_pass.Given as goal

-- so far requests were served, and between two of them nothing but the pass is held
abbrev pub invariant-loop : goal.invariant-loop
invariant-loop g l = Balanced l.fn.caller l.caller
    × (l.session ≡ start l.fn.service.limit.now l.fn.database)
    × Serving (meaning_of g.O.Opener g.O.Stream.WriteCalls g.O.Stream.ReadCalls l.fn.service)
    g.C.WriteCalls.wrote g.C.ReadCalls.gave
    (record { pass = l.fn.pass; database = l.fn.database }) l.fn.client l.client
    (moment l.fn.cutter.bytes l.fn.caller) (moment l.cutter.bytes l.caller)
    × (l.cutter.limit ≡ l.fn.service.limit.now)
