use Rattle.std.proofs.Common.{◌≡◌, slice_get}
use Rattle.std.specs.Arc.{arc_value}
use Rattle.std.specs.Option.{ForSome}
use Rattle.node_threads.proofs.ConsoleLemmas.{Answering}
use Rattle.node_threads.proofs.session.admin.serve_queries.Given as goal

-- so far queries were answered, and no step was counted
abbrev pub invariant-loop : goal.invariant-loop
invariant-loop g l = (l.caller ≡ l.fn.caller)
    × ForSome (slice_get (arc_value l.fn.node.group) l.fn.node.place)
    (λ settings. Answering l.fn.cutter.limit g.C.WriteCalls.wrote g.C.ReadCalls.gave settings
    l.fn.caller l.fn.client l.fn.cutter.bytes l.client l.cutter.bytes)
    × (l.cutter.limit ≡ l.fn.cutter.limit)
