use Rattle.std.proofs.Common.{◌≤◌, ◌-◌, length, drop}
use Rattle.peer_forward.proofs.WritingLemmas.{WritesTo}
use Rattle.peer_forward.proofs.writing.write_rest.Given as goal

-- the writes so far leave the rest
abbrev pub invariant-loop-taken : goal.invariant-loop-taken
invariant-loop-taken g l = (l.taken ≤ length l.bytes)
    × WritesTo g.T.WriteCalls.wrote g.T.ReadCalls.gave l.fn.stream l.bytes (drop l.taken l.bytes)
    l.stream

-- the rest grows shorter
abbrev pub decreases-loop-taken : goal.decreases-loop-taken
decreases-loop-taken g l = length l.bytes - l.taken
