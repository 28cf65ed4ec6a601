use Rattle.std.proofs.Common.{◌≡◌, length}
use Rattle.pg_frames.proofs.CutLemmas.{Handed}
use Rattle.pg_frames.proofs.stream.hand_out.Given as goal

-- the frames handed out so far stood before what is left
abbrev pub invariant-ready : goal.invariant-ready
invariant-ready l =
    Handed l.initial.cutter.limit l.initial.cutter.bytes l.initial.frames.items l.cutter.bytes
    l.frames.items × (l.cutter.limit ≡ l.initial.cutter.limit)

abbrev pub decreases-ready : goal.decreases-ready
decreases-ready l = length l.cutter.bytes
