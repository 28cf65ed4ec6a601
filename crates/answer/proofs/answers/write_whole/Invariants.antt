use Rattle.std.proofs.Common.{◌≤◌, length, take, drop}
use Rattle.std.specs.Io.KnownBytes.{Appends}
use Rattle.answer.specs.Printing.{Writes, change}
use Rattle.answer.proofs.answers.write_whole.Given as goal

-- the writes took this many of the bytes
abbrev pub invariant-loop : goal.invariant-loop
invariant-loop g l = (l.taken ≤ length l.bytes)
    × Appends (g.W.Output.holds l.fn.writer) (g.W.Output.holds l.writer) (take l.taken l.bytes)
    × Writes (change g.W.Output.wrote g.W.Output.flushed g.W.Output.holds l.fn.writer l.writer) l.bytes (drop l.taken l.bytes)
    l.counter
