use Rattle.std.proofs.Common.{◌≤◌, ℕ, length, take, drop}
use Rattle.std.specs.Io.KnownBytes.{Consumes}
use Rattle.answer.specs.ReadingFaults.{ReadSoFar}
use Rattle.answer.proofs.file_text.read_whole.Given as goal

-- these bytes were read so far
abbrev pub invariant-loop : goal.invariant-loop
invariant-loop g l = ReadSoFar g.I.Input.gave l.fn.input l.bytes.items l.input
    × Consumes (g.I.Input.left l.fn.input) (g.I.Input.left l.input) l.bytes.items
