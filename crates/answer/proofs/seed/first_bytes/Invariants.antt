use Rattle.std.proofs.Common.{◌≤◌, ℕ, length}
use Rattle.std.specs.Io.KnownBytes.{Consumes}
use Rattle.answer.specs.ReadingFaults.{ReadSoFar}
use Rattle.answer.proofs.seed.first_bytes.Given as goal

-- these bytes were read so far, and no more than are asked for
abbrev pub invariant-loop : goal.invariant-loop
invariant-loop g l = ReadSoFar g.I.Input.gave l.fn.input l.bytes.items l.input
    × Consumes (g.I.Input.left l.fn.input) (g.I.Input.left l.input) l.bytes.items
    × (length l.bytes.items ≤ l.fn.count)
