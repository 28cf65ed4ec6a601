use Rattle.std.proofs.Common.{◌≡◌, map}
use Rattle.console.proofs.numbered_row.frames_of.Given as goal

-- the messages of the rows so far
abbrev pub invariant-loop-row : goal.invariant-loop-row
invariant-loop-row l = l.frames.items ≡ map (λ row. row.frame) l.yielded
