use Rattle.std.proofs.Common.{◌≡◌, ◌++◌, map, string_bytes, take}
use Rattle.std.specs.Prelude.{flat_map}
use Rattle.answer.specs.Explained.{note_text}
use Rattle.answer.proofs.notes.append_notes.Given as goal

-- the lines so far
abbrev pub invariant-loop-line : goal.invariant-loop-line
invariant-loop-line l = string_bytes l.report ≡ string_bytes l.initial.report
    ++ flat_map note_text (map (λ line. line.now) (take l.line-index l.line-items))
