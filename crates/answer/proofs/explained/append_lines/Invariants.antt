use Rattle.std.proofs.Common.{string_bytes, take}
use Rattle.ini_config.specs.Surveyed.{line_faults_seen}
use Rattle.answer.specs.Explained.{GrowsBy, IsTold, TellsEach, line_text}
use Rattle.answer.proofs.explained.append_lines.Given as goal

-- the faults so far
abbrev pub invariant-loop-fault : goal.invariant-loop-fault
invariant-loop-fault l = GrowsBy
    (TellsEach (λ fault. IsTold (line_text l.file fault))
    (line_faults_seen (take l.fault-index l.faults)))
    (string_bytes l.initial.report) (string_bytes l.report)
