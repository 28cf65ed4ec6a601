use Rattle.std.proofs.Common.{string_bytes, take}
use Rattle.answer.specs.Explained.{GrowsBy, IsTold, TellsEach, whole_text}
use Rattle.answer.proofs.explained.append_whole.Given as goal

-- the faults so far
abbrev pub invariant-loop-fault : goal.invariant-loop-fault
invariant-loop-fault l = GrowsBy
    (TellsEach (λ fault. IsTold (whole_text l.file fault)) (take l.fault-index l.faults))
    (string_bytes l.initial.report) (string_bytes l.report)
