use Rattle.answer.proofs.AllFaultLemmas.{line_more}
use Rattle.answer.proofs.explained.append_lines.Goals as goal

pub loop-fault-preserved : goal.loop-fault-preserved
loop-fault-preserved c = line_more c.args.file.now c.args.faults.now c.loop-fault.fault-index _
    _ _ _ c.loop-fault-test.true c.loop-fault.invariant c.in_ok-append_line.ensures
