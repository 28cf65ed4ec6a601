use Rattle.answer.proofs.AllFaultLemmas.{whole_more}
use Rattle.answer.proofs.explained.append_whole.Goals as goal

pub loop-fault-preserved : goal.loop-fault-preserved
loop-fault-preserved c = whole_more c.args.file.now c.args.faults.now c.loop-fault.fault-index _
    _ _ _ c.loop-fault-test.true c.loop-fault.invariant c.in_ok-append_of_whole.ensures
