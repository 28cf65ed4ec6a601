use Rattle.pg_frames.proofs.FlowLemmas.{no_head-fault}
use Rattle.pg_frames.proofs.flow.head_in.Goals as goal

pub returns-in-Err : goal.returns-in-Err
returns-in-Err c = no_head-fault _ c.args.bytes.now _ c.in-Err.ensures.fault
