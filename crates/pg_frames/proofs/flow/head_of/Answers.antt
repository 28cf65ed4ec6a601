use Rattle.std.proofs.Common.{◌∷◌}
use Rattle.pg_frames.proofs.FlowLemmas.{no_head-fault}
use Rattle.pg_frames.proofs.flow.head_of.Goals as goal

pub returns-in-Err : goal.returns-in-Err
returns-in-Err c =
    no_head-fault _ (c.args.kind ∷ c.args.after.now) _ c.in-Err.ensures.fault
