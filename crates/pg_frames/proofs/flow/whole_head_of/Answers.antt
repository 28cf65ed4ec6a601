use Rattle.std.proofs.Common.{◌∷◌, arith}
use Rattle.pg_frames.proofs.FlowLemmas.{no_frame-begun, no_frame-no_head}
use Rattle.pg_frames.proofs.flow.whole_head_of.Goals as goal

pub returns-in_default-clause-none : goal.returns-in_default-clause-none
returns-in_default-clause-none c is =
    no_frame-begun _ (c.args.kind ∷ c.args.after.now) c.in-Some.head c.in-Some.ensures
    (omega (arith, c.if-head-after.false))

pub returns-in_default-2-clause-none : goal.returns-in_default-2-clause-none
returns-in_default-2-clause-none c is =
    no_frame-no_head _ (c.args.kind ∷ c.args.after.now) c.in_default.ensures
