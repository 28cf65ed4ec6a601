use Rattle.std.proofs.Common.{◌∙◌, sym}
use Rattle.pg_frames.proofs.FlowLemmas.{no_bytes}
use Rattle.session_io.proofs.FaultLemmas.{no_fault_behind}
use Rattle.session_io.proofs.session.replies.fault_of.Goals as goal

pub returns-then-is_empty : goal.returns-then-is_empty
returns-then-is_empty c =
    no_fault_behind c.args.flow.now
    (sym c.pending.ensures
    ∙ no_bytes c.pending.result.now (sym c.is_empty.ensures ∙ c.if-is_empty.true))
