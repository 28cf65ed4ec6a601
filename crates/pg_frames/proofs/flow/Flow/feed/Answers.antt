use Rattle.std.proofs.Common.{Some, sym, refl}
use Rattle.pg_frames.proofs.CutLemmas.{fault_once, some_fault}
use Rattle.pg_frames.proofs.FlowLemmas.{fault_stays}
use Rattle.pg_frames.proofs.flow.Flow.feed.Goals as goal

pub returns-in-Some-clause-judged : goal.returns-in-Some-clause-judged
returns-in-Some-clause-judged c = (
  Some c.in-Some.fault,
  fault_stays _ c.args.self.now c.args.piece.now c.in-Some.fault
      c.in-Some.ensures,
  refl,
)

pub returns-in-Some-clause-taken : goal.returns-in-Some-clause-taken
returns-in-Some-clause-taken c none =
    absurd (some_fault c.in-Some.fault (fault_once _ _ _ _ none c.in-Some.ensures))

pub returns-in-Some-fault-clause-ever : goal.returns-in-Some-fault-clause-ever
returns-in-Some-fault-clause-ever c fault has =
    let apart =
    fault_once _ _ _ _ has c.fault.ensures in absurd (c.in_default.not-Some fault (sym apart))

pub returns-in-None-clause-ever : goal.returns-in-None-clause-ever
returns-in-None-clause-ever c fault has =
    let apart =
    fault_once _ _ _ _ has c.fault.ensures in absurd (c.in_default.not-Some fault (sym apart))
