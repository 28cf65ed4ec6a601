use Rattle.std.proofs.Common.{◌≡◌, ◌∙◌, Some, sym, refl, arith}
use Rattle.pg_frames.specs.FrameText.{HasFault}
use Rattle.pg_frames.specs.declared.error.FrameError.TheVariants.{Memory}
use Rattle.pg_frames.proofs.CutLemmas.{judged_ever, judged_memory, fault_once, no_memory}
use Rattle.pg_frames.proofs.cutter.Cutter.feed.Goals as goal

pub returns-in-Some-clause-judged : goal.returns-in-Some-clause-judged
returns-in-Some-clause-judged c = judged_ever _ _ _ _ c.in-Some.ensures.stands

pub returns-in-Some-clause-first : goal.returns-in-Some-clause-first
returns-in-Some-clause-first c none other =
    let apart = fault_once _ _ _ _ none c.in-Some.ensures.stands in cc

pub returns-in-Some-clause-ever : goal.returns-in-Some-clause-ever
returns-in-Some-clause-ever c fault has =
    let same = fault_once _ _ _ _ c.in-Some.ensures.stands has in (cc, refl)

pub returns-then-is_err-clause-judged : goal.returns-then-is_err-clause-judged
returns-then-is_err-clause-judged c =
    judged_memory _ _ _ (λ i. c.fault.ensures.bytes i) (λ i. omega (arith, c.type_inv.piece i))

pub returns-then-is_err-clause-ever : goal.returns-then-is_err-clause-ever
returns-then-is_err-clause-ever c fault has =
    let apart =
    fault_once _ _ _ _ has c.fault.ensures.stands in absurd
    (c.in_default.not-Some fault (sym apart))

pub returns-in-Some-fault-clause-memory : goal.returns-in-Some-fault-clause-memory
returns-in-Some-fault-clause-memory c is =
    let has : HasFault _ c.append.new.self.bytes (Some c.in-Some-fault.fault) =
    c.in-Some-fault.ensures.stands in
    let fault_is : Some c.in-Some-fault.fault ≡ Some Memory = cc in
    absurd (no_memory _ has.rest (has.stands ∙ fault_is))

pub returns-in-Some-fault-clause-ever : goal.returns-in-Some-fault-clause-ever
returns-in-Some-fault-clause-ever c fault has =
    let apart =
    fault_once _ _ _ _ has c.fault.ensures.stands in absurd
    (c.in_default.not-Some fault (sym apart))

pub returns-in-None-clause-ever : goal.returns-in-None-clause-ever
returns-in-None-clause-ever c fault has =
    let apart =
    fault_once _ _ _ _ has c.fault.ensures.stands in absurd
    (c.in_default.not-Some fault (sym apart))
