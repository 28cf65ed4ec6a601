use Rattle.std.proofs.Common.{[], ◌∷◌}
use Rattle.answer.proofs.CallLemmas.{makes_one, reply_passed}
use Rattle.answer.proofs.LeavingLemmas.{cannot_hold, cannot_leave, goes_never, goes_one}
use Rattle.answer.proofs.hand_back.leave_twice.Goals as goal

pub returns-in_err-pass-clause-left : goal.returns-in_err-pass-clause-left
returns-in_err-pass-clause-left g c =
    reply_passed c.from_residual.result c.in_err-pass.field-0.0 _ _ c.from_residual.ensures.1
    (cannot_leave c.args.pass c.in_err-pass.field-0.0 c.args.caller.now c.leave.new.caller
    c.in_err-pass.ensures)

pub returns-in_default-clause-left : goal.returns-in_default-clause-left
returns-in_default-clause-left g c =
    goes_one c.args.pass c.in_ok-pass.field-0 c.args.caller.now c.leave.new.caller c.in_default.is
    c.in_ok-pass.ensures

pub returns-in_err-pass-2-clause-left : goal.returns-in_err-pass-2-clause-left
returns-in_err-pass-2-clause-left g c =
    reply_passed c.from_residual-in_err-pass-2.result c.in_err-pass-2.field-0.0 _ _
    c.from_residual-in_err-pass-2.ensures.1
    (cannot_hold c.args.pass _ c.in_ok-pass.field-0 (_ ∷ []) c.args.caller.now c.leave.new.caller
    c.leave-2.new.caller c.in-Some.is c.in_ok-pass.ensures (makes_one c.leave.new.caller _ c.leave-2.new.caller
    c.in_err-pass-2.ensures.step))

pub returns-in_default-2-clause-left : goal.returns-in_default-2-clause-left
returns-in_default-2-clause-left g c =
    goes_never c.args.pass c.args.caller.now c.leave-2.new.caller
    (cannot_hold c.args.pass _ c.in_ok-pass.field-0 (_ ∷ []) c.args.caller.now c.leave.new.caller
    c.leave-2.new.caller c.in-Some.is c.in_ok-pass.ensures (makes_one c.leave.new.caller _ c.leave-2.new.caller c.in_ok-pass-2.ensures))

pub returns-clause-left : goal.returns-clause-left
returns-clause-left g c =
    cannot_hold c.args.pass _ c.in_ok-pass.field-0 (_ ∷ []) c.args.caller.now c.leave.new.caller
    c.leave-2.new.caller c.in-Some.is c.in_ok-pass.ensures (makes_one c.leave.new.caller _ c.leave-2.new.caller c.in_ok-pass-2.ensures)
