use Rattle.std.proofs.Common.{◌∙◌, ap}
use Rattle.answer.specs.Decision.{leases_of}
use Rattle.answer.proofs.CallLemmas.{reply_passed}
use Rattle.answer.proofs.ComingLemmas.{cannot_acquire, cannot_up, leases_push, opens_by}
use Rattle.answer.proofs.coming.open_link.Goals as goal

pub returns-in_err-permit-clause-opened : goal.returns-in_err-permit-clause-opened
returns-in_err-permit-clause-opened g c =
    reply_passed c.from_residual.result c.in_err-permit.field-0.0 _ _ c.from_residual.ensures.1
    (cannot_acquire c.args.pass.now (leases_of c.args.leases.now.items) c.in_err-permit.field-0.0
    c.args.caller.now c.acquire.new.caller c.in_err-permit.ensures)

pub returns-in_err-lease-clause-opened : goal.returns-in_err-lease-clause-opened
returns-in_err-lease-clause-opened g c =
    reply_passed c.from_residual-in_err-lease.result c.in_err-lease.field-0.0 _ _
    c.from_residual-in_err-lease.ensures.1
    (cannot_up c.args.pass.now c.in_ok-permit.permit c.args.key (leases_of c.args.leases.now.items)
    c.in_err-lease.field-0.0 c.args.caller.now c.acquire.new.caller c.up.new.caller
    c.in_ok-permit.ensures c.in_err-lease.ensures)

pub returns-clause-opened : goal.returns-clause-opened
returns-clause-opened g c =
    opens_by c.args.pass.now c.in_ok-permit.permit c.args.key c.in_ok-lease.lease.details
    (leases_of c.args.leases.now.items) _ c.args.caller.now c.acquire.new.caller c.up.new.caller
    c.in_ok-permit.ensures c.in_ok-lease.ensures
    (ap leases_of c.push_reserved.ensures.items
    ∙ leases_push c.args.leases.now.items c.in_ok-lease.lease)
