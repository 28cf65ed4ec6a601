use Rattle.std.proofs.Common.{◌∙◌, inr, refl, ap, sym}
use Rattle.lease.specs.declared.permit.PermitRecord.{PermitRecord}
use Rattle.node_threads.proofs.Balancing.{up_failed_moves}
use Rattle.node_threads.proofs.LeaseLemmas.{of_lease, same_link, is_login, opened_by}
use Rattle.node_threads.proofs.session.leases.open.Goals as goal

pub returns-in-Ok-clause-logged_in : goal.returns-in-Ok-clause-logged_in
returns-in-Ok-clause-logged_in g c =
    let is_permit = ap (λ (p : PermitRecord). p.at) c.details.ensures in
    of_lease _ _ _ _
    (λ lease at link key. (
      c.in-Ok.opened.key,
      same_link _ c.in-Ok.opened.key lease.details.at c.details.result.at lease.stream
          c.in-Ok.opened.link (at ∙ sym is_permit) link c.in-Ok.ensures.logged_in,
      key,
    ))
    c.put_up.result c.put_up.ensures.at c.put_up.ensures.link c.put_up.ensures.key

pub returns-in-Ok-clause-opened : goal.returns-in-Ok-clause-opened
returns-in-Ok-clause-opened g c =
    opened_by _ _ c.args.permit c.put_up.result _ _
    (is_login _ _ _ c.in-Ok.opened.key _
    (ap (λ (p : PermitRecord). p.at.database) c.details.ensures) c.in-Ok.ensures.logged_in)
    c.put_up.ensures.opened

pub returns-then-is_lost-clause-moves : goal.returns-then-is_lost-clause-moves
returns-then-is_lost-clause-moves g c =
    up_failed_moves c.args.permit _ _ _ _ _ c.up_failed-reply.ensures.counted

pub returns-else-is_lost-clause-moves : goal.returns-else-is_lost-clause-moves
returns-else-is_lost-clause-moves g c =
    up_failed_moves c.args.permit _ _ _ _ _ c.up_failed-reply.ensures.counted

pub returns-then-is_lost-clause-opened : goal.returns-then-is_lost-clause-opened
returns-then-is_lost-clause-opened g c =
    inr (inr ((_, c.up_failed-reply.ensures.counted), refl))
