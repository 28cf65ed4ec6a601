use Rattle.std.proofs.Common.{◌≡◌, ap, subst, sym, ◌∙◌, arith}
use Rattle.lease.specs.declared.link_record.LinkRecord.{LinkRecord}
use Rattle.lease.specs.declared.permit.PermitRecord.{PermitRecord}
use Rattle.link_pool.specs.Pool.{PoolView}
use Rattle.link_pool.specs.PoolOf.{pool_of}
use Rattle.link_pool.specs.PoolStep.{IsOpen}
use Rattle.link_pool.proofs.Handing.{of_open, went_up, said_by}
use Rattle.link_pool.proofs.pool.Pool.up.Goals as goal

pub change-requires-clause-slot : goal.change-requires-clause-slot
change-requires-clause-slot g c =
    let v : PoolView = (pool_of c.self.inside).view in
    let kept : IsOpen c.details-details.result c.in-Some.slot v = subst (λ w. IsOpen c.details-details.result c.in-Some.slot w.view) (sym c.self.view_is) c.in-Some.ensures.kept in
    let of = of_open v c.details-details.result c.in-Some.slot c.self.invariant.0 kept in of.within

pub change-requires-clause-whole : goal.change-requires-clause-whole
change-requires-clause-whole g c =
    let v : PoolView = (pool_of c.self.inside).view in
    let permit = c.details-details.result in
    let kept : IsOpen permit c.in-Some.slot v = subst (λ w. IsOpen permit c.in-Some.slot w.view) (sym c.self.view_is) c.in-Some.ensures.kept in
    let given = c.in-Some-give.ensures.given in
    let number = given.0 in
    let below = given.1 in
    let says : c.details.result ≡ record { peer = v.peer; incarnation = v.incarnation; link = v.next_link; at = permit.at } =
    c.details.ensures ∙ ap (λ l. l.details) c.up-lease.ensures
    ∙ ap {B = LinkRecord} (λ (p : PermitRecord). record { peer = p.peer; incarnation = p.incarnation; link = c.in-Some-give.number; at = p.at }) (sym c.details-details.ensures)
    ∙ ap {B = LinkRecord} (λ n. record { peer = permit.peer; incarnation = permit.incarnation; link = n; at = permit.at }) number
    ∙ said_by v permit c.in-Some.slot v.next_link c.self.invariant.0 kept in
    rw c.new.ensures (went_up v permit c.in-Some.slot c.give.new.self c.details.result c.args.key c.self.invariant.0 kept (omega (arith, below, number)) given.2 says)
