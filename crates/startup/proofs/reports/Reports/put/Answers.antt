use Rattle.std.proofs.Common.{List, arith, sym, subst}
use Rattle.startup.specs.Replies.{Report}
use Rattle.startup.proofs.ReportLemmas.{Accepted, accepted, kept_pushed, pushed, length-parameter_status}
use Rattle.startup.proofs.reports.Reports.put.Goals as goal

pub append_status-requires : goal.append_status-requires
append_status-requires c =
    let is = accepted c.args.self.now c.args.name.now c.args.value.now c.requires in
    omega (arith, is.short, length-parameter_status c.args.name.now c.args.value.now)

pub invariant_of-self-2 : goal.invariant_of-self-2
invariant_of-self-2 c =
    let is = accepted c.args.self.now c.args.name.now c.args.value.now c.requires in
    kept_pushed c.self.inside.stored.items c.push.new.self.items c.self.inside.messages.items c.append_status.new.out.items c.in_ok-stored.stored c.args.name.now c.args.value.now c.self.invariant
    (subst (λ (rs : List Report). Accepted rs c.args.name.now c.args.value.now) (sym c.self.view_is) is)
    c.in_ok-stored.ensures
    (pushed c.push.result c.unwrap.result _ _ _ c.in_ok-stored.stored c.unwrap.ensures c.push.ensures.items c.reserve.ensures.items)
    c.in_ok-append_status.ensures.ok
