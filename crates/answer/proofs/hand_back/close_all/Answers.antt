use Rattle.std.proofs.Common.{◌≡◌, [], ◌∷◌, ◌++◌, ◌∙◌, Some, List, ap, arith, refl, option_to_list, length}
use Rattle.lease.specs.declared.link_record.LinkRecord.{LinkRecord}
use Rattle.answer.specs.Decision.{leases_of}
use Rattle.answer.proofs.CallLemmas.{reply_passed}
use Rattle.answer.proofs.ComingLemmas.{leases_push}
use Rattle.answer.proofs.LeavingLemmas.{cannot_close, closes_none, closes_push}
use Rattle.answer.proofs.hand_back.close_all.Goals as goal

pub loop-lease-init : goal.loop-lease-init
loop-lease-init g c = record {
  lock = c.requires.own;
  closes = closes_none (leases_of c.args.leases.now.items) c.args.caller.now;
  allowance = omega arith;
}

pub loop-lease-preserved : goal.loop-lease-preserved
loop-lease-preserved g c =
    let kept = c.loop-lease.invariant in
    let lease = c.in-Some.lease in
    let last : c.loop-lease.leases.items ≡ c.pop.new.self.items ++ lease ∷ [] =
    c.pop.ensures.items ∙ ap (λ o. c.pop.new.self.items ++ option_to_list o) c.in-Some.is in
    let step = c.in_ok-close.ensures in
    let allowance = kept.allowance in
    let made = step.allowance in
    let popped = c.in-Some.ensures.cases in
    record {
      lock = step.lock ∙ kept.lock;
      closes = closes_push (leases_of c.args.leases.now.items) (leases_of c.loop-lease.leases.items)
          (leases_of c.pop.new.self.items) lease.details c.args.caller.now c.loop-lease.caller
          c.close.new.caller kept.closes
          (ap leases_of last ∙ leases_push c.pop.new.self.items lease) step;
      allowance = omega (arith, allowance, made, popped);
    }

pub returns-in_err-close-clause-closed : goal.returns-in_err-close-clause-closed
returns-in_err-close-clause-closed g c =
    let lease = c.in-Some.lease in
    let last : c.loop-lease.leases.items ≡ c.pop.new.self.items ++ lease ∷ [] =
    c.pop.ensures.items ∙ ap (λ o. c.pop.new.self.items ++ option_to_list o) c.in-Some.is in
    reply_passed c.from_residual.result c.in_err-close.field-0.0 _ _ c.from_residual.ensures.1
    (cannot_close (leases_of c.args.leases.now.items) (leases_of c.loop-lease.leases.items)
    (leases_of c.pop.new.self.items) lease.details c.in_err-close.field-0.0 c.args.caller.now
    c.loop-lease.caller c.close.new.caller c.loop-lease.invariant.closes
    (ap leases_of last ∙ leases_push c.pop.new.self.items lease) c.in_err-close.ensures)
