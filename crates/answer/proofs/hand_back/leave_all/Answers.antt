use Rattle.std.proofs.Common.{◌≡◌, [], ◌∷◌, ◌++◌, ◌∙◌, ap, arith, option_to_list}
use Rattle.answer.proofs.CallLemmas.{reply_passed}
use Rattle.answer.proofs.LeavingLemmas.{cannot_go, leaves_none, leaves_push}
use Rattle.answer.proofs.hand_back.leave_all.Goals as goal

pub loop-pass-init : goal.loop-pass-init
loop-pass-init g c = record {
  lock = c.requires.own;
  leaves = leaves_none c.args.passes.now.items c.args.caller.now;
  allowance = omega arith;
}

pub loop-pass-preserved : goal.loop-pass-preserved
loop-pass-preserved g c =
    let kept = c.loop-pass.invariant in
    let pass = c.in-Some.pass in
    let last : c.loop-pass.passes.items ≡ c.pop.new.self.items ++ pass ∷ [] =
    c.pop.ensures.items ∙ ap (λ o. c.pop.new.self.items ++ option_to_list o) c.in-Some.is in
    let left = c.in_ok-leave_twice.ensures.left in
    let allowance = kept.allowance in
    let cost = c.in_ok-leave_twice.ensures.allowance in
    let popped = c.in-Some.ensures.cases in
    record {
      lock = left.makes.lock ∙ kept.lock;
      leaves = leaves_push c.args.passes.now.items c.loop-pass.passes.items c.pop.new.self.items pass
          c.args.caller.now c.loop-pass.caller c.leave_twice.new.caller kept.leaves last left;
      allowance = omega (arith, allowance, cost, popped);
    }

pub returns-in_err-leave_twice-clause-left : goal.returns-in_err-leave_twice-clause-left
returns-in_err-leave_twice-clause-left g c =
    let pass = c.in-Some.pass in
    let last : c.loop-pass.passes.items ≡ c.pop.new.self.items ++ pass ∷ [] =
    c.pop.ensures.items ∙ ap (λ o. c.pop.new.self.items ++ option_to_list o) c.in-Some.is in
    reply_passed c.from_residual.result c.in_err-leave_twice.field-0.0 _ _ c.from_residual.ensures.1
    (cannot_go c.args.passes.now.items c.loop-pass.passes.items c.pop.new.self.items pass
    c.args.caller.now c.loop-pass.caller c.leave_twice.new.caller c.loop-pass.invariant.leaves last
    c.in_err-leave_twice.ensures.left)
