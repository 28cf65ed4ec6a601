use Rattle.std.proofs.Common.{◌≡◌, ◌∙◌, ◌<◌, arith, length, refl, take}
use Rattle.std.proofs.lemmas.List.{take_more, length-take}
use Rattle.answer.specs.Decision.{has}
use Rattle.answer.proofs.CallLemmas.{cannot_come, comes_none, comes_push, reply_passed}
use Rattle.answer.proofs.coming.all_come.Goals as goal

pub loop-client-init : goal.loop-client-init
loop-client-init g c = record {
  lock = c.requires.own;
  comes = comes_none (has c.args.held.now) c.args.caller.now;
  allowance = omega arith;
  passes = (refl, omega arith);
  leases = (refl, omega arith);
}

pub returns-in_err-come-clause-came : goal.returns-in_err-come-clause-came
returns-in_err-come-clause-came g c =
    let clients = c.args.clients.now in
    let i = c.loop-client.client-index in
    let within : i < length clients = c.loop-client-test.true in
    let some = length-take i clients in
    reply_passed c.from_residual.result c.in_err-come.field-0.0 _ _ c.from_residual.ensures.1
    (cannot_come (take i clients) (length clients) (has c.args.held.now) (has c.loop-client.held)
    c.args.caller.now c.loop-client.caller c.come.new.caller (omega (arith, within, some))
    c.loop-client.invariant.comes c.in_err-come.ensures.came)

pub loop-client-preserved : goal.loop-client-preserved
loop-client-preserved g c =
    let kept = c.loop-client.invariant in
    let clients = c.args.clients.now in
    let i = c.loop-client.client-index in
    let client = c.client-item.result in
    let within : i < length clients = c.loop-client-test.true in
    let came = c.in_ok-come.ensures.came in
    let allowance = kept.allowance in
    let cost = c.in_ok-come.ensures.allowance in
    let passes = kept.passes in
    let leases = kept.leases in
    let more_passes = c.in_ok-come.ensures.passes in
    let more_leases = c.in_ok-come.ensures.leases in
    record {
      lock = came.makes.lock ∙ kept.lock;
      comes = rw (take_more clients i client within, ← c.client-item.is)
          (comes_push (take i clients) client (has c.args.held.now) (has c.loop-client.held)
          (has c.come.new.held) c.args.caller.now c.loop-client.caller c.come.new.caller kept.comes
          came);
      allowance = omega (arith, allowance, cost);
      passes = (more_passes.0 ∙ passes.0, omega (arith, passes.1, more_passes.1));
      leases = (more_leases.0 ∙ leases.0, omega (arith, leases.1, more_leases.1));
    }
