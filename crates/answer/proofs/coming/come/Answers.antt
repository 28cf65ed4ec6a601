use Rattle.std.proofs.Common.{refl}
use Rattle.std.proofs.lemmas.Result.{MatchResult-weaker}
use Rattle.answer.specs.Decision.{has}
use Rattle.answer.proofs.CallLemmas.{reply_passed}
use Rattle.answer.proofs.ComingLemmas.{cannot_join, cannot_open, comes_with, comes_without}
use Rattle.answer.proofs.coming.come.Goals as goal
use Rattle.answer.proofs.coming.come.Goals.{in-Some, in-None}

pub returns-in_err-pass-clause-came : goal.returns-in_err-pass-clause-came
returns-in_err-pass-clause-came g c =
    reply_passed c.from_residual.result c.in_err-pass.field-0.0 _ _ c.from_residual.ensures.1
    (cannot_join (has c.args.held.now) c.args.client.now.secret c.in_err-pass.field-0.0
    c.args.caller.now c.join.new.caller c.in_err-pass.ensures)

-- the client joined, and then opened its link, if it has one
pub returns-clause-came : goal.returns-clause-came
returns-clause-came g c =
    let client = c.args.client.now in
    let joined = c.join.new.caller in
    let pass = c.in_ok-pass.pass in
    let had = has c.args.held.now in
    elim c.match-client.branch [
      | in-Some w ↦ rw (w.opened-is, w.caller-is)
          (MatchResult-weaker w.open_link-opened.result w.open_link-opened.ensures.opened
          (λ u opened. comes_with client pass _ had _ _ c.args.caller.now joined
          w.open_link-opened.new.caller w.in-Some.is c.in_ok-pass.ensures opened
          (rw (c.push_reserved.ensures.items, w.held-is) refl))
          (λ given cannot. cannot_open had client.secret pass c.args.caller.now joined
          w.open_link-opened.new.caller c.in_ok-pass.ensures cannot))
      | in-None w ↦ rw (w.opened-is, w.caller-is)
          (comes_without client pass had _ c.args.caller.now joined w.in-None.is
          c.in_ok-pass.ensures (rw (c.push_reserved.ensures.items, w.held-is) refl))
    ]
