use Rattle.std.proofs.Common.{◌∙◌, ℕ, List, ap, subst, take, drop, arith}
use Rattle.session_io.specs.Progress.{ArePassedOn}
use Rattle.session_io.proofs.RunLemmas.{hands_run, hands_ready}
use Rattle.session_io.proofs.session.replies.pass_frames.Goals as goal

pub returns-in-Some-clause-ready : goal.returns-in-Some-clause-ready
returns-in-Some-clause-ready c limit stream written place out =
    let old = c.args.flow.now in
    let len = c.passed_len-len.result in
    let run = subst (λ (n : ℕ). ArePassedOn n (take len old.bytes)) c.limit-limit.ensures
    (subst (λ (xs : List ℕ). ArePassedOn c.limit-limit.result (take len xs))
    c.pending-bytes.ensures c.passed_len-len.ensures.frames) in
    let rest = c.split_at.ensures.back ∙ ap (drop len) c.pending-bytes.ensures in
    let passed = c.pass_frames.ensures in
    hands_ready limit stream written place old c.pass_frames.new.self len
    c.in-Some.status c.split_at.result.1.now out (c.is_between.ensures.0 c.if-not-is_between.false)
    (omega (arith, c.if-prove.false, c.get.ensures.value, c.limit-limit.ensures)) run rest
    c.in-Some.ensures.1 passed.passed passed.left passed.bytes passed.limit

pub returns-in-None-clause-more : goal.returns-in-None-clause-more
returns-in-None-clause-more c none limit stream written place out =
    let old = c.args.flow.now in
    let len = c.passed_len-len.result in
    let run = subst (λ (n : ℕ). ArePassedOn n (take len old.bytes)) c.limit-limit.ensures
    (subst (λ (xs : List ℕ). ArePassedOn c.limit-limit.result (take len xs))
    c.pending-bytes.ensures c.passed_len-len.ensures.frames) in
    let passed = c.pass_frames-in-None.ensures in
    hands_run limit stream written place old c.pass_frames-in-None.new.self len out
    (c.is_between.ensures.0 c.if-not-is_between.false) run passed.passed passed.left
    passed.bytes passed.limit
