use Rattle.std.proofs.Common.{rules, ◌≡◌, length, vec_len, arith}
use Rattle.session_io.proofs.RefusedLemmas.{so_more, so_ended}
use Rattle.session_io.proofs.login.refused.error_text.Goals as goal

pub returns-then-not-branch : goal.returns-then-not-branch
returns-then-not-branch g c =
    so_ended _ _ _ _ _ c.args.begun.now c.min-wanted.result _ c.text.text.items
    c.read_text.new.text.items c.min-wanted.ensures
    (c.in_ok-read_text.ensures.same c.if-not-branch.true) c.text.invariant
    (c.in_ok-read_text.ensures.none c.if-not-branch.true)

pub text-preserved : goal.text-preserved
text-preserved g c =
    let len : vec_len c.text.text ≡ length c.text.text.items = search rules in
    so_more _ _ _ _ _ c.args.begun.now c.min-wanted.result c.text.text.items
    c.read_text.new.text.items (omega (arith, len, c.text-test.true, c.len.ensures))
    c.text.invariant (c.in_ok-read_text.ensures.more c.if-not-branch.false)
