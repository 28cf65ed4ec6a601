use Rattle.std.proofs.Common.{◌∙◌, ap, take, length, arith}
use Rattle.session_io.proofs.LoginLemmas.{part_short, part_whole}
use Rattle.session_io.proofs.login.server.take_wanted.Goals as goal

pub returns-then-passed-wanted-clause-takes : goal.returns-then-passed-wanted-clause-takes
returns-then-passed-wanted-clause-takes c limit stream before come hands =
    part_short limit stream c.args.login.now c.args.wanted before c.args.flow.now
    (omega (arith, ap length c.passed-passed.ensures, c.if-passed-wanted.true)) come hands

pub returns-clause-takes : goal.returns-clause-takes
returns-clause-takes c limit stream before come hands =
    part_whole limit stream c.args.login.now c.take_body-taken.new.login c.args.wanted before
    c.args.flow.now c.forget_all.new.flow c.split_at.result.0.now c.take_body-taken.result
    (omega (arith, ap length c.passed-passed.ensures, c.if-passed-wanted.false))
    c.forget_all.ensures
    (c.split_at.ensures.front ∙ ap (take c.args.wanted) c.passed-passed.ensures)
    c.take_body-taken.ensures come hands
