use Rattle.std.proofs.Common.{◌∙◌, Ok, ap}
use Rattle.session_io.proofs.LoginLemmas.{head_skipped, head_read, head_stopped}
use Rattle.session_io.proofs.login.server.take_head.Goals as goal

pub returns-in-Ok-Skip-clause-takes : goal.returns-in-Ok-Skip-clause-takes
returns-in-Ok-Skip-clause-takes c place limit stream before come hands =
    head_skipped limit stream place c.args.login.now c.on_head.new.self before c.args.flow.now
    c.forget_all.new.flow c.args.kind c.args.length c.on_head.result
    (c.in-Ok-Skip.is ∙ ap Ok c.in-Ok-Skip.field-0-is) c.forget_all.ensures c.on_head.ensures.read
    c.on_head.ensures.skip come hands

pub returns-in-Ok-Body-clause-takes : goal.returns-in-Ok-Body-clause-takes
returns-in-Ok-Body-clause-takes c place limit stream before come hands =
    head_read limit stream place c.args.login.now c.on_head.new.self before c.args.flow.now
    c.forget_all.new.flow c.args.kind c.args.length c.in-Ok-Body.wanted c.on_head.result
    (c.in-Ok-Body.is ∙ ap Ok c.in-Ok-Body.field-0-is) c.forget_all.ensures c.on_head.ensures.read
    c.on_head.ensures.body come hands

pub returns-in-Err-clause-takes : goal.returns-in-Err-clause-takes
returns-in-Err-clause-takes c place limit stream before come hands =
    head_stopped limit stream place c.args.login.now before c.args.flow.now c.forget_all.new.flow
    c.args.kind c.args.length c.stop_at.result c.stop_at.ensures c.forget_all.ensures come hands
