use Rattle.std.proofs.Common.{subst}
use Rattle.session_io.specs.declared.login.place.Mark.{Mark}
use Rattle.session_io.specs.LoggingIn.{Handed}
use Rattle.session_io.proofs.LoginLemmas.{tail_taken}
use Rattle.session_io.proofs.login.server.take_piece.Goals as goal

pub returns-in-Head-clause-takes : goal.returns-in-Head-clause-takes
returns-in-Head-clause-takes c limit stream before come hands =
    c.take_head.ensures.takes c.args.place limit stream before come
    (subst (λ (m : Mark). Handed before m c.args.flow.now) c.in-Head.is hands)

pub returns-in-Part-clause-takes : goal.returns-in-Part-clause-takes
returns-in-Part-clause-takes c limit stream before come hands =
    c.take_part.ensures.takes limit stream before come
    (subst (λ (m : Mark). Handed before m c.args.flow.now) c.in-Part.is hands)

pub returns-in-Tail-clause-takes : goal.returns-in-Tail-clause-takes
returns-in-Tail-clause-takes c limit stream before come hands =
    tail_taken limit stream c.args.place c.args.login.now before c.args.flow.now c.after_tail.result
    c.after_tail.ensures come
    (subst (λ (m : Mark). Handed before m c.args.flow.now) c.in-Tail.is hands)
