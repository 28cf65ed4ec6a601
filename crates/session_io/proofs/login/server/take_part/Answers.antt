use Rattle.std.proofs.Common.{ap, subst}
use Rattle.session_io.specs.declared.login.place.LoginPlace.{LoginPlace}
use Rattle.session_io.specs.LoggingIn.{HasCome}
use Rattle.session_io.proofs.LoginLemmas.{part_passed}
use Rattle.session_io.proofs.login.server.take_part.Goals as goal

pub returns-in-Reading-clause-takes : goal.returns-in-Reading-clause-takes
returns-in-Reading-clause-takes c limit stream before come hands =
    c.take_wanted.ensures.takes limit stream before
    (subst
    (λ (p : LoginPlace). HasCome limit stream p c.args.login.now before) c.in-Reading.is come)
    hands

pub returns-in_default : goal.returns-in_default
returns-in_default c = record {
  takes = λ limit stream before come hands. part_passed limit stream c.args.place c.args.login.now
      before
      c.args.flow.now c.forget_all.new.flow c.in_default.not-Reading c.forget_all.ensures come
      hands;
  left = ap (λ p. p.left) c.forget_all.ensures;
  limit = ap (λ p. p.limit) c.forget_all.ensures;
  bytes = ap (λ p. p.bytes) c.forget_all.ensures;
}
