use Rattle.std.proofs.Common.{subst}
use Rattle.session_io.specs.declared.session.outcome.Stayed.{Stayed}
use Rattle.session_io.specs.Progress.{LeavesBehind}
use Rattle.node_threads.proofs.session.turns.turn.Goals as goal

pub returns-in-Release-clause-stay : goal.returns-in-Release-clause-stay
returns-in-Release-clause-stay g c = (
  c.stay-stayed.new.link,
  rw c.stream_mut.ensures.value at c.stay-stayed.ensures.stay,
  λ released. (subst (λ (s : Stayed). LeavesBehind c.args.session.now.limit s c.args.session.now
      c.stay-stayed.new.session c.stay-stayed.new.link.flow) released
      c.stay-stayed.ensures.leaves).1,
  c.release.ensures.took,
)

pub returns-in-Close-clause-stay : goal.returns-in-Close-clause-stay
returns-in-Close-clause-stay g c = (
  c.stay-stayed.new.link,
  rw c.stream_mut.ensures.value at c.stay-stayed.ensures.stay,
  λ released. (subst (λ (s : Stayed). LeavesBehind c.args.session.now.limit s c.args.session.now
      c.stay-stayed.new.session c.stay-stayed.new.link.flow) released
      c.stay-stayed.ensures.leaves).1,
  c.close.ensures.took,
)
