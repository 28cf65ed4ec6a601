use Rattle.std.proofs.Common.{length, ap, arith, length-append}
use Rattle.pg_frames.specs.FrameText.{text}
use Rattle.pg_frames.proofs.TextLemmas.{length-text}
use Rattle.client_state.specs.Session.{Session}
use Rattle.client_state.proofs.client.Client.gather.Goals as goal

pub invariant_of-self : goal.invariant_of-self
invariant_of-self c = (
  omega (
    arith,
    c.requires,
    ap length c.in-Ok.ensures.ok,
    ap (λ (s : Session). length s.gathered) c.self.view_is,
    ap (λ (s : Session). s.limit) c.self.view_is,
    length-append c.self.inside.gathered.items (text c.args.frame.now),
    length-text c.args.frame.now,
  ),
  c.self.invariant.1,
)
