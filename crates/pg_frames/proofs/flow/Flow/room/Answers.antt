use Rattle.std.proofs.Common.{◌∙◌, ap, subst, length, arith}
use Rattle.pg_frames.specs.Buffer.{kept, unread}
use Rattle.pg_frames.proofs.TextLemmas.{IsBytes}
use Rattle.pg_frames.proofs.FlowLemmas.{few_kept}
use Rattle.pg_frames.proofs.flow.Flow.room.Goals as goal

pub returns-clause-drained : goal.returns-clause-drained
returns-clause-drained c none has =
    let same = c.as_slice.ensures.value ∙ ap (λ i. unread i.buffer) c.deref.ensures ∙ ap
    (λ p. p.bytes) c.self.view_is in
    let small : IsBytes c.args.self.now.bytes =
    subst IsBytes same (λ i. c.room_beside.ensures.bytes i) in
    let few = few_kept _ c.args.self.now.left c.args.self.now.bytes small none has in
    let kept = c.kept.ensures ∙ ap (λ i. kept i.buffer) c.deref.ensures ∙ ap (λ p. p.passed)
    c.self.view_is in
    omega (arith, c.room_beside.ensures.room, few, ap length same, ap length kept)
