use Rattle.std.proofs.Common.{◌∙◌, refl}
use Rattle.node_threads.proofs.ConsoleLemmas.{answering_start, answering_next, ends_by_message, ends_unasked}
use Rattle.node_threads.proofs.session.admin.serve_queries.Goals as goal

pub loop-init : goal.loop-init
loop-init g c = (refl, λ settings is. answering_start _ _ _ settings _ _ _, refl)

pub loop-preserved : goal.loop-preserved
loop-preserved g c = (
  c.serve_message.ensures.same ∙ c.loop.invariant.0,
  λ settings is. answering_next _ _ _ _ settings _ _ _ _ _ _ c.args.cutter.now.bytes
      c.loop.cutter.bytes _ c.next_message.result c.in-Some-next_message.message
      c.serve_message.result c.loop.invariant.2 c.loop.invariant.0 c.in-Some-next_message.is
      c.if-not-serve_message.false (c.loop.invariant.1 settings is) c.next_message.ensures.awaits
      (c.serve_message.ensures.takes settings is),
  c.next_message.ensures.limit ∙ c.loop.invariant.2,
)

pub returns-in_default-clause-queries : goal.returns-in_default-clause-queries
returns-in_default-clause-queries g c settings is =
    ends_unasked _ _ _ _ settings _ _ _ _ c.args.cutter.now.bytes c.loop.cutter.bytes _
    c.next_message.result c.loop.invariant.2 c.in_default.is (c.loop.invariant.1 settings is)
    c.next_message.ensures.awaits

pub returns-then-not-serve_message-clause-queries : goal.returns-then-not-serve_message-clause-queries
returns-then-not-serve_message-clause-queries g c settings is =
    ends_by_message _ _ _ _ settings _ _ _ _ _ _ c.args.cutter.now.bytes c.loop.cutter.bytes _
    c.next_message.result c.in-Some-next_message.message c.serve_message.result
    c.loop.invariant.2 c.loop.invariant.0 c.in-Some-next_message.is c.if-not-serve_message.true
    (c.loop.invariant.1 settings is) c.next_message.ensures.awaits
    (c.serve_message.ensures.takes settings is)
