use Rattle.node_threads.proofs.LeaseLemmas.{later_answer}
use Rattle.node_threads.proofs.session.leases.acquire.Goals as goal

pub returns-in-Some-ask-clause-answer : goal.returns-in-Some-ask-clause-answer
returns-in-Some-ask-clause-answer g c =
    later_answer _ _ c.in-Some-ask.acquired _ _ _ c.loop.invariant c.in-Some-ask.ensures.answer
