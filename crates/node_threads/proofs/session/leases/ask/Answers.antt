use Rattle.std.proofs.Common.{inl, refl}
use Rattle.node_threads.specs.Balance.{nothing, a_permit, a_lease}
use Rattle.node_threads.specs.Leasing.{hand_of, hand_of_answer}
use Rattle.node_threads.specs.declared.session.leases.Acquired.TheVariants as acquired
use Rattle.node_threads.proofs.Balancing.{moves_on, acquire_moves, not_given_moves}
use Rattle.node_threads.proofs.LeaseLemmas.{was_answered, is_denied, opened_answer, kept_answer, kept_answers}
use Rattle.node_threads.proofs.session.leases.ask.Goals as goal

pub returns-in-Got : goal.returns-in-Got
returns-in-Got g c = record {
  moves = moves_on nothing a_lease (hand_of_answer c.take.result) _ _ _
      (acquire_moves c.args.pass.now _ _ _ _ _ c.in-Got.ensures.counted) c.take.ensures.moves;
  database = c.take.ensures.database;
  answer = kept_answers _ _ (acquired.Lease c.in-Got.lease) c.take.result _ _ _
      (inl (was_answered _ _ _ _ c.in-Got.ensures.counted)) c.take.ensures.kept;
}

pub returns-in-Open : goal.returns-in-Open
returns-in-Open g c = record {
  moves = moves_on nothing (hand_of c.open-opened.result) (hand_of c.unless_gone.result) _ _ _
      (moves_on nothing a_permit (hand_of c.open-opened.result) _ _ _
      (acquire_moves c.args.pass.now _ _ _ _ _ c.in-Open.ensures.counted)
      c.open-opened.ensures.moves)
      c.unless_gone.ensures.moves;
  database = c.unless_gone.ensures.database;
  answer = kept_answer _ _ c.open-opened.result c.unless_gone.result _ _ _
      (opened_answer _ _ _ c.open-opened.result _ _ _
      (was_answered _ _ _ _ c.in-Open.ensures.counted) c.open-opened.ensures.opened)
      c.unless_gone.ensures.kept;
}

pub returns-in-Cancelled-clause-answer : goal.returns-in-Cancelled-clause-answer
returns-in-Cancelled-clause-answer g c = was_answered _ _ _ _ c.in-Cancelled.ensures.counted

pub returns-in-Stale-clause-answer : goal.returns-in-Stale-clause-answer
returns-in-Stale-clause-answer g c =
    inl (_, refl, was_answered _ _ _ _ c.in-Stale.ensures.counted)

pub returns-in-Holding : goal.returns-in-Holding
returns-in-Holding g c = record {
  moves = not_given_moves c.args.pass.now c.acquire-answer.result _ _ _ _ c.in-Holding.is
      c.acquire-answer.ensures.counted;
  database = tt;
  answer = is_denied _ _ c.acquire-answer.result _ _ c.in-Holding.is c.acquire-answer.ensures.counted;
}
