use Rattle.std.proofs.Common.{ap, refl, Err}
use Rattle.std.proofs.lemmas.Result.{MatchResult-weaker}
use Rattle.answer.proofs.FileLemmas.{SaysNoGroup-of, group_fault}
use Rattle.answer.proofs.outcome.outcome_text.Goals as goal

pub returns-in-Ok-clause-outcome : goal.returns-in-Ok-clause-outcome
returns-in-Ok-clause-outcome g c =
    let script = c.in_ok-nodes.field-0 in
    MatchResult-weaker c.run_text.result c.run_text.ensures
    (λ text runs. record {
      nodes = script.nodes.items;
      events = script.events.items;
      said = c.in_ok-nodes.ensures.said;
      group = c.in-Ok.ensures.accepted.0 refl;
      runs = rw (← c.in-Ok.ensures.nodes, ← c.deref.ensures.value) runs;
    })
    (λ fault _. tt)

-- why the script's nodes are no group
pub returns-clause-refused : goal.returns-clause-refused
returns-clause-refused g c =
    let check = c.in-Err.ensures in
    SaysNoGroup-of _ _ _ c.in-Err.error c.in_ok-nodes.ensures.said
    (group_fault _ c.in-Err.error (λ is. check.no_peering.0 (ap Err is))
    (λ is. check.same_peer.0 (ap Err is)) (λ is. check.missing_peer.0 (ap Err is)))
