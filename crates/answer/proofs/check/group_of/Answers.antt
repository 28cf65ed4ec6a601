use Rattle.std.proofs.Common.{ap, Err}
use Rattle.answer.proofs.FileLemmas.{MakeNoGroup-of, group_fault}
use Rattle.answer.proofs.check.group_of.Goals as goal

-- why the settings are no group
pub returns-in-Err-clause-refused : goal.returns-in-Err-clause-refused
returns-in-Err-clause-refused g c =
    let check = c.in-Err.ensures in
    MakeNoGroup-of _ _ _ c.in-Err.error c.in_ok-settings_of.ensures.said
    (group_fault _ c.in-Err.error (λ is. check.no_peering.0 (ap Err is))
    (λ is. check.same_peer.0 (ap Err is)) (λ is. check.missing_peer.0 (ap Err is)))
