use Rattle.std.proofs.Common.{ap, Err}
use Rattle.answer.proofs.AllFaultLemmas.{told_group}
use Rattle.answer.proofs.FileLemmas.{group_fault}
use Rattle.answer.proofs.check_all.group_told.Goals as goal

pub returns-in-Err-clause-refused : goal.returns-in-Err-clause-refused
returns-in-Err-clause-refused c =
    let check = c.in-Err.ensures in
    told_group _ c.in-Err.error c.group_fault.result
    (group_fault _ c.in-Err.error (λ is. check.no_peering.0 (ap Err is))
    (λ is. check.same_peer.0 (ap Err is)) (λ is. check.missing_peer.0 (ap Err is)))
    c.group_fault.ensures.memory c.group_fault.ensures.told
