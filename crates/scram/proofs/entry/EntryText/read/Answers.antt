use Rattle.std.proofs.Common.{sym, ◌∙◌}
use Rattle.scram.proofs.PartsLemmas.{always_none, one_cut}
use Rattle.scram.proofs.entry.EntryText.read.Goals as goal

pub returns-in_err-salt-clause-none : goal.returns-in_err-salt-clause-none
returns-in_err-salt-clause-none c =
    let found = c.in_ok-count.ensures.found in
    always_none c.from_residual-in_err-salt.result (λ count salt stored server has.
    let same = one_cut 58 _ _ _ _ found.0 has.count_lacks (sym found.1 ∙ has.spelled) in
    c.in_err-salt.ensures.none salt _ has.salt_lacks same.1)

pub returns-in_err-stored_key-clause-none : goal.returns-in_err-stored_key-clause-none
returns-in_err-stored_key-clause-none c =
    let found = c.in_ok-count.ensures.found in
    let next = c.in_ok-salt.ensures.found in
    always_none c.from_residual-in_err-stored_key.result (λ count salt stored server has.
    let same = one_cut 58 _ _ _ _ found.0 has.count_lacks (sym found.1 ∙ has.spelled) in
    let rest = one_cut 36 _ _ _ _ next.0 has.salt_lacks (sym next.1 ∙ same.1) in
    c.in_err-stored_key.ensures.none stored server has.stored_lacks rest.1)
