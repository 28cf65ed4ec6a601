use Rattle.scram.proofs.KeptLemmas.{kept_parts, one_kept}
use Rattle.scram.proofs.entry.read_kept.Goals as goal

pub returns-in_default : goal.returns-in_default
returns-in_default c = λ kept is spelled. c.in_default.ensures.none _ _ _ _ (kept_parts c.args.text.now kept is spelled)

pub returns-in_default-count_of : goal.returns-in_default-count_of
returns-in_default-count_of c = λ kept is spelled.
    let same = one_kept c.args.text.now _ _ _ _ _ _ _ _ c.in-Some.ensures.found (kept_parts c.args.text.now kept is spelled) in
    c.in_default-count_of.ensures.none kept.iterations is.count same.count_is

pub returns-in_default-2 : goal.returns-in_default-2
returns-in_default-2 c = λ kept is spelled.
    let same = one_kept c.args.text.now _ _ _ _ _ _ _ _ c.in-Some.ensures.found (kept_parts c.args.text.now kept is spelled) in
    let none = rw c.in_default-2.is at c.in_ok-salt.ensures in
    none kept.salt is.salt same.salt_is

pub returns-in_default-3 : goal.returns-in_default-3
returns-in_default-3 c = λ kept is spelled.
    let same = one_kept c.args.text.now _ _ _ _ _ _ _ _ c.in-Some.ensures.found (kept_parts c.args.text.now kept is spelled) in
    let none = rw c.in_default-3.is at c.in_ok-stored_key.ensures in
    none kept.stored_key is.stored_key same.stored_is

pub returns-in_default-4 : goal.returns-in_default-4
returns-in_default-4 c = λ kept is spelled.
    let same = one_kept c.args.text.now _ _ _ _ _ _ _ _ c.in-Some.ensures.found (kept_parts c.args.text.now kept is spelled) in
    let none = rw c.in_default-4.is at c.in_ok-server_key.ensures in
    none kept.server_key is.server_key same.server_is
