use Rattle.std.proofs.Common.{ℕ, List, subst}
use Rattle.tracked_links.specs.HeardInside.{IsBeforeZero}
use Rattle.tracked_links.proofs.StatusLemmas.{cut_nameless, cut_short, cut_lost}
use Rattle.tracked_links.proofs.heard_status.hear_cut.Goals as goal

pub returns-then-name-body-clause-hears : goal.returns-then-name-body-clause-hears
returns-then-name-body-clause-hears c =
    λ more. cut_nameless c.args.names.now c.args.body.now c.before_zero-name.result.now more c.args.server.now c.requires.enough c.before_zero-name.ensures c.if-name-body.true

pub returns-then-value-le-LONGEST_VALUE-clause-hears : goal.returns-then-value-le-LONGEST_VALUE-clause-hears
returns-then-value-le-LONGEST_VALUE-clause-hears c =
    λ more. cut_short c.args.names.now c.args.body.now c.before_zero-name.result.now c.before_zero-value.result.now more c.args.server.now c.requires.enough c.before_zero-name.ensures c.if-name-body.false
    (subst (λ (xs : List ℕ). IsBeforeZero xs c.before_zero-value.result.now) c.split_at.ensures.back c.before_zero-value.ensures)
    c.if-value-le-LONGEST_VALUE.true

pub returns-clause-hears : goal.returns-clause-hears
returns-clause-hears c =
    λ more. cut_lost c.note.result c.args.names.now c.args.body.now c.before_zero-name.result.now c.before_zero-value.result.now more c.args.server.now c.note.new.self c.before_zero-name.ensures c.if-name-body.false c.if-value-le-LONGEST_VALUE.false c.note.ensures.long c.note.ensures.ok c.note.ensures.err
