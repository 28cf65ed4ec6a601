use Rattle.std.proofs.Common.{refl}
use Rattle.std.proofs.lemmas.Bool.{false≢true}
use Rattle.startup.proofs.SessionLemmas.{session_of_read, none_of_read}
use Rattle.startup.proofs.session.Session.read_by.Goals as goal

pub returns-then-are_distinct-clause-found : goal.returns-then-are_distinct-clause-found
returns-then-are_distinct-clause-found c =
    session_of_read c.args.body.now c.in_ok-session.session _ c.in_ok-session.ensures.found.1 (c.if-are_distinct.ensures.0 refl)

pub returns-else-are_distinct-clause-none : goal.returns-else-are_distinct-clause-none
returns-else-are_distinct-clause-none c =
    none_of_read c.args.body.now c.in_ok-session.session _ c.in_ok-session.ensures.found.1 (λ distinct. false≢true (c.if-are_distinct.ensures.1 distinct))
