use Rattle.session_io.proofs.OpeningLemmas.{took_nothing}
use Rattle.session_io.proofs.login.first_packets.decline.Goals as goal

pub returns-clause-lost : goal.returns-clause-lost
returns-clause-lost g c lost =
    let some = c.write_whole.ensures.stopped lost in
    (some.0, some.1, took_nothing 78 some.0 some.2)
