use Rattle.std.proofs.Common.{true}
use Rattle.session_io.proofs.OpeningLemmas.{refused_for, ends_refused}
use Rattle.session_io.proofs.login.first_packets.end.Goals as goal

pub returns-in-Err : goal.returns-in-Err
returns-in-Err g c =
    ends_refused _ _ _ c.args.opening.now c.args.text.now c.in-Err.error
    (refused_for c.args.opening.now c.args.text.now true c.in-Err.error c.in-Err.ensures.found)
    c.refuse_first.ensures
