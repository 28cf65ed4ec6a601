-- How a lease is handed in after a stay (own): released exactly after `Release`, otherwise closed.
use Rattle.std.specs.Prelude.{◌≡◌}
use Rattle.client_state.specs.Session.{Session}
use Rattle.client_state.specs.Acts.{over}
use Rattle.lease.specs.declared.link_record.LinkRecord.{LinkRecord}
use Rattle.session_io.specs.declared.session.outcome.Stayed.{Stayed}
use Rattle.session_io.specs.declared.session.outcome.Stayed.TheVariants.{Release, Close, End}
use Rattle.node_threads.specs.declared.desk.call.DeskCall.{DeskCall}
use Rattle.node_threads.specs.declared.desk.call.DeskCall.TheVariants as call

-- the link is given back exactly where the stay says so, and closed otherwise
abbrev pub handed_in : Stayed → LinkRecord → DeskCall
handed_in Release lease = call.Release lease
handed_in Close lease = call.Close lease
handed_in (End reply) lease = call.Close lease

-- where the session goes on it has no lease, and nothing is outstanding
abbrev pub GoesOnWithout : Stayed → Session → Session → Type 0
GoesOnWithout Release old new = new ≡ over old
GoesOnWithout Close old new = new ≡ over old
GoesOnWithout (End reply) old new = Unit {0}
