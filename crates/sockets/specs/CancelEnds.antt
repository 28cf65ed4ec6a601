-- How a cancel request has ended (own), by what became of it, if anything: it wasn't served, or it
-- was sent nowhere, or its connection to a server or peer ended cleanly, or it may still be acted on.
use Rattle.std.specs.Prelude.{Option, Some, None}
use Rattle.peer_forward.specs.declared.outcome.Outcome.TheVariants.{Ended, Failed}
use Rattle.peer_forward.specs.declared.verdict.Verdict.{Verdict}
use Rattle.peer_forward.specs.declared.verdict.Verdict.TheVariants.{Refused, Unwaited, Carried, NoConnect}
use Rattle.sockets.specs.declared.cancel_end.CancelEnd.{CancelEnd}
use Rattle.sockets.specs.declared.cancel_end.CancelEnd.TheVariants as ended

-- the end of a request of which this became, or nothing
abbrev pub end_of : Option Verdict → CancelEnd
end_of None = ended.NotServed
end_of (Some Refused) = ended.NothingSent
end_of (Some Unwaited) = ended.NothingSent
end_of (Some (Carried Ended)) = ended.Settled
end_of (Some (Carried Failed)) = ended.Failed
end_of (Some NoConnect) = ended.Failed
