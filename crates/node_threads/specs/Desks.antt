-- The calls of a desk (own). `reported`: a clean end is reported as ended, any other as failed.
-- `Tells`: one counted step of that name at a lock. `Lists`: one call more in a list.
use Rattle.std.specs.Prelude.{ℕ, ◌≡◌, ◌+◌, List, [], ◌∷◌, ◌++◌}
use Rattle.lease.specs.declared.ticket.TicketRecord.{TicketRecord}
use Rattle.link_pool.specs.declared.replies.EndedReply.{EndedReply}
use Rattle.link_pool.specs.declared.replies.EndedReply.TheVariants as ended
use Rattle.link_pool.specs.declared.replies.FailedReply.{FailedReply}
use Rattle.link_pool.specs.declared.replies.FailedReply.TheVariants as failed
use Rattle.link_pool.specs.declared.replies.ReleaseReply.{ReleaseReply}
use Rattle.link_pool.specs.declared.replies.ReleaseReply.TheVariants as release
use Rattle.link_pool.specs.declared.replies.CloseReply.{CloseReply}
use Rattle.link_pool.specs.declared.replies.CloseReply.TheVariants as close
use Rattle.node_core.specs.declared.exchange.Exchange.TheVariants as step
use Rattle.locked_node.specs.Lock.{CallerView, Counted}
use Rattle.peer_forward.specs.declared.outcome.Outcome.{Outcome}
use Rattle.peer_forward.specs.declared.outcome.Outcome.TheVariants as outcome
use Rattle.node_threads.specs.declared.desk.call.DeskCall.{DeskCall}
use Rattle.node_threads.specs.declared.desk.call.DeskCall.TheVariants.{Ended, Failed, Release, Close}

-- the call that reports how a ticket's request was carried: as ended exactly after a clean end
abbrev pub reported : Outcome → TicketRecord → DeskCall
reported outcome.Ended ticket = Ended ticket
reported outcome.Failed ticket = Failed ticket

-- A node behind its lock got this call: the caller made the one step of this name, with what was
-- handed in, and it was counted with its reply; or the caller had no allowance, and nothing
-- changed.
abbrev pub Tells : DeskCall → CallerView → CallerView → Type 0
Tells (Ended ticket) old new =
    (reply : EndedReply) × Counted (step.Ended ticket reply) reply ended.Exhausted old new
Tells (Failed ticket) old new = (reply : FailedReply (Unit {0}))
    × Counted (step.Failed ticket reply) reply failed.Exhausted old new
Tells (Release lease) old new = (reply : ReleaseReply (Unit {0}))
    × Counted (step.Release lease reply) reply (release.Exhausted tt) old new
Tells (Close lease) old new = (reply : CloseReply (Unit {0}))
    × Counted (step.Close lease reply) reply (close.Exhausted tt) old new

-- A desk that is a list: its calls so far, in order, the streams of the leases that they handed in,
-- and how many more calls it has room for.
pub record ListView (S : Type 0) : Type 0 where
  pub calls : List DeskCall
  pub streams : List S
  pub room : ℕ

-- the streams that a call hands in: that of its lease
abbrev pub HandsIn : {S : Type 0} → DeskCall → List S → Type 0
HandsIn (Ended ticket) streams = streams ≡ []
HandsIn (Failed ticket) streams = streams ≡ []
HandsIn {S} (Release lease) streams = (stream : S) × (streams ≡ stream ∷ [])
HandsIn {S} (Close lease) streams = (stream : S) × (streams ≡ stream ∷ [])

-- the list has one call more, at its end
pub record Lists {S : Type 0} (old : ListView S) (call : DeskCall) (new : ListView S) : Type 0 where
  pub calls : new.calls ≡ old.calls ++ call ∷ []
  pub handed : List S
  pub own : HandsIn call handed
  pub streams : new.streams ≡ old.streams ++ handed
  pub room : new.room + 1 ≡ old.room
