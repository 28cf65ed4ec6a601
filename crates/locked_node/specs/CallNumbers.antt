-- The kinds of calls, and the numbers in them (own). The kind of a call is its step with its
-- answer, and the kind of its key. `numbers_of` are the numbers of the values handed in and out, in
-- order; the kind fixes how many there are.
use Rattle.std.specs.Prelude.{ℕ, ◌+◌, ◌*◌, List, [], ◌∷◌, ◌++◌, drop, Ok, Err}
use Rattle.byteorder.specs.Endian.{big_number}
use Rattle.pg_ids.specs.Key.{key_bytes}
use Rattle.pg_ids.specs.AnyKey.{peer_of}
use Rattle.pg_ids.specs.AnyKey as any
use Rattle.pg_ids.specs.declared.any_key.AnyKey.{AnyKey}
use Rattle.pg_ids.specs.declared.any_key.AnyKey.TheVariants as key
use Rattle.pg_ids.specs.declared.any_key.Kind.{Kind}
use Rattle.pg_ids.specs.declared.any_key.Kind.TheVariants.{Short, Long}
use Rattle.startup.specs.declared.packet.Packet.{Packet}
use Rattle.startup.specs.declared.packet.Packet.TheVariants as packet
use Rattle.lease.specs.declared.link_place.LinkPlace.{LinkPlace}
use Rattle.lease.specs.declared.link_record.LinkRecord.{LinkRecord}
use Rattle.lease.specs.declared.pass.PassRecord.{PassRecord}
use Rattle.lease.specs.declared.permit.PermitRecord.{PermitRecord}
use Rattle.lease.specs.declared.ticket.TicketRecord.{TicketRecord}
use Rattle.link_pool.specs.declared.replies.AcquireReply.TheVariants as acquire
use Rattle.link_pool.specs.declared.replies.UpReply.TheVariants as up
use Rattle.link_pool.specs.declared.replies.UpFailedReply.TheVariants as failing
use Rattle.link_pool.specs.declared.replies.ReleaseReply.TheVariants as release
use Rattle.link_pool.specs.declared.replies.CloseReply.TheVariants as close
use Rattle.link_pool.specs.declared.replies.EndedReply.TheVariants as ended
use Rattle.link_pool.specs.declared.replies.FailedReply.TheVariants as failed
use Rattle.link_pool.specs.declared.replies.RestartReply.TheVariants as restart
use Rattle.cancel_router.specs.declared.refusal.RouteRefusal.TheVariants as route
use Rattle.node_core.specs.declared.refusal.JoinRefusal.TheVariants as join
use Rattle.node_core.specs.declared.refusal.CancelRefusal.TheVariants as cancel
use Rattle.node_core.specs.declared.exchange.LeaveReply.TheVariants as leave
use Rattle.node_core.specs.declared.exchange.Order.TheVariants as order
use Rattle.node_core.specs.declared.exchange.Exchange.{Exchange}
use Rattle.node_core.specs.declared.exchange.Exchange.TheVariants.{
  Join,
  Leave,
  Acquire,
  Up,
  UpFailed,
  Release,
  Close,
  Cancel,
  Ended,
  Failed,
  Restart,
}
use Rattle.locked_node.specs.declared.call_answer.CallAnswer.{CallAnswer}
use Rattle.locked_node.specs.declared.call_answer.CallAnswer.TheVariants as kind
use Rattle.locked_node.specs.declared.call_kind.CallKind.{CallKind}

-- how many steps with the names of their answers there are
abbrev pub ANSWERS : ℕ
ANSWERS = 48

-- how many kinds of calls there are
abbrev pub KINDS : ℕ
KINDS = 96

-- how many numbers a call has at most
abbrev pub WIDEST : ℕ
WIDEST = 12

-- the step of a call, with the answer's name
abbrev pub answer_of : Exchange → CallAnswer
answer_of (Join database secret asked (Ok pass)) = kind.Joined
answer_of (Join database secret asked (Err join.Full)) = kind.JoinFull
answer_of (Join database secret asked (Err join.Exhausted)) = kind.JoinExhausted
answer_of (Leave pass leave.Left) = kind.Left
answer_of (Leave pass (leave.Holding again)) = kind.LeaveHolding
answer_of (Leave pass leave.Stale) = kind.LeaveStale
answer_of (Leave pass leave.Exhausted) = kind.LeaveExhausted
answer_of (Acquire pass (acquire.Got lease)) = kind.AcquireGot
answer_of (Acquire pass (acquire.Open permit)) = kind.AcquireOpen
answer_of (Acquire pass acquire.Waiting) = kind.AcquireWaiting
answer_of (Acquire pass acquire.Cancelled) = kind.AcquireCancelled
answer_of (Acquire pass acquire.Holding) = kind.AcquireHolding
answer_of (Acquire pass acquire.Stale) = kind.AcquireStale
answer_of (Acquire pass acquire.Exhausted) = kind.AcquireExhausted
answer_of (Up permit key (up.Up lease)) = kind.WentUp
answer_of (Up permit key (up.Exhausted again stream)) = kind.UpExhausted
answer_of (Up permit key (up.Stale stream)) = kind.UpStale
answer_of (Up permit key (up.AtEnd stream)) = kind.UpAtEnd
answer_of (UpFailed permit failing.Freed) = kind.UpFailedFreed
answer_of (UpFailed permit failing.Stale) = kind.UpFailedStale
answer_of (UpFailed permit failing.Exhausted) = kind.UpFailedExhausted
answer_of (Release lease release.Idle) = kind.ReleasedIdle
answer_of (Release lease release.Quarantined) = kind.ReleasedQuarantined
answer_of (Release lease (release.Closed stream)) = kind.ReleasedClosed
answer_of (Release lease (release.Stale stream)) = kind.ReleaseStale
answer_of (Release lease (release.Exhausted stream)) = kind.ReleaseExhausted
answer_of (Close lease (close.Closed stream)) = kind.Closed
answer_of (Close lease (close.Stale stream)) = kind.CloseStale
answer_of (Close lease (close.Exhausted stream)) = kind.CloseExhausted
answer_of (Cancel key (order.Serve ticket database server)) = kind.Served
answer_of (Cancel key (order.Forward to packet)) = kind.Forwarded
answer_of (Cancel key (order.Unwait slot)) = kind.Unwaited
answer_of (Cancel key (order.Refused (cancel.Route route.Spent))) = kind.CancelSpent
answer_of (Cancel key (order.Refused (cancel.Route route.Unknown))) = kind.CancelUnknown
answer_of (Cancel key (order.Refused (cancel.Route route.NoPeer))) = kind.CancelNoPeer
answer_of (Cancel key (order.Refused (cancel.Route route.NoLink))) = kind.CancelNoLink
answer_of (Cancel key (order.Refused cancel.Busy)) = kind.CancelBusy
answer_of (Cancel key (order.Refused cancel.Exhausted)) = kind.CancelExhausted
answer_of (Ended ticket ended.Freed) = kind.EndedFreed
answer_of (Ended ticket ended.Counted) = kind.EndedCounted
answer_of (Ended ticket ended.Stale) = kind.EndedStale
answer_of (Ended ticket ended.Exhausted) = kind.EndedExhausted
answer_of (Failed ticket failed.Condemned) = kind.FailedCondemned
answer_of (Failed ticket (failed.Closed stream)) = kind.FailedClosed
answer_of (Failed ticket failed.Stale) = kind.FailedStale
answer_of (Failed ticket failed.Exhausted) = kind.FailedExhausted
answer_of (Restart boot restart.Restarted) = kind.Restarted
answer_of (Restart boot restart.Exhausted) = kind.RestartExhausted

-- its place among all
abbrev pub answer_index : CallAnswer → ℕ
answer_index kind.AcquireGot = 0
answer_index kind.ReleasedIdle = 1
answer_index kind.Joined = 2
answer_index kind.JoinFull = 3
answer_index kind.JoinExhausted = 4
answer_index kind.Left = 5
answer_index kind.LeaveHolding = 6
answer_index kind.LeaveStale = 7
answer_index kind.LeaveExhausted = 8
answer_index kind.AcquireOpen = 9
answer_index kind.AcquireWaiting = 10
answer_index kind.AcquireCancelled = 11
answer_index kind.AcquireHolding = 12
answer_index kind.AcquireStale = 13
answer_index kind.AcquireExhausted = 14
answer_index kind.WentUp = 15
answer_index kind.UpExhausted = 16
answer_index kind.UpStale = 17
answer_index kind.UpAtEnd = 18
answer_index kind.UpFailedFreed = 19
answer_index kind.UpFailedStale = 20
answer_index kind.UpFailedExhausted = 21
answer_index kind.ReleasedQuarantined = 22
answer_index kind.ReleasedClosed = 23
answer_index kind.ReleaseStale = 24
answer_index kind.ReleaseExhausted = 25
answer_index kind.Closed = 26
answer_index kind.CloseStale = 27
answer_index kind.CloseExhausted = 28
answer_index kind.Served = 29
answer_index kind.Forwarded = 30
answer_index kind.Unwaited = 31
answer_index kind.CancelSpent = 32
answer_index kind.CancelUnknown = 33
answer_index kind.CancelNoPeer = 34
answer_index kind.CancelNoLink = 35
answer_index kind.CancelBusy = 36
answer_index kind.CancelExhausted = 37
answer_index kind.EndedFreed = 38
answer_index kind.EndedCounted = 39
answer_index kind.EndedStale = 40
answer_index kind.EndedExhausted = 41
answer_index kind.FailedCondemned = 42
answer_index kind.FailedClosed = 43
answer_index kind.FailedStale = 44
answer_index kind.FailedExhausted = 45
answer_index kind.Restarted = 46
answer_index kind.RestartExhausted = 47

-- the kind of the key that a call names, or that a login asked for; short where there is none
abbrev pub asked_of : Exchange → Kind
asked_of (Join database secret asked reply) = asked
asked_of (Leave pass reply) = any.kind_of pass.key
asked_of (Acquire pass reply) = any.kind_of pass.key
asked_of (Cancel key reply) = any.kind_of key
asked_of other = Short

-- the kind of a call
abbrev pub kind_of : Exchange → CallKind
kind_of call = record { answer = answer_of call; key = asked_of call }

-- the kinds of the calls with this answer: with a short key or none, and with a long one
abbrev pub short : CallAnswer → CallKind
short answer = record { answer = answer; key = Short }

abbrev pub long : CallAnswer → CallKind
long answer = record { answer = answer; key = Long }

-- short keys first
abbrev pub key_index : Kind → ℕ
key_index Short = 0
key_index Long = 1

-- the place of a kind among all kinds
abbrev pub index_of : CallKind → ℕ
index_of kind = 2 * answer_index kind.answer + key_index kind.key

-- a place of the pools
abbrev pub place_numbers : LinkPlace → List ℕ
place_numbers at = at.database ∷ at.index ∷ []

-- a pass by itself: its node, that node's incarnation, and its number there
abbrev pub pass_numbers : PassRecord → List ℕ
pass_numbers pass = peer_of pass.key ∷ pass.incarnation ∷ pass.number ∷ []

-- a permit likewise, with its place
abbrev pub permit_numbers : PermitRecord → List ℕ
permit_numbers permit = permit.peer ∷ permit.incarnation ∷ permit.number ∷ place_numbers permit.at

-- a lease, by its link's number
abbrev pub link_numbers : LinkRecord → List ℕ
link_numbers lease = lease.peer ∷ lease.incarnation ∷ lease.link ∷ place_numbers lease.at

-- a ticket, with its link
abbrev pub ticket_numbers : TicketRecord → List ℕ
ticket_numbers ticket =
    ticket.peer ∷ ticket.incarnation ∷ ticket.number ∷ ticket.link ∷ place_numbers ticket.at

-- eight key bytes as a number
abbrev pub key_number : List ℕ → ℕ
key_number bytes = big_number 8 bytes

-- a key: its first eight bytes and, if it is long, its boot and its serial
abbrev pub key_numbers : AnyKey → List ℕ
key_numbers (key.Short short) = key_number (key_bytes short) ∷ []
key_numbers (key.Long short part) = key_number (key_bytes short) ∷ part.boot ∷ part.serial ∷ []

-- how many these are
abbrev pub key_width : Kind → ℕ
key_width Short = 1
key_width Long = 3

-- the key of a CancelRequest, which follows its length and its code, of four bytes each
abbrev pub packet_numbers : Packet → List ℕ
packet_numbers (packet.Short bytes) = key_number (drop 8 bytes) ∷ []
packet_numbers (packet.Long bytes) =
    key_number (drop 8 bytes) ∷ key_number (drop 16 bytes) ∷ key_number (drop 24 bytes) ∷ []

-- The numbers of a call, in their order: those of each value handed in or out, then each peer,
-- slot, database, secret and boot, then each key.
abbrev pub numbers_of : Exchange → List ℕ
numbers_of (Join database secret asked (Ok pass)) =
    pass_numbers pass ++ database ∷ secret ∷ key_numbers pass.key
numbers_of (Join database secret asked (Err refusal)) = database ∷ secret ∷ []
numbers_of (Leave pass (leave.Holding again)) =
    pass_numbers pass ++ pass_numbers again ++ key_numbers pass.key ++ key_numbers again.key
numbers_of (Leave pass reply) = pass_numbers pass ++ key_numbers pass.key
numbers_of (Acquire pass (acquire.Got lease)) =
    pass_numbers pass ++ link_numbers lease ++ key_numbers pass.key
numbers_of (Acquire pass (acquire.Open permit)) =
    pass_numbers pass ++ permit_numbers permit ++ key_numbers pass.key
numbers_of (Acquire pass reply) = pass_numbers pass ++ key_numbers pass.key
numbers_of (Up permit key (up.Up lease)) =
    permit_numbers permit ++ link_numbers lease ++ key_number key ∷ []
numbers_of (Up permit key (up.Exhausted again stream)) =
    permit_numbers permit ++ permit_numbers again ++ key_number key ∷ []
numbers_of (Up permit key reply) = permit_numbers permit ++ key_number key ∷ []
numbers_of (UpFailed permit reply) = permit_numbers permit
numbers_of (Release lease reply) = link_numbers lease
numbers_of (Close lease reply) = link_numbers lease
numbers_of (Cancel key (order.Serve ticket database server)) =
    ticket_numbers ticket ++ database ∷ key_numbers key ++ key_number server ∷ []
numbers_of (Cancel key (order.Forward to packet)) = to ∷ key_numbers key ++ packet_numbers packet
numbers_of (Cancel key (order.Unwait slot)) = slot ∷ key_numbers key
numbers_of (Cancel key (order.Refused refusal)) = key_numbers key
numbers_of (Ended ticket reply) = ticket_numbers ticket
numbers_of (Failed ticket reply) = ticket_numbers ticket
numbers_of (Restart boot reply) = boot ∷ []
