-- How a cancel connection is served (own). `ServesCancel`: one order for its key, the connection
-- that its request was carried over, one report of its ticket, what is counted, and the verdict for
-- the requester.
use Rattle.std.specs.Prelude.{ℕ, ◌≡◌, ◌<◌, ◌⊎◌, List, [], ◌∷◌, Result, Ok, Err}
use Rattle.std.specs.declared.io.Error.{Error}
use Rattle.pg_ids.specs.declared.any_key.AnyKey.{AnyKey}
use Rattle.pg_ids.specs.declared.any_key.KeyBytes.TheVariants as bytes
use Rattle.startup.specs.CancelPacket.{packet_of, packet_bytes}
use Rattle.lease.specs.declared.ticket.TicketRecord.{TicketRecord}
use Rattle.cancel_router.specs.declared.refusal.RouteRefusal.TheVariants as route
use Rattle.node_core.specs.declared.refusal.CancelRefusal.{CancelRefusal}
use Rattle.node_core.specs.declared.refusal.CancelRefusal.TheVariants as refusal
use Rattle.node_core.specs.declared.exchange.Order.{Order}
use Rattle.node_core.specs.declared.exchange.Order.TheVariants as order
use Rattle.node_core.specs.declared.exchange.Exchange.TheVariants as step
use Rattle.locked_node.specs.Lock.{CallerView, Counted}
use Rattle.peer_forward.specs.Calls.{Effect}
use Rattle.peer_forward.specs.Carrying.{Carried}
use Rattle.peer_forward.specs.declared.outcome.Outcome.{Outcome}
use Rattle.peer_forward.specs.declared.outcome.Outcome.TheVariants as outcome
use Rattle.peer_forward.specs.declared.verdict.Verdict.{Verdict}
use Rattle.peer_forward.specs.declared.verdict.Verdict.TheVariants as verdict
use Rattle.stat_board.specs.declared.counter.Counter.{Counter}
use Rattle.stat_board.specs.declared.counter.Counter.TheVariants as counter
use Rattle.stat_board.specs.Places.{place_of}
use Rattle.stat_board.specs.Seats.{SeatView, Raises}
use Rattle.node_threads.specs.Desks.{reported, Tells}

-- one more is counted at this place, or nothing by a seat without allowance
pub record Tries (old : SeatView) (place : ℕ) (new : SeatView) : Type 0 where
  pub counted : 0 < old.allowance → Raises old place new
  pub passed : old.allowance ≡ 0 → new ≡ old

-- one more is counted of each of these, in their order
abbrev pub CountsAll : List Counter → SeatView → SeatView → Type 0
CountsAll [] old new = new ≡ old
CountsAll (word ∷ more) old new =
    (next : SeatView) × Tries old (place_of word) next × CountsAll more next new

-- the word of a refusal: the four of a route have one, and no other
abbrev pub words_of_refusal : CancelRefusal → List Counter
words_of_refusal (refusal.Route route.Spent) = counter.Spent ∷ []
words_of_refusal (refusal.Route route.Unknown) = counter.Unknown ∷ []
words_of_refusal (refusal.Route route.NoPeer) = counter.NoPeer ∷ []
words_of_refusal (refusal.Route route.NoLink) = counter.NoLink ∷ []
words_of_refusal refusal.Busy = []
words_of_refusal refusal.Exhausted = []

-- the word of the end of a request that was sent to a server
abbrev pub word_of_outcome : Outcome → Counter
word_of_outcome outcome.Ended = counter.Ended
word_of_outcome outcome.Failed = counter.Failed

-- what is counted of an order that was carried out with this outcome
abbrev pub words_of : Order TicketRecord → Outcome → List Counter
words_of (order.Serve ticket database server) end = counter.Sent ∷ word_of_outcome end ∷ []
words_of (order.Forward peer packet) end = counter.Forwarded ∷ []
words_of (order.Unwait slot) end = []
words_of (order.Refused reason) end = words_of_refusal reason

-- what may come of connecting to the database or peer with a number
abbrev pub Opens : Type 0 → Type 1
Opens T = ℕ → Result T Error → Type 0

-- a packet was carried with this outcome, from the first byte on, on a stream that was opened for
-- the database or peer with this number
pub record CarriedOver {T : Type 0} (wrote gave : Effect T) (opens : Opens T) (number : ℕ)
    (packet : List ℕ) (end : Outcome) : Type 0 where
  pub stream : T
  pub opened : opens number (Ok stream)
  pub after : T
  pub carried : Carried wrote gave stream packet end after

-- how a packet is carried on, and to whom
abbrev pub Carries : Type 1
Carries = ℕ → List ℕ → Outcome → Verdict → Type 0

-- how a packet that is carried on ends: by its outcome, or because the one try to connect failed
abbrev pub IsCarried : {T : Type 0} → Effect T → Effect T → Opens T → Carries
IsCarried wrote gave opens number packet end told =
    (CarriedOver wrote gave opens number packet end × (told ≡ verdict.Carried end))
    ⊎ ((error : Error) × opens number (Err error)
    × (told ≡ verdict.NoConnect) × (end ≡ outcome.Failed))

-- The verdict of an order. A request for a server has the key of the link's backend, and goes to
-- the server of the link's database; one for a peer is the packet of the order.
abbrev pub IsVerdict : Carries → Carries → Order TicketRecord → Outcome → Verdict → Type 0
IsVerdict ToServer ToPeer (order.Serve ticket database server) end told =
    ToServer database (packet_bytes (packet_of (bytes.Short server))) end told
IsVerdict ToServer ToPeer (order.Forward peer packet) end told =
    ToPeer peer (packet_bytes packet) end told
IsVerdict ToServer ToPeer (order.Unwait slot) end told = told ≡ verdict.Unwaited
IsVerdict ToServer ToPeer (order.Refused reason) end told = told ≡ verdict.Refused

-- for an order to serve, the end of its ticket's request is reported to the node; for any other,
-- nothing changes
abbrev pub Settles : Order TicketRecord → Outcome → CallerView → CallerView → Type 0
Settles (order.Serve ticket database server) end old new = Tells (reported end ticket) old new
Settles (order.Forward peer packet) end old new = new ≡ old
Settles (order.Unwait slot) end old new = new ≡ old
Settles (order.Refused reason) end old new = new ≡ old

-- A request that was carried on: with some verdict of this outcome the requester's connection is
-- finished.
abbrev pub FinishesCarried : (Outcome → Verdict → Type 0) → (Verdict → Type 0) → Outcome → Type 0
FinishesCarried IsEnd Finished end = (told : Verdict) × IsEnd end told × Finished told

-- A cancel connection was served by a caller and a seat: the node gave one order for its key, which
-- was carried out with some outcome, and the requester's connection was finished by its verdict.
pub record ServesCancel (ToServer ToPeer : Carries) (key : AnyKey) (old new : CallerView)
    (seat next : SeatView) (Finished : Verdict → Type 0) : Type 0 where
  pub given : Order TicketRecord
  pub end : Outcome
  pub between : CallerView
  pub asked : Counted (step.Cancel key given) given (order.Refused refusal.Exhausted) old between
  pub settled : Settles given end between new
  pub counted : CountsAll (words_of given end) seat next
  pub told : Verdict
  pub verdict : IsVerdict ToServer ToPeer given end told
  pub finished : Finished told
