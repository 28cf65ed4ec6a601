-- What `decide` asks of a node (own): a fresh node with boot 0, the logins of clients with these
-- secrets, a link for each that has a server key, and then the cancel request. `Cannot`: no node
-- gives a caller these replies.
use Rattle.std.specs.Prelude.{ℕ, ◌≡◌, ◌+◌, ◌<◌, ◌≤◌, List, [], ◌∷◌, ◌++◌, AllPairs, Option, Some, None, length, map, Ok, Err}
use Rattle.pg_ids.specs.declared.any_key.AnyKey.{AnyKey}
use Rattle.pg_ids.specs.declared.any_key.Kind.TheVariants as kind
use Rattle.ini_config.specs.Node.{NodeSettings}
use Rattle.lease.specs.declared.pass.PassRecord.{PassRecord}
use Rattle.lease.specs.declared.permit.PermitRecord.{PermitRecord}
use Rattle.lease.specs.declared.link_record.LinkRecord.{LinkRecord}
use Rattle.lease.specs.declared.ticket.TicketRecord.{TicketRecord}
use Rattle.link_pool.specs.declared.replies.AcquireReply.TheVariants as acquire
use Rattle.link_pool.specs.declared.replies.UpReply.TheVariants as up
use Rattle.link_pool.specs.declared.replies.CloseReply.TheVariants as close
use Rattle.link_pool.specs.declared.replies.FailedReply.TheVariants as failed
use Rattle.node_core.specs.Refusals.{join_number, step_number}
use Rattle.node_core.specs.View.{NodeView, IsFresh}
use Rattle.node_core.specs.declared.exchange.LeaveReply.{LeaveReply}
use Rattle.node_core.specs.declared.exchange.LeaveReply.TheVariants as leave
use Rattle.node_core.specs.declared.exchange.Order.{Order}
use Rattle.node_core.specs.declared.exchange.Exchange.{Exchange}
use Rattle.node_core.specs.declared.exchange.Exchange.TheVariants.{Join, Leave, Acquire, Up, Close, Cancel, Failed}
use Rattle.node_core.specs.declared.refusal.StepRefusal.TheVariants.{Stale, Exhausted, Holding}
use Rattle.locked_node.specs.Replay.{Replay}
use Rattle.locked_node.specs.Totals.{all_calls}
use Rattle.locked_node.specs.Lock.{CallerView, CallerStep}
use Rattle.lease.specs.LinkValue.{LinkValue}
use Rattle.answer.specs.declared.held.Held.{Held}
use Rattle.answer.specs.declared.fault.Reply.{Reply}
use Rattle.answer.specs.declared.fault.Reply.TheVariants as reply
use Rattle.answer.specs.Attended.{Came, Joined, Rests, Asked}
use Rattle.command_line.specs.declared.live_client.LiveClient.{LiveClient}

-- ---- which calls are made

-- the calls by which the client of a pass opens a link, whose server cancels by this key; without a
-- key none
abbrev pub AreOpening : PassRecord → Option (List ℕ) → List Exchange → Type 0
AreOpening pass None calls = calls ≡ []
AreOpening pass (Some key) calls =
    (permit : PermitRecord) × (lease : LinkRecord)
    × (calls ≡ Acquire pass (acquire.Open permit) ∷ Up permit key (up.Up lease) ∷ [])

-- the calls by which a client comes: it joins the first database with its secret and gets a slot
-- and a short key, and then it opens its link, if it has one
pub record IsComing (client : LiveClient) (calls : List Exchange) : Type 0 where
  pub pass : PassRecord
  pub after : List Exchange
  pub are : calls ≡ Join 0 client.secret kind.Short (Ok pass) ∷ after
  pub opening : AreOpening pass client.server_key after

-- the calls by which these clients come, one after the other
abbrev pub AreLive : List LiveClient → List Exchange → Type 0
AreLive [] calls = calls ≡ []
AreLive (client ∷ clients) calls =
    (first : List Exchange) × (rest : List Exchange)
    × (calls ≡ first ++ rest) × IsComing client first × AreLive clients rest

-- ---- replies

-- the reply of a call that isn't expected, where that is none of those below
abbrev pub reply_of : Exchange → Option Reply
reply_of (Join database secret asked (Err refusal)) = Some (reply.Number (join_number refusal))
reply_of (Acquire pass (acquire.Got lease)) = Some reply.Got
reply_of (Acquire pass acquire.Waiting) = Some reply.Waiting
reply_of (Acquire pass acquire.Cancelled) = Some reply.Cancelled
reply_of (Acquire pass acquire.Holding) = Some (reply.Number (step_number Holding))
reply_of (Acquire pass acquire.Exhausted) = Some (reply.Number (step_number Exhausted))
reply_of (Acquire pass acquire.Stale) = Some (reply.Number (step_number Stale))
reply_of (Up permit key (up.Exhausted again stream)) = Some (reply.Number (step_number Exhausted))
reply_of (Up permit key (up.Stale stream)) = Some (reply.Number (step_number Stale))
reply_of (Up permit key (up.AtEnd stream)) = Some (reply.Number (step_number Exhausted))
reply_of (Failed ticket (failed.Closed stream)) = Some reply.Closed
reply_of (Failed ticket failed.Stale) = Some (reply.Number (step_number Stale))
reply_of (Failed ticket failed.Exhausted) = Some (reply.Number (step_number Exhausted))
reply_of (Close lease (close.Stale stream)) = Some (reply.Number (step_number Stale))
reply_of (Close lease (close.Exhausted stream)) = Some (reply.Number (step_number Exhausted))
reply_of (Leave pass (leave.Holding again)) = Some (reply.Number (step_number Holding))
reply_of (Leave pass leave.Stale) = Some (reply.Number (step_number Stale))
reply_of (Leave pass leave.Exhausted) = Some (reply.Number (step_number Exhausted))
reply_of _ = None

-- leaving, where the pass is handed back or isn't
abbrev pub leave_reply : Option PassRecord → LeaveReply PassRecord
leave_reply None = leave.Left
leave_reply (Some held) = leave.Holding held

-- ---- what a caller makes

-- a caller's calls are in the order of their places
abbrev pub IsInOrder : CallerView → Type 0
IsInOrder caller = AllPairs (λ one later. one < later) caller.places

-- a caller made these calls besides, in this order
pub record Makes (old : CallerView) (calls : List Exchange) (new : CallerView) : Type 0 where
  pub lock : new.lock ≡ old.lock
  pub start : new.start ≡ old.start
  pub allowance : new.allowance + length calls ≡ old.allowance
  pub made : new.made ≡ old.made ++ calls
  pub count : all_calls new.tally ≡ all_calls old.tally + length calls
  pub order : IsInOrder old → IsInOrder new

-- a caller made one call, whose reply isn't expected
pub record Trips {R : Type 0} (old : CallerView) (ask : R → Exchange) (given : Reply)
    (new : CallerView) : Type 0 where
  pub reply : R
  pub step : CallerStep old (ask reply) new
  pub says : reply_of (ask reply) ≡ Some given

-- ---- what calls lead to

-- a node of which the first is true is one of which the second is, after these calls
abbrev pub Leads : (NodeView → Type 0) → List Exchange → (NodeView → Type 0) → Type 0
Leads Before calls After = (first last : NodeView) → Before first → Replay first calls last
    → After last

-- a caller made calls that no node of which this is true allows
pub record Cannot (Before : NodeView → Type 0) (old new : CallerView) : Type 0 where
  pub calls : List Exchange
  pub makes : Makes old calls new
  pub never : Leads Before calls (λ _. ⊥)

-- what leases say
abbrev pub leases_of : {S : Type 0} → List (LinkValue S) → List LinkRecord
leases_of leases = map (λ lease. lease.details) leases

-- a caller made the calls by which a client that came opens its link
pub record Opens (old : CallerView) (pass : PassRecord) (key : List ℕ)
    (leases more : List LinkRecord) (new : CallerView) : Type 0 where
  pub calls : List Exchange
  pub opening : AreOpening pass (Some key) calls
  pub makes : Makes old calls new
  pub leads : (size : ℕ) (passes : List PassRecord)
      → Leads (Joined size passes pass leases) calls (Came size (passes ++ pass ∷ []) more)

-- clients came, the last with this pass, which has nothing yet
abbrev pub MayOpen : PassRecord → List LinkRecord → NodeView → Type 0
MayOpen pass leases view = (size : ℕ) × (passes : List PassRecord)
    × Joined size passes pass leases view

-- what clients have: their passes, and the leases of those that have a link
pub record Haves : Type 0 where
  pub passes : List PassRecord
  pub leases : List LinkRecord

-- the same of values
abbrev pub has : Held → Haves
has held = record { passes = held.passes.items; leases = leases_of held.leases.items }

-- clients that have this came, and there is a slot and a place for each of that many more
pub record HasRoom (had : Haves) (more : ℕ) (view : NodeView) : Type 0 where
  pub size : ℕ
  pub room : length had.passes + more ≤ size
  pub came : Came size had.passes had.leases view

-- a caller made the calls by which these clients come
pub record Comes (old : CallerView) (clients : List LiveClient) (had have : Haves)
    (new : CallerView) : Type 0 where
  pub calls : List Exchange
  pub live : AreLive clients calls
  pub makes : Makes old calls new
  pub many : length have.passes ≡ length had.passes + length clients
  pub leads : (size : ℕ) → length have.passes ≤ size
      → Leads (Came size had.passes had.leases) calls (Came size have.passes have.leases)

-- the request was decided on, which left this ticket
abbrev pub WasAsked : Option TicketRecord → NodeView → Type 0
WasAsked ticket view = (passes : List PassRecord) × (leases : List LinkRecord)
    × Asked passes leases ticket view

-- a caller made the calls by which the request of this ticket is reported
pub record Reports (old : CallerView) (ticket : Option TicketRecord) (new : CallerView)
    : Type 0 where
  pub calls : List Exchange
  pub makes : Makes old calls new
  pub leads : (passes : List PassRecord) (leases : List LinkRecord)
      → Leads (Asked passes leases ticket) calls (Rests passes leases)

-- a caller made the calls by which these links are closed, except those that are left
pub record Closes (old : CallerView) (leases left : List LinkRecord) (new : CallerView)
    : Type 0 where
  pub calls : List Exchange
  pub makes : Makes old calls new
  pub leads : (passes : List PassRecord) → Leads (Rests passes leases) calls (Rests passes left)

-- clients that have these links have nothing else
abbrev pub SomeRest : List LinkRecord → NodeView → Type 0
SomeRest leases view = (passes : List PassRecord) × Rests passes leases view

-- a caller made the calls by which clients with these passes leave, except those that are left
pub record Leaves (old : CallerView) (passes left : List PassRecord) (new : CallerView)
    : Type 0 where
  pub calls : List Exchange
  pub makes : Makes old calls new
  pub leads : Leads (Rests passes []) calls (Rests left [])

-- a caller made the calls by which the client of a pass leaves
pub record Goes (old : CallerView) (pass : PassRecord) (new : CallerView) : Type 0 where
  pub calls : List Exchange
  pub makes : Makes old calls new
  pub leads : (passes : List PassRecord)
      → Leads (Rests (passes ++ pass ∷ []) []) calls (Rests passes [])

-- the client of this pass is the last of those who came, none of whom has a link
abbrev pub IsLast : PassRecord → NodeView → Type 0
IsLast pass view = (passes : List PassRecord) × Rests (passes ++ pass ∷ []) [] view

-- a caller made some calls
pub record Calls (old new : CallerView) : Type 0 where
  pub calls : List Exchange
  pub makes : Makes old calls new

-- these clients came, and then a request with this key got this order; more calls may follow
pub record Orders (old : CallerView) (clients : List LiveClient) (key : AnyKey)
    (order : Order TicketRecord) (new : CallerView) : Type 0 where
  pub calls : List Exchange
  pub live : AreLive clients calls
  pub more : List Exchange
  pub makes : Makes old (calls ++ Cancel key order ∷ more) new

-- ---- what a new node may do

-- from this view these clients come, and then the node gives this order for a request with this key
pub record MayOrder (first : NodeView) (clients : List LiveClient) (key : AnyKey)
    (order : Order TicketRecord) : Type 0 where
  pub calls : List Exchange
  pub live : AreLive clients calls
  pub last : NodeView
  pub replay : Replay first (calls ++ Cancel key order ∷ []) last

-- a new node of boot 0 to which these clients came may give this order for a request with this key
pub record IsDecided (settings : NodeSettings) (clients : List LiveClient) (key : AnyKey)
    (order : Order TicketRecord) : Type 0 where
  pub fresh : NodeView
  pub made : IsFresh settings 0 fresh
  pub order_is : MayOrder fresh clients key order
