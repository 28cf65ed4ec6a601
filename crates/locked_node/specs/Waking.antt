-- Whom a call wakes (own): the client whose wait it cancels, everybody at a new start, and
-- otherwise the slot whose turn it is after the call at the database where the call may have
-- changed that.
use Rattle.std.specs.Prelude.{ℕ, ◌≡◌, ◌<◌, Option, Some, None, [], ◌∷◌, length, slice_get}
use Rattle.atomic_table.specs.Table.{Me}
use Rattle.pg_ids.specs.AnyKey.{slot_of}
use Rattle.lease.specs.declared.pass.PassRecord.{PassRecord}
use Rattle.link_pool.specs.Turns.{IsTurn}
use Rattle.link_pool.specs.declared.replies.RestartReply.{RestartReply}
use Rattle.link_pool.specs.declared.replies.RestartReply.TheVariants as restart
use Rattle.node_core.specs.View.{NodeView, client_at}
use Rattle.node_core.specs.declared.client.Client.{Client}
use Rattle.node_core.specs.declared.exchange.Exchange.{Exchange}
use Rattle.node_core.specs.declared.exchange.Exchange.TheVariants as call
use Rattle.node_core.specs.declared.exchange.Order.{Order}
use Rattle.node_core.specs.declared.exchange.Order.TheVariants as order
use Rattle.locked_node.specs.Journal.{JournalView}
use Rattle.locked_node.specs.declared.rule.Share.{Share}
use Rattle.locked_node.specs.declared.turn.Turn.{Turn}
use Rattle.locked_node.specs.declared.turn.Woken.{Woken}
use Rattle.locked_node.specs.declared.turn.Woken.TheVariants.{Nobody, One, All}

-- the database of a client, if there is one
abbrev pub its_database : Option Client → Option ℕ
its_database None = None
its_database (Some client) = Some client.database

-- the database of the client in the slot of a pass
abbrev pub database_at : NodeView → PassRecord → Option ℕ
database_at v pass = its_database (client_at (slice_get v.clients (slot_of pass.key)))

-- the database at which a call may make it another client's turn, in the state before it
abbrev pub database_of : NodeView → Exchange → Option ℕ
database_of v (call.Join database secret kind reply) = None
database_of v (call.Leave pass reply) = database_at v pass
database_of v (call.Acquire pass reply) = database_at v pass
database_of v (call.Up permit key reply) = None
database_of v (call.UpFailed permit reply) = Some permit.at.database
database_of v (call.Release link reply) = Some link.at.database
database_of v (call.Close link reply) = Some link.at.database
database_of v (call.Cancel key reply) = None
database_of v (call.Ended ticket reply) = Some ticket.at.database
database_of v (call.Failed ticket reply) = Some ticket.at.database
database_of v (call.Restart boot reply) = None

-- whom a cancel request wakes, and whom a new start
abbrev pub woken_by_order : {T : Type 0} → Order T → Woken
woken_by_order (order.Serve ticket database key) = Nobody
woken_by_order (order.Forward peer packet) = Nobody
woken_by_order (order.Unwait slot) = One slot
woken_by_order (order.Refused refusal) = Nobody

abbrev pub woken_by_start : RestartReply → Woken
woken_by_start restart.Restarted = All
woken_by_start restart.Exhausted = Nobody

-- whom a call wakes by its reply alone
abbrev pub woken_by : Exchange → Woken
woken_by (call.Join database secret kind reply) = Nobody
woken_by (call.Leave pass reply) = Nobody
woken_by (call.Acquire pass reply) = Nobody
woken_by (call.Up permit key reply) = Nobody
woken_by (call.UpFailed permit reply) = Nobody
woken_by (call.Release link reply) = Nobody
woken_by (call.Close link reply) = Nobody
woken_by (call.Cancel key reply) = woken_by_order reply
woken_by (call.Ended ticket reply) = Nobody
woken_by (call.Failed ticket reply) = Nobody
woken_by (call.Restart boot reply) = woken_by_start reply

-- the slot whose turn it is at a database is woken, and nobody where it is nobody's
abbrev pub IsTurnOf : ℕ → Woken → NodeView → Type 0
IsTurnOf database Nobody v = IsTurn database None v.links
IsTurnOf database (One slot) v = IsTurn database (Some slot) v.links
IsTurnOf database All v = ⊥

-- whom a call wakes that wakes nobody by its reply
abbrev pub WokenAt : Option ℕ → Woken → NodeView → Type 0
WokenAt None woken v = woken ≡ Nobody
WokenAt (Some database) woken v = database < length v.pools → IsTurnOf database woken v

-- whom a call wakes in the end
abbrev pub WokenFirst : Woken → Option ℕ → Woken → NodeView → Type 0
WokenFirst Nobody database woken v = WokenAt database woken v
WokenFirst (One slot) database woken v = woken ≡ One slot
WokenFirst All database woken v = woken ≡ All

-- whom a call wakes that leads to this state, in that state's incarnation
pub record Wakes (first : Woken) (database : Option ℕ) (turn : Turn) (v : NodeView) : Type 0 where
  pub incarnation : turn.incarnation ≡ v.links.incarnation
  pub woken : WokenFirst first database turn.woken v

-- whom a call wakes that was made on the journal of a seat
pub record WakesAfter (before : Me JournalView Share) (call : Exchange) (turn : Turn)
    (after : Me JournalView Share) : Type 0 where
  pub old : JournalView
  pub new : JournalView
  pub held : before.1 ≡ (0, old) ∷ []
  pub holds : after.1 ≡ (0, new) ∷ []
  pub wakes : Wakes (woken_by call) (database_of old.view call) turn new.view
