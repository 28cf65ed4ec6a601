-- What holds safe cancellation up, over all nodes at once (own): where a server process stands for
-- which a cancel connection is on its way, how many tickets are open, and whose requests a server
-- process has.
use Rattle.std.specs.Prelude.{ℕ, ◌≡◌, false, Option, Some, None, slice_get}
use Rattle.pg_ids.specs.AnyKey.{any_identity_of}
use Rattle.lease.specs.declared.link_place.LinkPlace.{LinkPlace}
use Rattle.link_pool.specs.declared.place.{Place.Place, Link.Link, LinkState.LinkState}
use Rattle.link_pool.specs.Pool.{place_at}
use Rattle.link_pool.specs.PoolStep.{link_of}
use Rattle.node_core.specs.View.{NodeView}
use Rattle.world.specs.World.{World, Arrival, Backend, Connection, IsOwner}
use Rattle.world.specs.Admissible.{HasLease}
use Rattle.world.specs.Facts.{open_for, IsOwnLoad}

-- the link of a server process is in a pool of some node, in that node's present incarnation
pub record IsPooled (w : World) (backend : ℕ) (link : Link) : Type 0 where
  pub process : Backend
  pub there : slice_get w.backends backend ≡ Some process
  pub made : process.link ≡ Some link.details
  pub place : ℕ
  pub view : NodeView
  pub node : slice_get w.nodes place ≡ Some view
  pub at : LinkPlace
  pub stands : place_at view.links at ≡ Some (Place.Link link)

-- the client to whom the key of a cancel connection's request was given has the link of its server
-- process
pub record OwnerHasLink (w : World) (connection : Connection) : Type 0 where
  pub came : Arrival
  pub there : slice_get w.arrivals connection.arrival ≡ Some came
  pub label : ℕ
  pub owner : IsOwner w.issues (any_identity_of came.key) label
  pub outstanding : ℕ
  pub has : HasLease w label connection.backend outstanding

-- Where the link of a cancel connection's server process is: with the client to whom the request's
-- key was given; or in quarantine, and the end of the connection wasn't reported; or in no pool.
pub data Stands (w : World) (connection : Connection) : Type 0 where
  Held : (link : Link) (slot : ℕ) → IsPooled w connection.backend link
      → link.state ≡ LinkState.Held slot → OwnerHasLink w connection → Stands w connection
  Quarantined : (link : Link) (giver : Option ℕ) → IsPooled w connection.backend link
      → link.state ≡ LinkState.Quarantined giver → connection.report ≡ None → Stands w connection
  Gone : ((link : Link) → IsPooled w connection.backend link → ⊥) → Stands w connection

-- the server process was made for the link of the connection's ticket
pub record IsTicketed (w : World) (connection : Connection) : Type 0 where
  pub process : Backend
  pub there : slice_get w.backends connection.backend ≡ Some process
  pub made : process.link ≡ Some (link_of connection.ticket)

-- the client is the last that had the link of the server process
pub record IsLast (w : World) (label backend : ℕ) : Type 0 where
  pub process : Backend
  pub there : slice_get w.backends backend ≡ Some process
  pub holder : process.holder ≡ Some label

pub record HoldsUp (w : World) : Type 0 where
  -- each cancel connection on which its server hasn't acted
  pub waiting : (place : ℕ) (connection : Connection)
      → slice_get w.connections place ≡ Some connection → connection.acted ≡ false
      → Stands w connection
  -- a link has as many open tickets as there are connections to its server process whose ends
  -- weren't reported, and their tickets are of that link
  pub tickets : (backend : ℕ) (link : Link) → IsPooled w backend link
      → link.hold.tickets ≡ open_for backend w.connections
  pub of : (place : ℕ) (connection : Connection)
      → slice_get w.connections place ≡ Some connection → IsTicketed w connection
  -- all that is on the wire of a server process, and what it runs, is of the client that had its
  -- link last: of the one that has it, if any has
  pub own : (place : ℕ) (backend : Backend) → slice_get w.backends place ≡ Some backend
      → IsOwnLoad backend
  pub last : (label backend outstanding : ℕ) → HasLease w label backend outstanding
      → IsLast w label backend
