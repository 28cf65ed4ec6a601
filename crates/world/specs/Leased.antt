-- A link of a node, and its server process (own).
use Rattle.std.specs.Prelude.{ℕ, ◌≡◌, Some}
use Rattle.lease.specs.declared.link_record.LinkRecord.{LinkRecord}
use Rattle.link_pool.specs.declared.place.{Place.Place, Link.Link}
use Rattle.link_pool.specs.Pool.{place_at}
use Rattle.node_core.specs.View.{NodeView}
use Rattle.world.specs.World.{World, Backend, IsNode, IsServer}
use Rattle.world.specs.LinkEvents.{IsLeased}

-- a node has a link with this record, and there is the server process that was made for it
pub record HasProcess (w : World) (lease : LinkRecord) : Type 0 where
  pub place : ℕ
  pub view : NodeView
  pub is : IsNode w.nodes lease.peer place view
  pub link : Link
  pub there : place_at view.links lease.at ≡ Some (Place.Link link)
  pub at : ℕ
  pub backend : Backend
  pub leased : IsLeased w.backends lease at backend
  pub key : backend.key ≡ link.key
  pub server : IsServer w.group lease.peer lease.at.database backend.server
