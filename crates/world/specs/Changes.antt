-- A world with one thing changed (own).
use Rattle.std.specs.Prelude.{ℕ, ◌≡◌, List, [], ◌∷◌, ◌++◌, slice_set}
use Rattle.node_core.specs.declared.exchange.Exchange.{Exchange}
use Rattle.node_core.specs.View.{NodeView}
use Rattle.node_core.specs.NodeStep.{NodeStep}
use Rattle.world.specs.World.{World, Backend, Connection, Forward, Hand, Session, IsNode}

-- the list with one more at its end
abbrev pub and_then : {X : Type 0} → List X → X → List X
and_then xs x = xs ++ x ∷ []

-- a node makes a step, and no other node changes
pub record Steps (node : ℕ) (made : Exchange) (old nodes : List NodeView) : Type 0 where
  pub place : ℕ
  pub view : NodeView
  pub next : NodeView
  pub is : IsNode old node place view
  pub step : NodeStep view made next
  pub after : nodes ≡ slice_set old place next

-- the world with these nodes
abbrev pub with_nodes : List NodeView → World → World
with_nodes nodes w = record w { nodes = nodes }

-- the world with this session at a place
abbrev pub with_session : ℕ → Session → World → World
with_session place session w = record w { sessions = slice_set w.sessions place session }

-- the world with this server process at a place
abbrev pub with_backend : ℕ → Backend → World → World
with_backend place backend w = record w { backends = slice_set w.backends place backend }

-- the world with this cancel connection at a place
abbrev pub with_connection : ℕ → Connection → World → World
with_connection place connection w =
    record w { connections = slice_set w.connections place connection }

-- the world with this forward connection at a place
abbrev pub with_forward : ℕ → Forward → World → World
with_forward place forward w = record w { forwards = slice_set w.forwards place forward }

-- the session with this in hand
abbrev pub holding : Hand → Session → Session
holding hand session = record session { hand = hand }
