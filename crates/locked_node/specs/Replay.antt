-- What a list of calls makes of a node (own). `Replay first calls last`: views from the first to
-- the last, one step for each call with its reply. `IsPossible`: some state of this node allows the
-- reply.
use Rattle.std.specs.Prelude.{ℕ, ◌≡◌, List, [], ◌∷◌}
use Rattle.node_core.specs.View.{NodeView, IsView}
use Rattle.node_core.specs.declared.exchange.Exchange.{Exchange}
use Rattle.node_core.specs.NodeStep.{NodeStep}

-- there is a list of views from the first to the last, one step for each call, with the reply that
-- it got
abbrev pub Replay : NodeView → List Exchange → NodeView → Type 0
Replay first [] last = last ≡ first
Replay first (call ∷ calls) last =
    (next : NodeView) × NodeStep first call next × Replay next calls last

-- what no step changes: the node's number, its peers, and the pool size of each database
pub record Fixed : Type 0 where
  pub me : ℕ
  pub peers : List ℕ
  pub pools : List ℕ

abbrev pub fixed_of : NodeView → Fixed
fixed_of view = record { me = view.me; peers = view.peers; pools = view.pools }

-- some state of a node with these settings allows the call this reply
pub record IsPossible (fixed : Fixed) (call : Exchange) : Type 0 where
  pub old : NodeView
  pub new : NodeView
  pub same : fixed_of old ≡ fixed
  pub whole : IsView old
  pub step : NodeStep old call new
