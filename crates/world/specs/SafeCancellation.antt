-- What is true of every world: a cancel request interrupts nobody but the client who asked (own).
use Rattle.std.specs.Prelude.{ℕ, ◌≡◌, ◌≤◌, List, Some, slice_get}
use Rattle.pg_ids.specs.AnyKey.{IsAnyKey, any_identity_of, peer_of, short_of}
use Rattle.world.specs.World.{World, Arrival, Connection, Interrupt, Issue, Taken, IsOwner}

-- for the client to whom the arrival's key was given
pub record IsForOwner (issues : List Issue) (arrivals : List Arrival)
    (arrival label : ℕ) : Type 0 where
  pub came : Arrival
  pub there : slice_get arrivals arrival ≡ Some came
  pub owner : IsOwner issues (any_identity_of came.key) label

-- each interrupted server process ran a query of the request's owner: the client that its key was
-- given to
abbrev pub OnlyOwnerStruck : World → Type 0
OnlyOwnerStruck w = (place : ℕ) (struck : Interrupt) → slice_get w.interrupts place ≡ Some struck
    → IsForOwner w.issues w.arrivals struck.arrival struck.label

-- the key was taken for the client to whom it was given, at the node that it names
pub record IsRightly (issues : List Issue) (taken : Taken) : Type 0 where
  pub key : IsAnyKey taken.key
  pub node : taken.node ≡ peer_of taken.key
  pub owner : IsOwner issues (any_identity_of taken.key) taken.label

-- no key was taken at two nodes, or for two clients
abbrev pub NoKeyTwice : World → Type 0
NoKeyTwice w = (i j : ℕ) (a b : Taken) → slice_get w.taken i ≡ Some a → slice_get w.taken j ≡ Some b
    → any_identity_of a.key ≡ any_identity_of b.key → (a.node ≡ b.node) × (a.label ≡ b.label)

-- each key was taken for the client to whom it was given, at the node that it names; so no key was
-- ever taken for two clients
abbrev pub OneKeyOneClient : World → Type 0
OneKeyOneClient w =
    ((place : ℕ) (taken : Taken) → slice_get w.taken place ≡ Some taken → IsRightly w.issues taken)
    × NoKeyTwice w

-- a cancel connection to a server is for an arrival at the node that its key names, with hops left;
-- and who held the link of that server key is the client to whom the request's key was given
pub record IsEarned (issues : List Issue) (arrivals : List Arrival)
    (connection : Connection) : Type 0 where
  pub came : Arrival
  pub there : slice_get arrivals connection.arrival ≡ Some came
  pub hops : 1 ≤ (short_of came.key).hops
  pub node : came.node ≡ peer_of came.key
  pub label : ℕ
  pub holder : connection.holder ≡ Some label
  pub owner : IsOwner issues (any_identity_of came.key) label

abbrev pub NoConnectionUnearned : World → Type 0
NoConnectionUnearned w = (place : ℕ) (connection : Connection)
    → slice_get w.connections place ≡ Some connection
    → IsEarned w.issues w.arrivals connection

-- safe cancellation
pub record IsSafe (w : World) : Type 0 where
  pub struck : OnlyOwnerStruck w
  pub taken : OneKeyOneClient w
  pub earned : NoConnectionUnearned w
