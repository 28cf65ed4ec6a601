-- How connections are dealt to the nodes of a group in turn (own).
use Rattle.std.specs.Prelude.{ℕ, ◌≡◌, ◌%◌}

-- the number of nodes, and the place of the next one
pub record Dealing : Type 0 where
  pub nodes : ℕ
  pub next : ℕ

-- k connections were dealt in turn: the next one, number k from 0, goes to node k modulo the number
-- of nodes
abbrev pub HasDealt : Dealing → ℕ → Type 0
HasDealt front k = front.next ≡ k % front.nodes
