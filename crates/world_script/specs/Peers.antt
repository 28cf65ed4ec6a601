-- The nodes of a script, each with all others as its peers (own grammar).
use Rattle.std.specs.Prelude.{ℕ, Bool, not, ◌&&◌, ◌==◌, if◌then◌else◌, List, [], ◌∷◌, ◌++◌, map, filter}
use Rattle.std.specs.List.{list_any}
use Rattle.ini_config.specs.Node.{NodeSettings}
use Rattle.ini_config.specs.Plain.{plain_settings}

-- a node line: a node's number, the size of its pool, and how many clients it may have
pub record NodeLine : Type 0 where
  pub number : ℕ
  pub pool : ℕ
  pub clients : ℕ

-- these numbers, each once, where it stands first
abbrev pub once_each : List ℕ → List ℕ
once_each [] = []
once_each (n ∷ ns) = n ∷ filter (λ m. not (m == n)) (once_each ns)

-- whether a node with the first number lists a node with the second: not itself, and none with 0,
-- which is the number of a node without peers
abbrev pub is_listed : ℕ → ℕ → Bool
is_listed own n = not (n == 0) && not (n == own)

-- the numbers that a node lists, of those of all nodes
abbrev pub peers_of : ℕ → List ℕ → List ℕ
peers_of own numbers = once_each (filter (is_listed own) numbers)

-- what a node lists, with a number more, unless that isn't listed or is there
abbrev pub with_peer : ℕ → List ℕ → ℕ → List ℕ
with_peer own listed n = if is_listed own n && not (list_any (λ m. m == n) listed)
    then listed ++ n ∷ []
    else listed

-- the numbers of these nodes
abbrev pub numbers_of : List NodeLine → List ℕ
numbers_of nodes = map (λ node. node.number) nodes

-- the settings of a node among these
abbrev pub settings_among : List NodeLine → NodeLine → NodeSettings
settings_among nodes node =
    plain_settings node.number (peers_of node.number (numbers_of nodes)) node.pool node.clients
