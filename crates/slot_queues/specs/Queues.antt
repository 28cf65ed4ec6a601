-- Queues of slots, as lists (own). `behind` is a queue with one slot more, `others` one without a
-- slot; `times` and `times_in` count a slot in one queue and in all.
use Rattle.std.specs.Prelude.{ℕ, ◌==◌, ◌+◌, ◌++◌, List, [], ◌∷◌, get_or, replicate, if◌then◌else◌}

-- how often a slot is in a queue
abbrev pub times : ℕ → List ℕ → ℕ
times slot [] = 0
times slot (first ∷ rest) = (if first == slot then 1 else 0) + times slot rest

-- the others that wait, in order
abbrev pub others : ℕ → List ℕ → List ℕ
others slot [] = []
others slot (first ∷ rest) = if first == slot then rest else first ∷ others slot rest

-- the slots that wait, and this one last
abbrev pub behind : ℕ → List ℕ → List ℕ
behind slot waiting = waiting ++ slot ∷ []

-- how often a slot is in all queues
abbrev pub times_in : ℕ → List (List ℕ) → ℕ
times_in slot [] = 0
times_in slot (waiting ∷ queues) = times slot waiting + times_in slot queues

-- the queue with this number
abbrev pub queue_of : List (List ℕ) → ℕ → List ℕ
queue_of queues queue = get_or queues queue []

-- how many slots may wait, and the slots that wait, by queue, in order
pub record Queues : Type 0 where
  pub slots : ℕ
  pub queues : List (List ℕ)

-- this many queues for this many slots, in which nobody waits
abbrev pub empty_queues : ℕ → ℕ → Queues
empty_queues queues slots = record { slots = slots; queues = replicate queues [] }
