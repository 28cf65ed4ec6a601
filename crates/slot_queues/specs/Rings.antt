-- Queues as rings: each slot is an element, and behind all slots there is one for each queue
-- (internal).
use Rattle.std.specs.Prelude.{ℕ, zero, suc, ◌≡◌, ◌+◌, ◌-◌, ◌^◌, ◌<◌, ◌≤◌, ltb, List, [], ◌∷◌, length, map, slice_index, if◌then◌else◌}
use Rattle.std.specs.List.{range_with_len}
use Rattle.slot_queues.specs.Queues.{times_in, queue_of}

-- the slots of a ring from this node on, up to the node of a queue
abbrev pub walk : List ℕ → ℕ → ℕ → ℕ → List ℕ
walk next slots zero node = []
walk next slots (suc fuel) node =
    if ltb node slots then node ∷ walk next slots fuel (slice_index next node) else []

-- the slots of a queue's ring
abbrev pub ring : List ℕ → ℕ → ℕ → List ℕ
ring next slots queue = walk next slots slots (slice_index next (slots + queue))

-- the slots of each queue's ring
abbrev pub queues_in : List ℕ → ℕ → List (List ℕ)
queues_in next slots = map (ring next slots) (range_with_len 0 (length next - slots))

-- a slot that has a node and a number
pub record IsSlot (slots slot : ℕ) : Type 0 where
  pub below : slot < slots
  pub named : slot < 2 ^ 16

-- from a node on these slots follow one another, and then this node
abbrev pub Leads : List ℕ → ℕ → ℕ → List ℕ → ℕ → Type 0
Leads next slots from [] to = slice_index next from ≡ to
Leads next slots from (slot ∷ rest) to =
    (slice_index next from ≡ slot) × IsSlot slots slot × Leads next slots slot rest to

-- the nodes that follow each and that come before each are those of these queues
pub record IsTied (next prev : List ℕ) (slots : ℕ) (queues : List (List ℕ)) : Type 0 where
  pub next_all : length next ≡ slots + length queues
  pub prev_all : length prev ≡ slots + length queues
  -- each follows one node, and comes before one
  pub next_below : (node : ℕ) → node < length next → slice_index next node < length next
  pub prev_below : (node : ℕ) → node < length next → slice_index prev node < length next
  pub back : (node : ℕ) → node < length next → slice_index prev (slice_index next node) ≡ node
  pub forth : (node : ℕ) → node < length next → slice_index next (slice_index prev node) ≡ node
  -- a queue's ring has its slots
  pub rings : (queue : ℕ) → queue < length queues
      → Leads next slots (slots + queue) (queue_of queues queue) (slots + queue)
  -- a slot that waits nowhere is alone
  pub alone : (slot : ℕ) → slot < slots → times_in slot queues ≡ 0 → slice_index next slot ≡ slot
  pub once : (slot : ℕ) → times_in slot queues ≤ 1

-- each node leads to itself
pub record IsApart (count : ℕ) (nodes : List ℕ) : Type 0 where
  pub all : length nodes ≡ count
  pub alone : (node : ℕ) → node < count → slice_index nodes node ≡ node
