-- The slots in use as entries of a slab, each under its own number (internal).
use Rattle.std.specs.Prelude.{ℕ, ◌≡◌, ◌<◌, ◌≤◌, List, Option, Some, None, map, nat_lt, if◌then◌else◌}
use Rattle.std.specs.List.{range_with_len}
use Rattle.slab.specs.Slab.{Slab, get, slab_len}
use Rattle.key_table.specs.declared.entry.Entry.{Entry}

-- there are as many slots as there is room for, and each has what the slab has under its number
abbrev pub slots_of : Slab Entry → List (Option Entry)
slots_of live = map (get live) (range_with_len 0 live.capacity)

-- while there is room, the vacant key is given next
abbrev pub next_of : Slab Entry → Option ℕ
next_of live = if nat_lt (slab_len live) live.capacity then Some live.vacant_key else None

-- the room is for 65,536 entries at most, no key is past it, and while some is left, the vacant key
-- is within it and has nothing
pub record IsTable (live : Slab Entry) : Type 0 where
  pub room : live.capacity ≤ 65536
  pub none_past : (key : ℕ) → live.capacity ≤ key → get live key ≡ None
  pub within : slab_len live < live.capacity → live.vacant_key < live.capacity
  pub vacant : slab_len live < live.capacity → get live live.vacant_key ≡ None
