-- The bytes in the buffer of a `Flow` (internal).
use Rattle.std.specs.Prelude.{ℕ, List, drop, take}
use Rattle.pg_frames.specs.declared.buffer.Buffer.{Buffer}

-- those that weren't taken
abbrev pub unread : Buffer → List ℕ
unread buffer = drop buffer.taken buffer.store.items

-- those that were taken and aren't forgotten
abbrev pub kept : Buffer → List ℕ
kept buffer = take buffer.taken buffer.store.items
