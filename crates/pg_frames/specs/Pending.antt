-- What a `Cutter` was fed of a stream and hasn't handed out, with its limit (own).
use Rattle.std.specs.Prelude.{ℕ, List, [], ◌++◌}

-- the limit of a message, and the bytes
pub record Pending : Type 0 where
  pub limit : ℕ
  pub bytes : List ℕ

-- of a stream that is at its start
abbrev pub nothing : ℕ → Pending
nothing limit = record { limit = limit; bytes = [] }

-- with a piece of the stream more
abbrev pub with_piece : Pending → List ℕ → Pending
with_piece pending piece = record { limit = pending.limit; bytes = pending.bytes ++ piece }
