-- What a `Flow` hands out of the bytes that it was fed (own): heads, parts of bodies, and tails.
-- `Hands` relates the state before a piece, the piece, and the state after it.
use Rattle.std.specs.Prelude.{ℕ, ◌≡◌, ◌+◌, ◌-◌, ◌<◌, ◌≤◌, ◌^◌, List, [], ◌∷◌, ◌++◌, length, drop, IsTrue, Option, Some, None, Result, Ok, Err, unwrap_or}
use Rattle.byteorder.specs.Endian.{big_bytes}
use Rattle.pg_frames.specs.declared.error.FrameError.{FrameError}
use Rattle.pg_frames.specs.declared.header.Header.{Header}
use Rattle.pg_frames.specs.declared.piece.Piece.{Piece}
use Rattle.pg_frames.specs.declared.piece.Piece.TheVariants.{Head, Part, Tail}
use Rattle.pg_frames.specs.FrameText.{is_type}

-- The limit of a message; what of a stream was fed and not handed out, and how many bytes more
-- belong to the body whose head was handed out, if the tail wasn't; and what was handed out and
-- isn't forgotten.
pub record Passage : Type 0 where
  pub limit : ℕ
  pub passed : List ℕ
  pub left : Option ℕ
  pub bytes : List ℕ

-- of a stream that is at its start
abbrev pub start : ℕ → Passage
start limit = record { limit = limit; passed = []; left = None; bytes = [] }

-- with a piece of the stream more
abbrev pub fed : Passage → List ℕ → Passage
fed passage piece =
    record passage { bytes = passage.bytes ++ piece }

-- with some bytes forgotten that were handed out
abbrev pub forgotten : Passage → ℕ → Passage
forgotten passage count =
    record passage { passed = drop count passage.passed }

-- what follows the frame whose head was handed out
abbrev pub after : Passage → List ℕ
after passage = drop (unwrap_or passage.left 0) passage.bytes

-- what is returned for a fault
abbrev pub answer_of : Option FrameError → Result (Unit {0}) FrameError
answer_of None = Ok tt
answer_of (Some fault) = Err fault

-- a type byte and a length field of the format
pub record IsHead (limit kind size : ℕ) : Type 0 where
  pub type_byte : IsTrue (is_type kind)
  pub low : 4 ≤ size
  pub high : size ≤ limit
  pub fits : size < 2 ^ 32

-- their text
abbrev pub head_text : ℕ → ℕ → List ℕ
head_text kind size = kind ∷ big_bytes 4 size

-- no head of the format begins this
abbrev pub BeginsNoHead : ℕ → List ℕ → Type 0
BeginsNoHead limit bytes = (kind size : ℕ) (more : List ℕ) → IsHead limit kind size
    → bytes ≡ head_text kind size ++ more → ⊥

-- nothing is there to be handed out
abbrev pub HasNoNext : ℕ → Option ℕ → List ℕ → Type 0
HasNoNext limit None bytes = BeginsNoHead limit bytes
HasNoNext limit (Some left) bytes = (0 < left) × (bytes ≡ [])

-- this head of the format begins the bytes
pub record BeginsWith (limit : ℕ) (bytes : List ℕ) (header : Header) : Type 0 where
  pub head : IsHead limit header.kind header.length
  pub whole : bytes ≡ head_text header.kind header.length ++ drop 5 bytes

-- what may be handed out next, which then stands behind what was handed out before
abbrev pub Hands : Passage → Option Piece → Passage → Type 0
Hands old None new = (new ≡ old) × HasNoNext old.limit old.left old.bytes
Hands old (Some (Head kind size)) new =
    (old.left ≡ None) × IsHead old.limit kind size × (old.bytes ≡ head_text kind size ++ new.bytes)
    × (new.left ≡ Some (size - 4)) × (new.passed ≡ old.passed ++ head_text kind size)
    × (new.limit ≡ old.limit)
Hands old (Some (Part part)) new =
    (more : ℕ) × (0 < length part.now) × (old.left ≡ Some (length part.now + more))
    × (old.bytes ≡ part.now ++ new.bytes) × (new.left ≡ Some more)
    × (new.passed ≡ old.passed ++ part.now) × (new.limit ≡ old.limit)
Hands old (Some Tail) new = (old.left ≡ Some 0) × (new.left ≡ None) × (new.bytes ≡ old.bytes)
    × (new.passed ≡ old.passed) × (new.limit ≡ old.limit)
