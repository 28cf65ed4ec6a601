-- That the pieces handed out of a stream are the heads, parts and tails of its frames, in order
-- (own): `HandsOut`.
use Rattle.std.specs.Prelude.{ℕ, ◌≡◌, ◌+◌, ◌<◌, ◌⊎◌, List, [], ◌∷◌, ◌++◌, length, map, Option, None, Some}
use Rattle.std.specs.List.{AllByRecursion, flat_map}
use Rattle.pg_frames.specs.declared.frame.Frame.{Frame}
use Rattle.pg_frames.specs.declared.error.FrameError.{FrameError}
use Rattle.pg_frames.specs.declared.piece.Piece.{Piece}
use Rattle.pg_frames.specs.declared.piece.Piece.TheVariants as lent
use Rattle.pg_frames.specs.declared.parts.OwnedPiece.{OwnedPiece}
use Rattle.pg_frames.specs.declared.parts.OwnedPiece.TheVariants.{Head, Part, Tail}
use Rattle.pg_frames.specs.FrameText.{texts, IsFrame, HasFault}
use Rattle.pg_frames.specs.Passage.{Passage, after, IsHead, head_text, BeginsNoHead, HasNoNext}

-- the same piece as data
abbrev pub owned_of : Piece → OwnedPiece
owned_of (lent.Head kind size) = Head kind size
owned_of (lent.Part part) = Part part.now
owned_of lent.Tail = Tail

-- the bytes in parts, none of them empty
pub record ArePartsOf (bytes : List ℕ) (parts : List (List ℕ)) : Type 0 where
  pub each : AllByRecursion (λ part. 0 < length part) parts
  pub whole : bytes ≡ flat_map (λ part. part) parts

-- the pieces of whole frames: of each its head, its body in parts, and its tail
abbrev pub AreWhole : List Frame → List OwnedPiece → Type 0
AreWhole [] pieces = pieces ≡ []
AreWhole (frame ∷ frames) pieces = (parts : List (List ℕ)) × (more : List OwnedPiece)
    × ArePartsOf frame.body parts
    × (pieces ≡ Head frame.kind (4 + length frame.body) ∷ (map Part parts ++ Tail ∷ more))
    × AreWhole frames more

-- a head, the first bytes of its body, and their pieces
pub record IsBegun (limit kind size : ℕ) (body : List ℕ) (pieces : List OwnedPiece) : Type 0 where
  pub head : IsHead limit kind size
  pub parts : List (List ℕ)
  pub are_parts : ArePartsOf body parts
  pub pieces_are : pieces ≡ Head kind size ∷ map Part parts

-- the pieces of a rest: none where it begins with no head, else the head and all that follows it
abbrev pub AreOfRest : ℕ → List ℕ → List OwnedPiece → Type 0
AreOfRest limit rest pieces = (BeginsNoHead limit rest × (pieces ≡ []))
    ⊎ ((kind : ℕ) × (size : ℕ) × (body : List ℕ)
    × (rest ≡ head_text kind size ++ body) × IsBegun limit kind size body pieces)

-- the pieces of frames, in order, and of a rest
pub record HandsOut (limit : ℕ) (frames : List Frame) (rest : List ℕ) (pieces : List OwnedPiece) : Type 0 where
  pub whole : List OwnedPiece
  pub begun : List OwnedPiece
  pub are_whole : AreWhole frames whole
  pub of_rest : AreOfRest limit rest begun
  pub all : pieces ≡ whole ++ begun

-- what was handed out of the frame that is being handed out, where so much of it is to come
abbrev pub IsOpen : ℕ → Option ℕ → List ℕ → List OwnedPiece → Type 0
IsOpen limit None opened pieces = (opened ≡ []) × (pieces ≡ [])
IsOpen limit (Some left) opened pieces = (kind : ℕ) × (size : ℕ) × (body : List ℕ)
    × (opened ≡ head_text kind size ++ body) × IsBegun limit kind size body pieces
    × (4 + length body + left ≡ size)

-- these pieces of a stream were handed out, and this is kept of it
pub record SoFar (limit : ℕ) (stream : List ℕ) (pieces : List OwnedPiece) (passage : Passage)
    : Type 0 where
  pub limit_is : passage.limit ≡ limit
  pub frames : List Frame
  pub whole : List OwnedPiece
  pub opened : List ℕ
  pub begun : List OwnedPiece
  pub each : AllByRecursion (IsFrame limit) frames
  pub are_whole : AreWhole frames whole
  pub is_open : IsOpen limit passage.left opened begun
  pub stream_is : stream ≡ texts frames ++ (opened ++ passage.bytes)
  pub all : pieces ≡ whole ++ begun

-- and nothing more can be handed out, this fault stands in the rest, and what was handed out is
-- forgotten
pub record Drained (limit : ℕ) (stream : List ℕ) (pieces : List OwnedPiece) (passage : Passage)
    (fault : Option FrameError) : Type 0 where
  pub so_far : SoFar limit stream pieces passage
  pub none_kept : passage.passed ≡ []
  pub still : HasNoNext limit passage.left passage.bytes
  pub stands : HasFault limit (after passage) fault
