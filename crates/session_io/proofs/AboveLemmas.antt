-- A message above the limit at the front of a link's bytes.
use Rattle.std.proofs.Common.{◌≡◌, ◌≢◌, false, ℕ, List, drop, Option, Some, None, is_some, IfSome, MatchOption, refl, sym, ap, ◌∙◌}
use Rattle.byteorder.specs.Endian.{big_number}
use Rattle.pg_frames.specs.declared.error.FrameError.TheVariants.{TooLong}
use Rattle.pg_frames.specs.declared.piece.Piece.{Piece}
use Rattle.pg_frames.specs.FrameText.{fault_at}
use Rattle.pg_frames.specs.Passage.{Passage, HasNoNext, Hands}
use Rattle.pg_frames.proofs.CutLemmas.{fault_at_nothing, some_fault}

-- it stands between two frames where nothing is to be handed out
between : (limit : ℕ) (left : Option ℕ) (bytes : List ℕ) → HasNoNext limit left bytes
    → fault_at limit bytes ≡ Some TooLong → left ≡ None
between limit None bytes dry stands = refl
between limit (Some left) bytes dry stands =
    absurd (some_fault TooLong
    (sym (fault_at_nothing limit) ∙ ap (fault_at limit) (sym dry.1) ∙ stands))

-- what was found at the front, once nothing was handed out, was there before
pub found_between : (old new : Passage) (found : Option Piece) (limit : ℕ) (bytes : List ℕ)
    (result : Option ℕ) → Hands old found new → false ≡ is_some found
    → limit ≡ new.limit → bytes ≡ new.bytes
    → MatchOption result (fault_at limit bytes ≢ Some TooLong)
    (λ field. (fault_at limit bytes ≡ Some TooLong) × (field ≡ big_number 4 (drop 1 bytes)))
    → IfSome result (λ field. (old.left ≡ None)
    × (fault_at old.limit old.bytes ≡ Some TooLong)
    × (field ≡ big_number 4 (drop 1 old.bytes)))
found_between old new (Some piece) limit bytes result hands none same_limit same is = absurd (cc none)
found_between old new None limit bytes None hands none same_limit same is = tt
found_between old new None limit bytes (Some field) hands none same_limit same is =
    let limits : limit ≡ old.limit = same_limit ∙ ap (λ (p : Passage). p.limit) hands.0 in
    let fronts : bytes ≡ old.bytes = same ∙ ap (λ (p : Passage). p.bytes) hands.0 in
    let stands : fault_at old.limit old.bytes ≡ Some TooLong =
    ap (λ n. fault_at n old.bytes) (sym limits) ∙ ap (fault_at limit) (sym fronts) ∙ is.0 in (
      between old.limit old.left old.bytes hands.1 stands,
      stands,
      is.1 ∙ ap (λ xs. big_number 4 (drop 1 xs)) fronts,
    )
