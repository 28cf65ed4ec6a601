-- Where a fault stands in a stream, and where none does.
use Rattle.std.proofs.Common.{◌≡◌, ℕ, ◌+◌, List, [], ◌∷◌, ◌++◌, length, drop, Option, None, refl, sym, ap, ◌∙◌, subst, arith, unwrap_or, append_assoc, length-append}
use Rattle.std.proofs.lemmas.List.{drop_all}
use Rattle.std.specs.List.{AllByRecursion}
use Rattle.byteorder.specs.Endian.{big_bytes, big_number}
use Rattle.pg_frames.specs.declared.frame.Frame.{Frame}
use Rattle.pg_frames.specs.declared.error.FrameError.{FrameError}
use Rattle.pg_frames.specs.FrameText.{text, texts, IsFrame, BeginsNoFrame, fault_at, HasFault}
use Rattle.pg_frames.specs.Passage.{Passage, IsHead, head_text, after, BeginsNoHead}
use Rattle.pg_frames.proofs.FlowLemmas.{has_none}
use Rattle.pg_frames.proofs.TextLemmas.{fault_at_header}
use Rattle.session_io.proofs.HandingLemmas.{text_is}

-- where no head stands, no frame does
pub no_frame : (limit : ℕ) (bytes : List ℕ) → BeginsNoHead limit bytes → BeginsNoFrame limit bytes
no_frame limit bytes none frame more is e =
    none frame.kind (4 + length frame.body) (frame.body ++ more)
    (record { type_byte = is.type_byte; low = omega arith; high = is.size; fits = is.fits })
    (e ∙ ap (λ xs. xs ++ more) (text_is frame.kind frame.body)
    ∙ append_assoc (head_text frame.kind (4 + length frame.body)) frame.body more)

-- the fault of a stream that begins with no frame
pub fault_here : (limit : ℕ) (stream : List ℕ) (fault : Option FrameError)
    → BeginsNoFrame limit stream
    → HasFault limit stream fault → fault_at limit stream ≡ fault
fault_here limit stream fault none has =
    go has.frames has.cuts.each has.cuts.whole
  where
    go : (frames : List Frame) → AllByRecursion (IsFrame limit) frames
        → stream ≡ texts frames ++ has.rest → fault_at limit stream ≡ fault
    go [] each whole = ap (fault_at limit) whole ∙ has.stands
    go (frame ∷ frames) each whole = absurd (none frame (texts frames ++ has.rest) each.0
        (whole ∙ append_assoc (text frame) (texts frames) has.rest))

-- no frame begins no bytes, and no fault stands there
pub no_frame-nothing : (limit : ℕ) → BeginsNoFrame limit []
unfolding text
no_frame-nothing limit frame more is e = cc

pub fault_at-nothing : (limit : ℕ) → fault_at limit [] ≡ None
unfolding fault_at
fault_at-nothing limit = refl

-- where nothing is there, no fault stands behind it
pub no_fault_behind : (passage : Passage) → passage.bytes ≡ []
    → HasFault passage.limit (after passage) None
no_fault_behind passage none =
    let nothing : drop (unwrap_or passage.left 0) passage.bytes ≡ [] =
    drop_all (unwrap_or passage.left 0) passage.bytes (omega (arith, ap length none)) in
    subst (λ (xs : List ℕ). HasFault passage.limit xs None) (sym nothing) (has_none passage.limit)

-- nor at a head of the format
pub no_fault-head : (limit kind size : ℕ) (more : List ℕ) → IsHead limit kind size
    → fault_at limit (head_text kind size ++ more) ≡ None
no_fault-head limit kind size more is =
    let number : big_number 4 (big_bytes 4 size ++ more) ≡ size = omega (arith, is.fits) in
    fault_at_header limit kind (big_bytes 4 size ++ more) is.type_byte
    (omega (arith, length-append (big_bytes 4 size) more)) (omega (arith, number, is.low))
    (omega (arith, number, is.high))
