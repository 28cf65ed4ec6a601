-- A stream has one cutting, and more bytes change only its rest.
use Rattle.std.proofs.Common.{◌≡◌, ℕ, ◌+◌, ◌-◌, ◌^◌, ◌<◌, ◌≤◌, true, false, List, [], ◌∷◌, ◌++◌, length, take, drop, get_or, IsTrue, Option, Some, None, is_some, Err, ◌⊎◌, inl, inr, refl, sym, ap, ◌∙◌, subst, suc, zero, arith, append_assoc, append-nil, length-append, take-append-drop, length-drop}
use Rattle.std.proofs.lemmas.List.{take_more, drop_at, drop-drop, drop-append-le, get_or-drop, length-take-le}
use Rattle.std.proofs.lemmas.Bool.{cases_lt, false≢true}
use Rattle.std.proofs.lemmas.List.Concat.{flat_map-append}
use Rattle.std.specs.List.{AllByRecursion, flat_map}
use Rattle.byteorder.specs.Endian.{big_number}
use Rattle.byteorder.specs.Numbers.{big_from-append}
use Rattle.pg_frames.specs.declared.frame.Frame.{Frame}
use Rattle.pg_frames.specs.declared.error.FrameError.{FrameError}
use Rattle.pg_frames.specs.declared.error.FrameError.TheVariants.{BadLength, TooLong, BadType, Memory}
use Rattle.pg_frames.specs.FrameText.{text, texts, is_type, IsFrame, BeginsNoFrame, Cuts, fault_at, Tells, IsJudged, HasFault}
use Rattle.pg_frames.specs.Ready.{BeginsFrame, IsReady}
use Rattle.pg_frames.proofs.TextLemmas.{IsBytes, same_frame, front_reads, is_no_type, is_short, is_low, is_high, is_good, front_is, fault_at_header, fault_at_type, fault_at_short, fault_at_low, fault_at_high, same_front, length-text, front_frame, front_text, no_frame-short, no_frame-part, no_frame-fault}

-- texts, one list after another
pub texts-append : (fs gs : List Frame) → texts (fs ++ gs) ≡ texts fs ++ texts gs
texts-append fs gs = flat_map-append text fs gs

-- frames of the format, one list after another
pub each-append : (limit : ℕ) (fs gs : List Frame) → AllByRecursion (IsFrame limit) fs → AllByRecursion (IsFrame limit) gs
    → AllByRecursion (IsFrame limit) (fs ++ gs)
each-append limit [] gs p q = q
each-append limit (f ∷ fs) gs p q = (p.0, each-append limit fs gs p.1 q)

-- frames that stand before a cut stream
pub cuts_after : (limit : ℕ) (fs : List Frame) (stream : List ℕ) (gs : List Frame) (rest : List ℕ)
    → AllByRecursion (IsFrame limit) fs → Cuts limit stream gs rest → Cuts limit (texts fs ++ stream) (fs ++ gs) rest
cuts_after limit fs stream gs rest each cuts = record {
  whole = ap (λ xs. texts fs ++ xs) cuts.whole ∙ sym (append_assoc (texts fs) (texts gs) rest)
      ∙ ap (λ xs. xs ++ rest) (sym (texts-append fs gs));
  each = each-append limit fs gs each cuts.each;
  longest = cuts.longest;
}

-- a text that stands before a cut stream is read again, whatever follows
pub cuts_again : (limit : ℕ) (f : Frame) (stream : List ℕ) (gs : List Frame) (rest : List ℕ) → IsFrame limit f
    → Cuts limit stream gs rest → Cuts limit (text f ++ stream) (f ∷ gs) rest
cuts_again limit f stream gs rest is cuts = record {
  whole = ap (λ xs. text f ++ xs) cuts.whole ∙ sym (append_assoc (text f) (texts gs) rest);
  each = (is, cuts.each);
  longest = cuts.longest;
}

-- where no frame begins, the cutting is the stream alone
pub cuts_none : (limit : ℕ) (stream : List ℕ) → BeginsNoFrame limit stream → Cuts limit stream [] stream
cuts_none limit stream none = record { whole = refl; each = tt; longest = none }

-- a stream has one cutting
one_by : (limit : ℕ) (fs gs : List Frame) (r q : List ℕ) → AllByRecursion (IsFrame limit) fs → AllByRecursion (IsFrame limit) gs
    → BeginsNoFrame limit r → BeginsNoFrame limit q → texts fs ++ r ≡ texts gs ++ q → (fs ≡ gs) × (r ≡ q)
one_by limit [] [] r q each each' none none' e = (refl, e)
one_by limit [] (g ∷ gs) r q each each' none none' e =
    absurd (none g (texts gs ++ q) each'.0 (e ∙ append_assoc (text g) (texts gs) q))
one_by limit (f ∷ fs) [] r q each each' none none' e =
    absurd (none' f (texts fs ++ r) each.0 (sym e ∙ append_assoc (text f) (texts fs) r))
one_by limit (f ∷ fs) (g ∷ gs) r q each each' none none' e =
    let fronts =
    same_front limit f g (texts fs ++ r) (texts gs ++ q) each.0 each'.0
    (sym (append_assoc (text f) (texts fs) r) ∙ e ∙ append_assoc (text g) (texts gs) q) in
    let tails = one_by limit fs gs r q each.1 each'.1 none none' fronts.1 in
    let heads : f ≡ g = fronts.0 in
    let more : fs ≡ gs = tails.0 in
    (ap (λ x. x ∷ fs) heads ∙ ap (λ xs. g ∷ xs) more, tails.1)

pub cuts_once : (limit : ℕ) (stream : List ℕ) (fs gs : List Frame) (r q : List ℕ) → Cuts limit stream fs r
    → Cuts limit stream gs q → (fs ≡ gs) × (r ≡ q)
cuts_once limit stream fs gs r q c d =
    one_by limit fs gs r q c.each d.each c.longest d.longest (sym c.whole ∙ d.whole)

-- a byte of what follows a text is a byte of the stream
bytes_after : (f : Frame) (more bytes : List ℕ) → bytes ≡ text f ++ more → IsBytes bytes
    → IsBytes more
bytes_after f more bytes e small i =
    let at : get_or (drop (length (text f)) bytes) i 0 ≡ get_or bytes (length (text f) + i) 0 =
    get_or-drop (length (text f)) bytes i 0 in
    let is : drop (length (text f)) bytes ≡ more =
    ap (drop (length (text f))) e ∙ drop_at (text f) more (length (text f)) refl in
    let same : get_or more i 0 ≡ get_or bytes (length (text f) + i) 0 =
    ap (λ xs. get_or xs i 0) (sym is) ∙ at in
    omega (arith, same, small (length (text f) + i))

-- a whole frame of the format stands where the header says so and the bytes do
good_front : (limit : ℕ) (kind : ℕ) (after : List ℕ) → IsBytes (kind ∷ after) → is_type kind ≡ true
    → 4 ≤ big_number 4 after → big_number 4 after ≤ limit
    → 1 + big_number 4 after ≤ length (kind ∷ after)
    → ((f : Frame) × IsFrame limit f × (more : List ℕ) × (kind ∷ after ≡ text f ++ more))
    ⊎ BeginsNoFrame limit (kind ∷ after)
good_front limit kind after small is enough fits all =
    let bytes = kind ∷ after in
    let size = big_number 4 after - 4 in
    let len = length-take-le size (drop 5 bytes) (omega (arith, length-drop 5 bytes)) in
    let whole = front_text bytes size small (omega arith) (omega arith) in
    let of_format : IsFrame limit (front_frame bytes size) =
    record { type_byte = is; size = omega (arith, len); fits = omega (arith, len, small 1, small 2, small 3, small 4) } in
    inl (front_frame bytes size, of_format, drop (5 + size) bytes, whole)

-- bytes begin with a frame's text, or with none
pub front_cases : (limit : ℕ) (bytes : List ℕ) → IsBytes bytes
    → ((f : Frame) × IsFrame limit f × (more : List ℕ) × (bytes ≡ text f ++ more)) ⊎ BeginsNoFrame limit bytes
front_cases limit [] small = inr (no_frame-short limit [] (omega arith))
front_cases limit (kind ∷ after) small =
    let bytes = kind ∷ after in
    elim (front_is limit kind after) [
      | is_no_type is ↦ inr (no_frame-fault limit bytes BadType (fault_at_type limit kind after is))
      | is_short is few ↦ inr (no_frame-short limit bytes (omega arith))
      | is_low is whole few ↦ inr
          (no_frame-fault limit bytes BadLength (fault_at_low limit kind after is whole few))
      | is_high is whole enough many ↦ inr
          (no_frame-fault limit bytes TooLong (fault_at_high limit kind after is whole enough many))
      | is_good is whole enough fits ↦ elim (cases_lt (length bytes) (1 + big_number 4 after)) [
        | inl part ↦ inr (no_frame-part limit bytes part)
        | inr all ↦ good_front limit kind after small is enough fits all
      ]
    ]

cut_by : (limit : ℕ) (most : ℕ) (bytes : List ℕ) → length bytes ≤ most → IsBytes bytes → (frames : List Frame)
    × (rest : List ℕ) × Cuts limit bytes frames rest
cut_by limit zero bytes fits small = ([], bytes, cuts_none limit bytes (no_frame-short limit bytes (omega arith)))
cut_by limit (suc most) bytes fits small =
    elim (front_cases limit bytes small) [
      | inl w ↦
          let shorter : length w.2 ≤ most =
          omega (arith, ap length w.3, length-append (text w.0) w.2, length-text w.0) in
          let cut = cut_by limit most w.2 shorter (bytes_after w.0 w.2 bytes w.3 small) in
          let front : Cuts limit (text w.0 ++ w.2) (w.0 ∷ cut.0) cut.1 =
          cuts_again limit w.0 w.2 cut.0 cut.1 w.1 cut.2 in
          (w.0 ∷ cut.0, cut.1, subst (λ (xs : List ℕ). Cuts limit xs (w.0 ∷ cut.0) cut.1) (sym w.3) front)
      | inr none ↦ ([], bytes, cuts_none limit bytes none)
    ]

-- each stream of bytes has a cutting
pub cut_of : (limit : ℕ) (bytes : List ℕ) → IsBytes bytes → (frames : List Frame) × (rest : List ℕ)
    × Cuts limit bytes frames rest
cut_of limit bytes small = cut_by limit (length bytes) bytes (omega arith) small

pub fault_at_nothing : (limit : ℕ) → fault_at limit [] ≡ None
unfolding fault_at
fault_at_nothing limit = refl

pub some_fault : (fault : FrameError) → None ≡ Some fault → ⊥
some_fault fault e = cc

-- a whole length field stays, whatever follows
same_field : (after more : List ℕ) → 4 ≤ length after
    → (big_number 4 (after ++ more) ≡ big_number 4 after) × (4 ≤ length (after ++ more))
same_field after more whole =
    (big_from-append 4 after more whole, omega (arith, whole, length-append after more))

-- a fault stays where it stands, whatever follows
pub fault_at-more : (limit : ℕ) (bytes more : List ℕ) (fault : FrameError) → fault_at limit bytes ≡ Some fault
    → fault_at limit (bytes ++ more) ≡ Some fault
fault_at-more limit [] more fault stands = absurd (some_fault fault (sym (fault_at_nothing limit) ∙ stands))
fault_at-more limit (kind ∷ after) more fault stands =
    elim (front_is limit kind after) [
      | is_no_type is ↦ fault_at_type limit kind (after ++ more) is ∙ sym (fault_at_type limit kind after is)
          ∙ stands
      | is_short is few ↦ absurd
          (some_fault fault (sym (fault_at_short limit kind after is few) ∙ stands))
      | is_low is whole few ↦
          let same = same_field after more whole in
          fault_at_low limit kind (after ++ more) is same.1 (omega (arith, same.0, few))
          ∙ sym (fault_at_low limit kind after is whole few) ∙ stands
      | is_high is whole enough many ↦
          let same = same_field after more whole in
          fault_at_high limit kind (after ++ more) is same.1 (omega (arith, same.0, enough))
          (omega (arith, same.0, many))
          ∙ sym (fault_at_high limit kind after is whole enough many) ∙ stands
      | is_good is whole enough fits ↦ absurd
          (some_fault fault (sym (fault_at_header limit kind after is whole enough fits) ∙ stands))
    ]

-- the cutting stays the same too, except that its rest grows
pub cuts-fault : (limit : ℕ) (stream more : List ℕ) (frames : List Frame) (rest : List ℕ) (fault : FrameError)
    → Cuts limit stream frames rest → fault_at limit rest ≡ Some fault
    → Cuts limit (stream ++ more) frames (rest ++ more)
cuts-fault limit stream more frames rest fault cuts stands = record {
  whole = ap (λ xs. xs ++ more) cuts.whole ∙ append_assoc (texts frames) rest more;
  each = cuts.each;
  longest = no_frame-fault limit (rest ++ more) fault (fault_at-more limit rest more fault stands);
}

-- the first `size` bytes are the texts of frames of the format
pub record StandsFirst (limit : ℕ) (bytes : List ℕ) (size : ℕ) : Type 0 where
  pub frames : List Frame
  pub each : AllByRecursion (IsFrame limit) frames
  pub whole : bytes ≡ texts frames ++ drop size bytes
  pub length_is : size ≡ length (texts frames)

-- what a text takes ends within the bytes
pub TakesFirst-fits : (limit : ℕ) (bytes : List ℕ) (size : ℕ) → BeginsFrame limit bytes size → (5 ≤ size)
    × (size ≤ length bytes)
TakesFirst-fits limit bytes size w =
    let texts_is = ap length w.1.whole in (
      omega (arith, w.1.length_is, length-text w.0),
      omega (arith, w.1.length_is, texts_is, length-append (text w.0) (drop size bytes)),
    )

pub StandsFirst-fits : (limit : ℕ) (bytes : List ℕ) (size : ℕ) → StandsFirst limit bytes size → size ≤ length bytes
StandsFirst-fits limit bytes size w =
    omega (arith, w.length_is, ap length w.whole, length-append (texts w.frames) (drop size bytes))

-- the frame of a whole header that the bytes go past
pub begins_frame : (limit : ℕ) (bytes : List ℕ) (len : ℕ) → IsBytes bytes → 5 ≤ length bytes
    → IsTrue (is_type (get_or bytes 0 0)) → len ≡ big_number 4 (drop 1 bytes) → 4 ≤ len
    → len ≤ limit → len < 2 ^ 32 → 1 + len ≤ length bytes → BeginsFrame limit bytes (1 + len)
begins_frame limit bytes len small header is number low high fits_field fits =
    let size = len - 4 in
    let body_len = length-take-le size (drop 5 bytes) (omega (arith, length-drop 5 bytes)) in
    let whole = front_text bytes size small (omega arith) (omega arith) in
    let sizes : 5 + size ≡ 1 + len = omega arith in (
      front_frame bytes size,
      record {
        is = record { type_byte = is; size = omega (arith, body_len); fits = omega (arith, body_len, fits_field) };
        whole = whole ∙ ap (λ n. text (front_frame bytes size) ++ drop n bytes) sizes;
        length_is = omega (arith, length-text (front_frame bytes size), body_len);
      },
    )

-- one more text after the others
pub StandsFirst-more : (limit : ℕ) (bytes : List ℕ) (at size : ℕ) → StandsFirst limit bytes at
    → BeginsFrame limit (drop at bytes) size → StandsFirst limit bytes (at + size)
StandsFirst-more limit bytes at size first next =
    let f = next.0 in
    let tail : drop size (drop at bytes) ≡ drop (at + size) bytes = drop-drop size at bytes in
    let step : drop at bytes ≡ text f ++ drop (at + size) bytes =
    next.1.whole ∙ ap (λ xs. text f ++ xs) tail in
    let one : texts (f ∷ []) ≡ text f = append-nil (text f) in
    let joined : texts (first.frames ++ f ∷ []) ≡ texts first.frames ++ text f =
    texts-append first.frames (f ∷ []) ∙ ap (λ xs. texts first.frames ++ xs) one in
    record {
      frames = first.frames ++ f ∷ [];
      each = each-append limit first.frames (f ∷ []) first.each (next.1.is, tt);
      whole = first.whole ∙ ap (λ xs. texts first.frames ++ xs) step
          ∙ sym (append_assoc (texts first.frames) (text f) (drop (at + size) bytes))
          ∙ ap (λ xs. xs ++ drop (at + size) bytes) (sym joined);
      length_is =
          omega (
            arith,
            first.length_is,
            next.1.length_is,
            ap length joined,
            length-append
                (texts first.frames) (text f),
          );
    }

-- where no text follows them, they are the whole frames
pub IsReady-from_first : (limit : ℕ) (bytes : List ℕ) (size : ℕ) → StandsFirst limit bytes size
    → BeginsNoFrame limit (drop size bytes) → IsReady limit bytes size
IsReady-from_first limit bytes size first none = record {
  frames = first.frames;
  cuts = record { whole = first.whole; each = first.each; longest = none };
  length_is = first.length_is;
}

-- the whole frames of a piece more
pub IsReady-more : (limit : ℕ) (old more : List ℕ) (ready size : ℕ) → IsReady limit old ready
    → IsReady limit (drop ready (old ++ more)) size → IsReady limit (old ++ more) (ready + size)
IsReady-more limit old more ready size first next =
    let fs = first.frames in
    let gs = next.frames in
    let all = old ++ more in
    let within : ready ≤ length old =
    omega (
      arith,
      first.length_is,
      ap length first.cuts.whole,
      length-append (texts fs)
          (drop ready old),
    ) in
    let tail : drop ready all ≡ drop ready old ++ more = drop-append-le ready old more within in
    let whole : all ≡ texts fs ++ drop ready all = ap (λ xs. xs ++ more) first.cuts.whole
    ∙ append_assoc (texts fs) (drop ready old) more ∙ ap (λ xs. texts fs ++ xs) (sym tail) in
    let cut : Cuts limit (texts fs ++ drop ready all) (fs ++ gs) (drop size (drop ready all)) =
    cuts_after limit fs (drop ready all) gs (drop size (drop ready all)) first.cuts.each next.cuts in
    let rest : drop size (drop ready all) ≡ drop (ready + size) all = drop-drop size ready all in
    let cut2 : Cuts limit all (fs ++ gs) (drop size (drop ready all)) =
    subst (λ (xs : List ℕ). Cuts limit xs (fs ++ gs) (drop size (drop ready all))) (sym whole) cut in
    record {
      frames = fs ++ gs;
      cuts = subst (λ (xs : List ℕ). Cuts limit all (fs ++ gs) xs) rest cut2;
      length_is =
          omega (
            arith,
            first.length_is,
            next.length_is,
            ap length (texts-append fs gs),
            length-append (texts fs) (texts gs),
          );
    }

-- nothing stands in a cutter that was fed nothing
pub IsReady-none : (limit : ℕ) → IsReady limit [] 0
IsReady-none limit =
    record { frames = []; cuts = cuts_none limit [] (no_frame-short limit [] (omega arith)); length_is = refl }

front_of : (limit : ℕ) (bytes : List ℕ) (ready : ℕ) (frames : List Frame) → Cuts limit bytes frames (drop ready bytes)
    → ready ≡ length (texts frames) → 0 < ready
    → (f : Frame) × IsFrame limit f × IsReady limit (drop (length (text f)) bytes) (ready - length (text f))
    × (bytes ≡ text f ++ drop (length (text f)) bytes) × (length (text f) ≤ ready)
front_of limit bytes ready [] cuts len some = absurd (omega arith)
front_of limit bytes ready (f ∷ fs) cuts len some =
    let size = length (text f) in
    let whole : bytes ≡ text f ++ (texts fs ++ drop ready bytes) =
    cuts.whole ∙ append_assoc (text f) (texts fs) (drop ready bytes) in
    let after : drop size bytes ≡ texts fs ++ drop ready bytes =
    ap (drop size) whole ∙ drop_at (text f) (texts fs ++ drop ready bytes) size refl in
    let sizes : ready ≡ size + length (texts fs) = len ∙ length-append (text f) (texts fs) in
    let left : size + (ready - size) ≡ ready = omega (arith, sizes) in
    let rest : drop (ready - size) (drop size bytes) ≡ drop ready bytes =
    drop-drop (ready - size) size bytes ∙ ap (λ n. drop n bytes) left in
    let ready_rest : IsReady limit (drop size bytes) (ready - size) = record {
      frames = fs;
      cuts = record {
        whole = after ∙ ap (λ xs. texts fs ++ xs) (sym rest);
        each = cuts.each.1;
        longest = subst (BeginsNoFrame limit) (sym rest) cuts.longest;
      };
      length_is = omega (arith, sizes);
    } in
    (f, cuts.each.0, ready_rest, whole ∙ ap (λ xs. text f ++ xs) (sym after), omega (arith, sizes))

-- some frame stands first where some bytes are whole frames
pub IsReady-front : (limit : ℕ) (bytes : List ℕ) (ready : ℕ) → IsReady limit bytes ready → 0 < ready → (f : Frame)
    × IsFrame limit f × IsReady limit (drop (length (text f)) bytes) (ready - length (text f))
    × (bytes ≡ text f ++ drop (length (text f)) bytes) × (length (text f) ≤ ready)
IsReady-front limit bytes ready is some = front_of limit bytes ready is.frames is.cuts is.length_is some

-- with none, no frame begins the bytes
pub IsReady-empty : (limit : ℕ) (bytes : List ℕ) (ready : ℕ) → IsReady limit bytes ready → ready ≡ 0
    → BeginsNoFrame limit bytes
IsReady-empty limit bytes ready is none =
    let all : drop ready bytes ≡ bytes = ap (λ n. drop n bytes) none in
    subst (BeginsNoFrame limit) all is.cuts.longest

-- bytes, one list after another
pub bytes-append : (xs ys : List ℕ) → IsBytes xs → IsBytes ys → IsBytes (xs ++ ys)
bytes-append [] ys p q i = q i
bytes-append (x ∷ xs) ys p q zero = p 0
bytes-append (x ∷ xs) ys p q (suc i) = bytes-append xs ys (λ k. p (suc k)) q i

-- the result is the fault that was found
Tells-fault : (found : Option FrameError) (fault : FrameError) → found ≡ Some fault
    → Tells (Err fault) found
Tells-fault found BadLength is = is
Tells-fault found TooLong is = is
Tells-fault found BadType is = is
Tells-fault found Memory is = tt

-- a fault judges whatever follows it
pub judged_ever : (limit : ℕ) (old more : List ℕ) (fault : FrameError) → HasFault limit old (Some fault)
    → IsJudged limit (old ++ more) (Err fault)
judged_ever limit old more fault has =
    let stays : HasFault limit (old ++ more) (Some fault) = record {
      frames = has.frames;
      rest = has.rest ++ more;
      cuts = cuts-fault limit old more has.frames has.rest fault has.cuts has.stands;
      stands = fault_at-more limit has.rest more fault has.stands;
    } in
    (Some fault, stays, Tells-fault (Some fault) fault refl)

-- out of memory says nothing about the fault, so it fits any stream
pub judged_memory : (limit : ℕ) (old more : List ℕ) → IsBytes old → IsBytes more
    → IsJudged limit (old ++ more) (Err Memory)
judged_memory limit old more small small' =
    let cut = cut_of limit (old ++ more) (bytes-append old more small small') in
    (fault_at limit cut.1, record { frames = cut.0; rest = cut.1; cuts = cut.2; stands = refl }, tt)

-- a stream has one fault at most, in one rest
pub fault_once : (limit : ℕ) (stream : List ℕ) (a b : Option FrameError) → HasFault limit stream a → HasFault limit stream b
    → a ≡ b
fault_once limit stream a b x y =
    let one = cuts_once limit stream x.frames y.frames x.rest y.rest x.cuts y.cuts in
    sym x.stands ∙ ap (fault_at limit) one.1 ∙ y.stands

-- the fault in what a cutter keeps
pub ready_fault : (limit : ℕ) (stream : List ℕ) (ready : ℕ) → IsReady limit stream ready
    → HasFault limit stream (fault_at limit (drop ready stream))
ready_fault limit stream ready is =
    record { frames = is.frames; rest = drop ready stream; cuts = is.cuts; stands = refl }

-- out of memory is no fault of a stream
pub no_memory : (limit : ℕ) (bytes : List ℕ) → fault_at limit bytes ≡ Some Memory → ⊥
no_memory limit [] e = some_fault Memory (sym (fault_at_nothing limit) ∙ e)
no_memory limit (kind ∷ after) e =
    elim (front_is limit kind after) [
      | is_no_type is ↦ let apart : Some BadType ≡ Some Memory =
          sym (fault_at_type limit kind after is) ∙ e in cc
      | is_short is few ↦ some_fault Memory (sym (fault_at_short limit kind after is few) ∙ e)
      | is_low is whole few ↦ let apart : Some BadLength ≡ Some Memory =
          sym (fault_at_low limit kind after is whole few) ∙ e in cc
      | is_high is whole enough many ↦ let apart : Some TooLong ≡ Some Memory =
          sym (fault_at_high limit kind after is whole enough many) ∙ e in cc
      | is_good is whole enough fits ↦ some_fault Memory
          (sym (fault_at_header limit kind after is whole enough fits) ∙ e)
    ]

-- what stands first where some bytes are whole frames
pub record IsNext (limit : ℕ) (bytes : List ℕ) (ready : ℕ) (frame : Frame) : Type 0 where
  pub is : IsFrame limit frame
  pub whole : bytes ≡ text frame ++ drop (5 + length frame.body) bytes
  pub left : IsReady limit (drop (5 + length frame.body) bytes) (ready - (5 + length frame.body))
  pub fits : 5 + length frame.body ≤ ready
  pub within : 5 + length frame.body ≤ length bytes

pub record HasNext (limit : ℕ) (bytes : List ℕ) (ready : ℕ) : Type 0 where
  pub header : 5 ≤ length bytes
  pub low : 4 ≤ big_number 4 (drop 1 bytes)
  pub whole : 1 + big_number 4 (drop 1 bytes) ≤ length bytes
  pub read : (frame : Frame) → frame.kind ≡ get_or bytes 0 0
      → frame.body ≡ take (big_number 4 (drop 1 bytes) - 4) (drop 5 bytes)
      → IsNext limit bytes ready frame

pub has_next : (limit : ℕ) (bytes : List ℕ) (ready : ℕ) → IsReady limit bytes ready → 0 < ready → HasNext limit bytes ready
has_next limit bytes ready is some =
    let front = IsReady-front limit bytes ready is some in
    let f = front.0 in
    let reads = front_reads limit bytes (drop (length (text f)) bytes) f front.1 front.3 in
    let len : length (text f) ≡ 5 + length f.body = length-text f in
    let size : big_number 4 (drop 1 bytes) - 4 ≡ length f.body = omega (arith, reads.1) in
    let next : IsNext limit bytes ready f = record {
      is = front.1;
      whole = front.3 ∙ ap (λ n. text f ++ drop n bytes) len;
      left = subst (λ (n : ℕ). IsReady limit (drop n bytes) (ready - n)) len front.2;
      fits = omega (arith, len, front.4);
      within = reads.3;
    } in
    record {
      header = omega (arith, reads.3);
      low = omega (arith, reads.1);
      whole = omega (arith, reads.1, reads.3);
      read = λ frame kind body.
          let bodies : frame.body ≡ f.body =
          body ∙ ap (λ n. take n (drop 5 bytes)) size ∙ reads.2 in
          let same : frame ≡ f = same_frame frame f (kind ∙ reads.0) bodies in
          subst (IsNext limit bytes ready) (sym same) next;
    }

-- the frame that was read of the bytes is the one that stands first
pub next_read : (limit : ℕ) {bytes : List ℕ} {ready : ℕ} {seen : List ℕ} {frame : Frame} → IsReady limit bytes ready
    → 0 < ready → seen ≡ bytes → frame.kind ≡ get_or seen 0 0
    → frame.body ≡ take (big_number 4 (drop 1 seen) - 4) (drop 5 seen) → IsNext limit bytes ready frame
next_read limit is some same kind body =
    (has_next limit _ _ is some).read _ (kind ∙ ap (λ xs. get_or xs 0 0) same)
    (body ∙ ap (λ xs. take (big_number 4 (drop 1 xs) - 4) (drop 5 xs)) same)

-- frames that stood first in some bytes were put behind others
pub record Handed (limit : ℕ) (old : List ℕ) (before : List Frame) (new : List ℕ) (after : List Frame) : Type 0
  where
    pub more : List Frame
    pub each : AllByRecursion (IsFrame limit) more
    pub whole : old ≡ texts more ++ new
    pub behind : after ≡ before ++ more

pub Handed-none : (limit : ℕ) (bytes : List ℕ) (frames : List Frame) → Handed limit bytes frames bytes frames
Handed-none limit bytes frames =
    record { more = []; each = tt; whole = refl; behind = sym (append-nil frames) }

-- one more
pub Handed-more : (limit : ℕ) (old : List ℕ) (before : List Frame) (new : List ℕ) (after : List Frame)
    (f : Frame) (left : List ℕ) (behind : List Frame) → Handed limit old before new after → IsFrame limit f
    → new ≡ text f ++ left → behind ≡ after ++ f ∷ [] → Handed limit old before left behind
Handed-more limit old before new after f left behind h is e put =
    let one : texts (f ∷ []) ≡ text f = append-nil (text f) in
    let joined : texts (h.more ++ f ∷ []) ≡ texts h.more ++ text f =
    texts-append h.more (f ∷ []) ∙ ap (λ xs. texts h.more ++ xs) one in
    record {
      more = h.more ++ f ∷ [];
      each = each-append limit h.more (f ∷ []) h.each (is, tt);
      whole = h.whole ∙ ap (λ xs. texts h.more ++ xs) e
          ∙ sym (append_assoc (texts h.more) (text f) left) ∙ ap (λ xs. xs ++ left) (sym joined);
      behind = put ∙ ap (λ fs. fs ++ f ∷ []) h.behind ∙ append_assoc before h.more (f ∷ []);
    }

-- the same by a cutter of this limit
pub Handed-next : (limit at : ℕ) (old : List ℕ) (before : List Frame) (new : List ℕ)
    (after : List Frame) (f : Frame) (left : List ℕ) (behind : List Frame) → at ≡ limit
    → Handed limit old before new after → IsFrame at f → new ≡ text f ++ left
    → behind ≡ after ++ f ∷ [] → Handed limit old before left behind
Handed-next limit at old before new after f left behind same h is e put =
    Handed-more limit old before new after f left behind h
    (subst (λ (n : ℕ). IsFrame n f) same is) e put

-- with none left, they are the cutting
pub Handed-all : (limit : ℕ) (old : List ℕ) (before : List Frame) (new : List ℕ) (after : List Frame)
    (left : List ℕ) → Handed limit old before new after → BeginsNoFrame limit new → left ≡ new
    → (more : List Frame) × Cuts limit old more left × (after ≡ before ++ more)
Handed-all limit old before new after left h none same =
    let cuts : Cuts limit old h.more new = record { whole = h.whole; each = h.each; longest = none } in
    (h.more, subst (λ (xs : List ℕ). Cuts limit old h.more xs) (sym same) cuts, h.behind)

-- a stream so far is cut, and no fault stands in its rest
pub record IsCutSoFar (limit : ℕ) (stream : List ℕ) (frames : List Frame) (rest : List ℕ) : Type 0 where
  pub cuts : Cuts limit stream frames rest
  pub none : fault_at limit rest ≡ None

-- an error other than out of memory is the fault that was found
pub told_fault : (fault : FrameError) (found : Option FrameError) → (fault ≡ Memory → ⊥)
    → Tells (Err fault) found → found ≡ Some fault
told_fault BadLength found other is = is
told_fault TooLong found other is = is
told_fault BadType found other is = is
told_fault Memory found other is = absurd (other refl)

-- the frames that a piece made whole, and the fault behind them
pub piece_taken : (limit at : ℕ) (stream new left : List ℕ) (before after : List Frame)
    (fault : Option FrameError) → at ≡ limit
    → (more : List Frame) × Cuts at new more left × (after ≡ before ++ more) → new ≡ stream
    → HasFault limit stream fault → (more : List Frame) × Cuts limit stream more left
    × (after ≡ before ++ more) × (fault ≡ fault_at limit left)
piece_taken limit at stream new left before after fault is w same has =
    let there : Cuts limit new w.0 left = subst (λ (n : ℕ). Cuts n new w.0 left) is w.1 in
    let cuts : Cuts limit stream w.0 left =
    subst (λ (xs : List ℕ). Cuts limit xs w.0 left) same there in
    let found : HasFault limit stream (fault_at limit left) =
    record { frames = w.0; rest = left; cuts = cuts; stands = refl } in
    (w.0, cuts, w.2, fault_once limit stream fault (fault_at limit left) has found)

-- a stream so far, and a piece of it more
pub so_far_more : (limit : ℕ) (stream rest piece left : List ℕ) (frames more after : List Frame)
    → IsCutSoFar limit stream frames rest → Cuts limit (rest ++ piece) more left → after ≡ frames ++ more
    → Cuts limit (stream ++ piece) after left
so_far_more limit stream rest piece left frames more after so_far cuts behind =
    let joined : Cuts limit (texts frames ++ (rest ++ piece)) (frames ++ more) left =
    cuts_after limit frames (rest ++ piece) more left so_far.cuts.each cuts in
    let same : texts frames ++ (rest ++ piece) ≡ stream ++ piece =
    sym (append_assoc (texts frames) rest piece)
    ∙ ap (λ xs. xs ++ piece) (sym so_far.cuts.whole) in
    let here : Cuts limit (stream ++ piece) (frames ++ more) left =
    subst (λ (xs : List ℕ). Cuts limit xs (frames ++ more) left) same joined in
    subst (λ (fs : List Frame). Cuts limit (stream ++ piece) fs left) (sym behind) here

-- no fault stands in what is left of a stream so far
pub so_far_none : (limit : ℕ) (stream rest : List ℕ) (frames : List Frame) → IsCutSoFar limit stream frames rest
    → HasFault limit rest None
so_far_none limit stream rest frames so_far =
    record {
      frames = [];
      rest = rest;
      cuts = cuts_none limit rest so_far.cuts.longest;
      stands = so_far.none;
    }

-- a piece of it more, by a cutter of this limit
pub taken_on : (limit at : ℕ) (stream rest piece left : List ℕ) (frames after : List Frame)
    (fault : Option FrameError) → at ≡ limit → IsCutSoFar limit stream frames rest
    → (HasFault at rest None → (more : List Frame) × Cuts at (rest ++ piece) more left
    × (after ≡ frames ++ more) × (fault ≡ fault_at at left))
    → Cuts limit (stream ++ piece) after left × (fault ≡ fault_at limit left)
taken_on limit at stream rest piece left frames after fault same so_far says =
    let none = so_far_none limit stream rest frames so_far in
    let taken = says (subst (λ (n : ℕ). HasFault n rest None) (sym same) none) in
    let cuts = subst (λ (n : ℕ). Cuts n (rest ++ piece) taken.0 left) same taken.1 in (
      so_far_more limit stream rest piece left frames taken.0 after so_far cuts taken.2,
      taken.3 ∙ ap (λ n. fault_at n left) same,
    )

-- a stream is cut in only one way: with the same frames, and the same fault in its rest
pub told_once : (limit : ℕ) (stream : List ℕ) (frames : List Frame) (rest : List ℕ) (fault : Option FrameError)
    → Cuts limit stream frames rest → fault ≡ fault_at limit rest → (others : List Frame) (left : List ℕ)
    → Cuts limit stream others left → (others ≡ frames) × (fault_at limit left ≡ fault)
told_once limit stream frames rest fault cuts is others left cuts' =
    let one = cuts_once limit stream others frames left rest cuts' cuts in
    (one.0, ap (fault_at limit) one.1 ∙ sym is)

-- one more piece of a stream, and the pieces after some
pub joined-more : {X : Type 0} (f : X → List ℕ) (xs : List X) (i : ℕ) (d : X) → i < length xs
    → flat_map f (take (i + 1) xs) ≡ flat_map f (take i xs) ++ f (get_or xs i d)
joined-more f xs i d within = ap (flat_map f) (take_more xs i d within)
    ∙ flat_map-append f (take i xs) (get_or xs i d ∷ [])
    ∙ ap (λ ys. flat_map f (take i xs) ++ ys) (append-nil (f (get_or xs i d)))

pub joined-all : {X : Type 0} (f : X → List ℕ) (xs : List X) (i : ℕ)
    → flat_map f (take i xs) ++ flat_map f (drop i xs) ≡ flat_map f xs
joined-all f xs i =
    sym (flat_map-append f (take i xs) (drop i xs)) ∙ ap (flat_map f) (take-append-drop i xs)

-- a cut stream whose rest has a fault is cut so, however it goes on
pub cut_through : (limit : ℕ) (stream more : List ℕ) (frames : List Frame) (rest : List ℕ) (all : List ℕ)
    (fault : FrameError) → Cuts limit stream frames rest → fault_at limit rest ≡ Some fault
    → stream ++ more ≡ all → (left : List ℕ) × Cuts limit all frames left × (Some fault ≡ fault_at limit left)
cut_through limit stream more frames rest all fault cuts stands same = (
  rest ++ more,
  subst (λ (xs : List ℕ). Cuts limit xs frames (rest ++ more)) same
      (cuts-fault limit stream more frames rest fault cuts stands),
  sym (fault_at-more limit rest more fault stands),
)

-- the same for a fault that is some
pub cut_through_some : (limit : ℕ) (stream more : List ℕ) (frames : List Frame) (rest : List ℕ) (all : List ℕ)
    (found : Option FrameError) → IsTrue (is_some found) → Cuts limit stream frames rest
    → found ≡ fault_at limit rest → stream ++ more ≡ all → (left : List ℕ) × Cuts limit all frames left
    × (found ≡ fault_at limit left)
cut_through_some limit stream more frames rest all None some cuts stands same = absurd (false≢true some)
cut_through_some limit stream more frames rest all (Some fault) some cuts stands same =
    cut_through limit stream more frames rest all fault cuts (sym stands) same

-- and for none
pub none_from : (found : Option FrameError) → is_some found ≡ false → found ≡ None
none_from None is = refl
none_from (Some fault) is = absurd (false≢true (sym is))

pub so_far_start : (limit : ℕ) (frames : List Frame) (rest : List ℕ) → frames ≡ [] → rest ≡ []
    → IsCutSoFar limit [] frames rest
so_far_start limit frames rest none empty =
    let start : IsCutSoFar limit [] [] [] =
    record { cuts = cuts_none limit [] (no_frame-short limit [] (omega arith)); none = fault_at_nothing limit } in
    let here : IsCutSoFar limit [] frames [] =
    subst (λ (fs : List Frame). IsCutSoFar limit [] fs []) (sym none) start in
    subst (λ (xs : List ℕ). IsCutSoFar limit [] frames xs) (sym empty) here
