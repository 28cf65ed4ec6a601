-- The text of a frame tells its type, its length and its body.
use Rattle.std.proofs.Common.{◌≡◌, ℕ, ◌+◌, ◌*◌, ◌/◌, ◌%◌, ◌<◌, ◌≤◌, true, false, List, [], ◌∷◌, ◌++◌, length, take, drop, get_or, Some, None, inl, inr, refl, sym, ap, ◌∙◌, arith, ltb, length-append, take-append-drop}
use Rattle.std.proofs.lemmas.Bool.{le-ltb, lt-ltb, cases_lt, cases_Bool}
use Rattle.std.proofs.lemmas.List.{take_at, drop_at, drop-drop, length-drop, length-take-le}
use Rattle.byteorder.specs.Endian.{big_bytes, big_number}
use Rattle.pg_frames.specs.declared.frame.Frame.{Frame}
use Rattle.pg_frames.specs.declared.error.FrameError.{FrameError}
use Rattle.pg_frames.specs.declared.error.FrameError.TheVariants.{BadLength, TooLong, BadType}
use Rattle.pg_frames.specs.FrameText.{text, is_type, IsFrame, BeginsNoFrame, fault_at}
use Rattle.pg_frames.specs.Passage.{head_text}

-- each item is a byte
abbrev pub IsBytes : List ℕ → Type 0
IsBytes bytes = (i : ℕ) → get_or bytes i 0 < 256

-- two frames with one type and one body are one
pub same_frame : (f g : Frame) → f.kind ≡ g.kind → f.body ≡ g.body → f ≡ g
same_frame f g kind body =
    let mk : ℕ → List ℕ → Frame = λ k b. record { kind = k; body = b } in
    ap (λ k. mk k f.body) kind ∙ ap (λ b. mk g.kind b) body

pub length-text : (f : Frame) → length (text f) ≡ 5 + length f.body
unfolding text
length-text f = omega (arith, length-append (big_bytes 4 (4 + length f.body)) f.body)

-- what stands in a text's length field
pub number-text : (limit : ℕ) (f : Frame) (more : List ℕ) → IsFrame limit f
    → big_number 4 (drop 1 (text f ++ more)) ≡ 4 + length f.body
unfolding text
number-text limit f more is = omega (arith, is.fits)

-- the type byte comes first, and the body after the header
text_kind : (f : Frame) (more : List ℕ) → get_or (text f ++ more) 0 0 ≡ f.kind
unfolding text
text_kind f more = refl

text_body : (f : Frame) (more : List ℕ) → take (length f.body) (drop 5 (text f ++ more)) ≡ f.body
unfolding text
text_body f more = take_at f.body more (length f.body) refl

-- two lists with one front of one length have one rest
same_parts : (a b x y : List ℕ) → length a ≡ length b → a ++ x ≡ b ++ y → (a ≡ b) × (x ≡ y)
same_parts a b x y len e = (
  sym (take_at a x (length a) refl) ∙ ap (take (length a)) e ∙ take_at b y (length a) (sym len),
  sym (drop_at a x (length a) refl) ∙ ap (drop (length a)) e ∙ drop_at b y (length a) (sym len),
)

-- one text begins a stream at most
pub same_front : (limit : ℕ) (f g : Frame) (x y : List ℕ) → IsFrame limit f → IsFrame limit g → text f ++ x ≡ text g ++ y
    → (f ≡ g) × (x ≡ y)
unfolding text
same_front limit f g x y is is' e =
    let n = 4 + length f.body in
    let m = 4 + length g.body in
    let b3 : n / 16777216 % 256 ≡ m / 16777216 % 256 = cc in
    let b2 : n / 65536 % 256 ≡ m / 65536 % 256 = cc in
    let b1 : n / 256 % 256 ≡ m / 256 % 256 = cc in
    let b0 : n % 256 ≡ m % 256 = cc in
    let kinds : f.kind ≡ g.kind = cc in
    let tails : f.body ++ x ≡ g.body ++ y = cc in
    let sizes : length f.body ≡ length g.body = omega (arith, is.fits, is'.fits) in
    let parts = same_parts f.body g.body x y sizes tails in
    (same_frame f g kinds parts.0, parts.1)

-- no fault stands at a whole header of the format
pub fault_at_header : (limit : ℕ) (kind : ℕ) (after : List ℕ) → is_type kind ≡ true → 4 ≤ length after
    → 4 ≤ big_number 4 after → big_number 4 after ≤ limit → fault_at limit (kind ∷ after) ≡ None
unfolding fault_at
fault_at_header limit kind after is size low high =
    let whole : ltb (length after) 4 ≡ false = le-ltb _ _ size in
    let not_low : ltb (big_number 4 after) 4 ≡ false = le-ltb _ _ low in
    let not_high : ltb limit (big_number 4 after) ≡ false = le-ltb _ _ high in
    rw (is, whole, not_low, not_high) refl

-- the faults, each under its own tests
pub fault_at_type : (limit : ℕ) (kind : ℕ) (after : List ℕ) → is_type kind ≡ false
    → fault_at limit (kind ∷ after) ≡ Some BadType
unfolding fault_at
fault_at_type limit kind after is = rw is refl

pub fault_at_short : (limit : ℕ) (kind : ℕ) (after : List ℕ) → is_type kind ≡ true → length after < 4
    → fault_at limit (kind ∷ after) ≡ None
unfolding fault_at
fault_at_short limit kind after is short =
    let test : ltb (length after) 4 ≡ true = lt-ltb _ _ short in
    rw (is, test) refl

pub fault_at_low : (limit : ℕ) (kind : ℕ) (after : List ℕ) → is_type kind ≡ true → 4 ≤ length after
    → big_number 4 after < 4 → fault_at limit (kind ∷ after) ≡ Some BadLength
unfolding fault_at
fault_at_low limit kind after is size low =
    let whole : ltb (length after) 4 ≡ false = le-ltb _ _ size in
    let test : ltb (big_number 4 after) 4 ≡ true = lt-ltb _ _ low in
    rw (is, whole, test) refl

pub fault_at_high : (limit : ℕ) (kind : ℕ) (after : List ℕ) → is_type kind ≡ true → 4 ≤ length after
    → 4 ≤ big_number 4 after → limit < big_number 4 after → fault_at limit (kind ∷ after) ≡ Some TooLong
unfolding fault_at
fault_at_high limit kind after is size low high =
    let whole : ltb (length after) 4 ≡ false = le-ltb _ _ size in
    let not_low : ltb (big_number 4 after) 4 ≡ false = le-ltb _ _ low in
    let test : ltb limit (big_number 4 after) ≡ true = lt-ltb _ _ high in
    rw (is, whole, not_low, test) refl

-- the front of some bytes, by the tests that judge it
pub data Front (limit kind : ℕ) (after : List ℕ) : Type 0 where
  is_no_type : is_type kind ≡ false → Front limit kind after
  is_short : is_type kind ≡ true → length after < 4 → Front limit kind after
  is_low : is_type kind ≡ true → 4 ≤ length after → big_number 4 after < 4 → Front limit kind after
  is_high : is_type kind ≡ true → 4 ≤ length after → 4 ≤ big_number 4 after
      → limit < big_number 4 after → Front limit kind after
  is_good : is_type kind ≡ true → 4 ≤ length after → 4 ≤ big_number 4 after
      → big_number 4 after ≤ limit → Front limit kind after

pub front_is : (limit kind : ℕ) (after : List ℕ) → Front limit kind after
front_is limit kind after =
    elim (cases_Bool (is_type kind)) [
      | inr is_not ↦ is_no_type is_not
      | inl is ↦ elim (cases_lt (length after) 4) [
        | inl few ↦ is_short is few
        | inr whole ↦ elim (cases_lt (big_number 4 after) 4) [
          | inl few ↦ is_low is whole few
          | inr enough ↦ elim (cases_lt limit (big_number 4 after)) [
            | inl many ↦ is_high is whole enough many
            | inr fits ↦ is_good is whole enough fits
          ]
        ]
      ]
    ]

-- no fault stands where a frame's text does
pub fault_at-text : (limit : ℕ) (f : Frame) (more : List ℕ) → IsFrame limit f → fault_at limit (text f ++ more) ≡ None
unfolding text
fault_at-text limit f more is =
    fault_at_header limit f.kind _ (is.type_byte) (omega arith) (omega (arith, is.fits))
    (omega (arith, is.size, is.fits))

-- where a fault stands, no frame's text does
pub no_frame-fault : (limit : ℕ) (bytes : List ℕ) (fault : FrameError) → fault_at limit bytes ≡ Some fault
    → BeginsNoFrame limit bytes
no_frame-fault limit bytes fault stands f more is e =
    let none : fault_at limit bytes ≡ None = ap (fault_at limit) e ∙ fault_at-text limit f more is in cc

-- fewer bytes than a header begin no frame
pub no_frame-short : (limit : ℕ) (bytes : List ℕ) → length bytes < 5 → BeginsNoFrame limit bytes
no_frame-short limit bytes short f more is e =
    omega (arith, ap length e, length-append (text f) more, length-text f)

-- fewer bytes than the length field says begin no frame
pub no_frame-part : (limit : ℕ) (bytes : List ℕ) → length bytes < 1 + big_number 4 (drop 1 bytes)
    → BeginsNoFrame limit bytes
no_frame-part limit bytes part f more is e =
    let number : big_number 4 (drop 1 bytes) ≡ 4 + length f.body =
    ap (λ xs. big_number 4 (drop 1 xs)) e ∙ number-text limit f more is in
    omega (arith, part, number, ap length e, length-append (text f) more, length-text f)

-- the frame at the front, with a body of this many bytes
abbrev pub front_frame : List ℕ → ℕ → Frame
front_frame bytes size = record { kind = get_or bytes 0 0; body = take size (drop 5 bytes) }

-- the head that stands at the front
head_front_of : (k b3 b2 b1 b0 : ℕ) (rest : List ℕ) (size : ℕ) → b3 < 256 → b2 < 256 → b1 < 256
    → b0 < 256 → size ≡ b3 * 16777216 + (b2 * 65536 + (b1 * 256 + b0))
    → k ∷ b3 ∷ b2 ∷ b1 ∷ b0 ∷ rest ≡ head_text k size ++ rest
head_front_of k b3 b2 b1 b0 rest size f3 f2 f1 f0 number =
    let c3 : b3 ≡ size / 16777216 % 256 = omega arith in
    let c2 : b2 ≡ size / 65536 % 256 = omega arith in
    let c1 : b1 ≡ size / 256 % 256 = omega arith in
    let c0 : b0 ≡ size % 256 = omega arith in
    cc

pub head_front : (bytes : List ℕ) (size : ℕ) → IsBytes bytes → 5 ≤ length bytes
    → size ≡ big_number 4 (drop 1 bytes) → bytes ≡ head_text (get_or bytes 0 0) size ++ drop 5 bytes
head_front [] size small fits number = absurd (omega arith)
head_front (k ∷ []) size small fits number = absurd (omega arith)
head_front (k ∷ b3 ∷ []) size small fits number = absurd (omega arith)
head_front (k ∷ b3 ∷ b2 ∷ []) size small fits number = absurd (omega arith)
head_front (k ∷ b3 ∷ b2 ∷ b1 ∷ []) size small fits number = absurd (omega arith)
head_front (k ∷ b3 ∷ b2 ∷ b1 ∷ b0 ∷ rest) size small fits number =
    head_front_of k b3 b2 b1 b0 rest size (small 1) (small 2) (small 3) (small 4) (omega arith)

-- a frame's text is a head and the body
pub text_is : (f : Frame) (more : List ℕ)
    → text f ++ more ≡ head_text f.kind (4 + length f.body) ++ (f.body ++ more)
unfolding text
text_is f more = refl

-- where a whole header stands, and as many bytes as it says, a text does
pub front_text : (bytes : List ℕ) (size : ℕ) → IsBytes bytes → 5 + size ≤ length bytes
    → 4 + size ≡ big_number 4 (drop 1 bytes)
    → bytes ≡ text (front_frame bytes size) ++ drop (5 + size) bytes
front_text bytes size small fits number =
    let after = drop 5 bytes in
    let f = front_frame bytes size in
    let len : length (take size after) ≡ size =
    length-take-le size after (omega (arith, length-drop 5 bytes)) in
    let body : after ≡ take size after ++ drop (5 + size) bytes = sym (take-append-drop size after)
    ∙ ap (λ xs. take size after ++ xs) (drop-drop size 5 bytes) in
    head_front bytes (4 + size) small (omega arith) number
    ∙ ap (λ n. head_text f.kind (4 + n) ++ after) (sym len)
    ∙ ap (λ xs. head_text f.kind (4 + length f.body) ++ xs) body
    ∙ sym (text_is f (drop (5 + size) bytes))

-- what the first bytes of a frame's text are
pub front_reads : (limit : ℕ) (bytes more : List ℕ) (f : Frame) → IsFrame limit f → bytes ≡ text f ++ more
    → (get_or bytes 0 0 ≡ f.kind) × (big_number 4 (drop 1 bytes) ≡ 4 + length f.body)
    × (take (length f.body) (drop 5 bytes) ≡ f.body) × (5 + length f.body ≤ length bytes)
front_reads limit bytes more f is e = (
  ap (λ xs. get_or xs 0 0) e ∙ text_kind f more,
  ap (λ xs. big_number 4 (drop 1 xs)) e ∙ number-text limit f more is,
  ap (λ xs. take (length f.body) (drop 5 xs)) e ∙ text_body f more,
  omega (arith, ap length e, length-append (text f) more, length-text f),
)
