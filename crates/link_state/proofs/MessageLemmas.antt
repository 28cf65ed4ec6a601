-- Messages at the front of bytes, and the rest behind them.
use Rattle.std.proofs.Common.{◌≡◌, ℕ, ◌+◌, ◌-◌, ◌/◌, ◌%◌, ◌^◌, ◌<◌, ◌≤◌, ◌⊎◌, Bool, true, false, List, [], ◌∷◌, ◌++◌, length, take, drop, get_or, inl, inr, refl, sym, ap, ◌∙◌, subst, arith, append_assoc, append-nil, length-append, length-drop, length-take}
use Rattle.std.specs.List.{AllByRecursion}
use Rattle.std.proofs.lemmas.Bool.{cases_lt}
use Rattle.std.proofs.lemmas.List.{take_at, drop_at, take_all, take-append-le, length-take-le, get_or-take, drop_all, get_or_append_left, get_or-append_right, get_or_past, drop-take}
use Rattle.std.proofs.lemmas.List.Concat.{flat_map-append}
use Rattle.pg_frames.specs.declared.frame.Frame.{Frame}
use Rattle.pg_frames.specs.FrameText.{text, texts}
use Rattle.pg_frames.proofs.TextLemmas.{same_frame, length-text, front_frame, front_text}
use Rattle.link_state.specs.HeadLength.{length_in, AreBytes}
use Rattle.link_state.specs.Watch.{IsMessage, BeginsNoMessage, Begins, Awaits, IsComing, IsBroken}
use Rattle.link_state.specs.Watched.{IsWhole}

-- what stands in the length field of a message
number_of : (f : Frame) (more : List ℕ) → IsMessage f → length_in (text f ++ more) ≡ 4 + length f.body
unfolding text
number_of f more is = omega (arith, is)

pub none_short : (bytes : List ℕ) → length bytes < 5 → BeginsNoMessage bytes
none_short bytes short f more is e =
    omega (arith, short, ap length e, length-append (text f) more, length-text f)

none_part : (bytes : List ℕ) → length bytes < 1 + length_in bytes → BeginsNoMessage bytes
none_part bytes part f more is e =
    let number : length_in bytes ≡ 4 + length f.body = ap length_in e ∙ number_of f more is in
    omega (arith, part, number, ap length e, length-append (text f) more, length-text f)

none_low : (bytes : List ℕ) → length_in bytes < 4 → BeginsNoMessage bytes
none_low bytes low f more is e =
    let number : length_in bytes ≡ 4 + length f.body = ap length_in e ∙ number_of f more is in
    omega (arith, low, number)

-- no message begins where the length field is below 4, or says that more is to come
pub none_wrong : (bytes : List ℕ) (number : ℕ) → number ≡ length_in bytes
    → (number < 4) ⊎ ((4 ≤ number) × (length bytes ≤ number)) → BeginsNoMessage bytes
none_wrong bytes number is (inl low) = none_low bytes (omega (arith, is, low))
none_wrong bytes number is (inr (_, part)) = none_part bytes (omega (arith, is, part))

pub none_empty : BeginsNoMessage []
none_empty = none_short [] (omega arith)

-- no message begins a rest of which some is to come
pub none_awaits : (in_body : Bool) (left : ℕ) (rest : List ℕ) → 0 < left → Awaits in_body left rest → BeginsNoMessage rest
none_awaits false left rest some awaits = none_short rest (omega (arith, some, awaits))
none_awaits true left rest some awaits = none_part rest (omega (arith, some, awaits.2))

pub none_broken : (rest : List ℕ) → IsBroken rest → BeginsNoMessage rest
none_broken rest broken = none_low rest broken.low

-- one message at most begins some bytes
pub same_front : (f g : Frame) (x y : List ℕ) → IsMessage f → IsMessage g → text f ++ x ≡ text g ++ y → (f ≡ g) × (x ≡ y)
unfolding text
same_front f g x y is is' e =
    let n = 4 + length f.body in
    let m = 4 + length g.body in
    let b3 : n / 16777216 % 256 ≡ m / 16777216 % 256 = cc in
    let b2 : n / 65536 % 256 ≡ m / 65536 % 256 = cc in
    let b1 : n / 256 % 256 ≡ m / 256 % 256 = cc in
    let b0 : n % 256 ≡ m % 256 = cc in
    let kinds : f.kind ≡ g.kind = cc in
    let tails : f.body ++ x ≡ g.body ++ y = cc in
    let sizes : length f.body ≡ length g.body = omega (arith, is, is', b3, b2, b1, b0) in
    let bodies : f.body ≡ g.body =
    sym (take_at f.body x (length f.body) refl) ∙ ap (take (length f.body)) tails ∙ take_at g.body y (length f.body) (sym sizes) in
    let rests : x ≡ y =
    sym (drop_at f.body x (length f.body) refl) ∙ ap (drop (length f.body)) tails ∙ drop_at g.body y (length f.body) (sym sizes) in
    (same_frame f g kinds bodies, rests)

one_by : (fs gs : List Frame) (r q : List ℕ) → AllByRecursion IsMessage fs → AllByRecursion IsMessage gs → BeginsNoMessage r → BeginsNoMessage q → texts fs ++ r ≡ texts gs ++ q → fs ≡ gs
one_by [] [] r q each each' none none' e = refl
one_by [] (g ∷ gs) r q each each' none none' e =
    absurd (none g (texts gs ++ q) each'.0 (e ∙ append_assoc (text g) (texts gs) q))
one_by (f ∷ fs) [] r q each each' none none' e =
    absurd (none' f (texts fs ++ r) each.0 (sym e ∙ append_assoc (text f) (texts fs) r))
one_by (f ∷ fs) (g ∷ gs) r q each each' none none' e =
    let fronts = same_front f g (texts fs ++ r) (texts gs ++ q) each.0 each'.0 (sym (append_assoc (text f) (texts fs) r) ∙ e ∙ append_assoc (text g) (texts gs) q) in
    let more = one_by fs gs r q each.1 each'.1 none none' fronts.1 in
    same fronts.0 more
  where
    same : {a b : Frame} {xs ys : List Frame} → a ≡ b → xs ≡ ys → a ∷ xs ≡ b ∷ ys
    same heads tails = cc

-- the messages at the front of bytes are one list
pub begins_once : (bytes : List ℕ) (fs gs : List Frame) (r q : List ℕ) → Begins bytes fs r → Begins bytes gs q → fs ≡ gs
begins_once bytes fs gs r q b d =
    one_by fs gs r q b.each d.each b.longest d.longest (sym b.whole ∙ d.whole)

-- more bytes behind the rest
pub begins_more : (bytes piece rest : List ℕ) (frames : List Frame) → Begins bytes frames rest → BeginsNoMessage (rest ++ piece) → Begins (bytes ++ piece) frames (rest ++ piece)
begins_more bytes piece rest frames begins none = record {
  whole = ap (λ (xs : List ℕ). xs ++ piece) begins.whole ∙ append_assoc (texts frames) rest piece;
  each = begins.each;
  longest = none;
}

each_more : (fs : List Frame) (f : Frame) → AllByRecursion IsMessage fs → IsMessage f → AllByRecursion IsMessage (fs ++ f ∷ [])
each_more [] f all is = (is, tt)
each_more (g ∷ gs) f all is = (all.0, each_more gs f all.1 is)

-- a message more
pub begins_frame : (bytes piece rest : List ℕ) (frames : List Frame) (f : Frame) → Begins bytes frames rest → IsMessage f → rest ++ piece ≡ text f → Begins (bytes ++ piece) (frames ++ f ∷ []) []
begins_frame bytes piece rest frames f begins is e = record {
  whole = ap (λ (xs : List ℕ). xs ++ piece) begins.whole ∙ append_assoc (texts frames) rest piece
      ∙ ap (λ (xs : List ℕ). texts frames ++ xs) (e ∙ sym (append-nil (text f)))
      ∙ sym (flat_map-append text frames (f ∷ []))
      ∙ sym (append-nil (texts (frames ++ f ∷ [])));
  each = each_more frames f begins.each is;
  longest = none_empty;
}

-- the length field stays
pub length_stays : (rest more : List ℕ) → 5 ≤ length rest → length_in (rest ++ more) ≡ length_in rest
length_stays [] more h = absurd (omega (arith, h))
length_stays (a ∷ []) more h = absurd (omega (arith, h))
length_stays (a ∷ b ∷ []) more h = absurd (omega (arith, h))
length_stays (a ∷ b ∷ c ∷ []) more h = absurd (omega (arith, h))
length_stays (a ∷ b ∷ c ∷ d ∷ []) more h = absurd (omega (arith, h))
length_stays (a ∷ b ∷ c ∷ d ∷ e ∷ rest) more h = refl

pub broken_more : (rest more : List ℕ) → IsBroken rest → IsBroken (rest ++ more)
broken_more rest more broken = record {
  head = omega (arith, broken.head, length-append rest more);
  low = omega (arith, broken.low, length_stays rest more broken.head);
}

pub bytes_more : (xs ys : List ℕ) → AreBytes xs → AreBytes ys → AreBytes (xs ++ ys)
bytes_more xs ys these those i =
    elim (cases_lt i (length xs)) [
      | inl before ↦ subst (λ (n : ℕ). n < 256) (sym (get_or_append_left xs ys 0 i before)) (these i)
      | inr past ↦ subst (λ (n : ℕ). n < 256) (sym (get_or-append_right xs ys (length xs) i 0 refl past)) (those (i - length xs))
    ]

pub bytes_left : (xs ys : List ℕ) → AreBytes (xs ++ ys) → AreBytes xs
bytes_left xs ys those i =
    elim (cases_lt i (length xs)) [
      | inl before ↦ subst (λ (n : ℕ). n < 256) (get_or_append_left xs ys 0 i before) (those i)
      | inr past ↦ subst (λ (n : ℕ). n < 256) (sym (get_or_past xs i 0 past)) (omega arith)
    ]

-- what is kept of a front and of what follows it
pub take_again : (n : ℕ) (xs ys : List ℕ) → take n (take n xs ++ ys) ≡ take n (xs ++ ys)
take_again n xs ys =
    elim (cases_lt n (length xs)) [
      | inl many ↦ full (omega arith)
      | inr few ↦ ap (λ (l : List ℕ). take n (l ++ ys)) (take_all n xs few)
    ]
  where
    full : n ≤ length xs → take n (take n xs ++ ys) ≡ take n (xs ++ ys)
    full le =
        let len = length-take-le n xs le in
        take_at (take n xs) ys n len ∙ sym (take-append-le n xs ys le)

awaits_more : (in_body : Bool) (left more : ℕ) (rest piece : List ℕ) → more + length piece ≡ left → Awaits in_body left rest → Awaits in_body more (rest ++ piece)
awaits_more false left more rest piece e awaits = omega (arith, e, awaits, length-append rest piece)
awaits_more true left more rest piece e awaits =
    let stays = length_stays rest piece awaits.0 in
    (omega (arith, awaits.0, length-append rest piece), omega (arith, awaits.1, stays), omega (arith, e, awaits.2, stays, length-append rest piece))

-- the next bytes of a message
pub coming_more : (limit left more : ℕ) (in_body : Bool) (front longer rest piece : List ℕ) → IsComing limit left in_body front rest → AreBytes piece → longer ≡ take limit (front ++ piece) → more + length piece ≡ left → IsComing limit more in_body longer (rest ++ piece)
coming_more limit left more in_body front longer rest piece coming bytes kept e = record {
  front_is = kept ∙ ap (λ (l : List ℕ). take limit (l ++ piece)) coming.front_is ∙ take_again limit rest piece;
  bytes = bytes_more rest piece coming.bytes bytes;
  awaits = awaits_more in_body left more rest piece e coming.awaits;
}

-- a message of which nothing is to come is whole
pub whole_body : (limit left : ℕ) (in_body : Bool) (front rest : List ℕ) → in_body ≡ true → left ≡ 0 → IsComing limit left in_body front rest → IsWhole limit front rest
whole_body limit left true front rest is none coming = record {
  front_is = coming.front_is;
  bytes = coming.bytes;
  head = coming.awaits.0;
  low = coming.awaits.1;
  measured = omega (arith, none, coming.awaits.2);
}
whole_body limit left false front rest is none coming = absurd (cc)

-- the frame of a whole message
pub frame_of : (limit : ℕ) (front rest : List ℕ) → IsWhole limit front rest → (f : Frame) × IsMessage f × (rest ≡ text f) × (f.kind ≡ get_or rest 0 0) × (f.body ≡ drop 5 rest)
frame_of limit front rest whole =
    let size = length_in rest - 4 in
    let f = front_frame rest size in
    let all = front_text rest size whole.bytes (omega (arith, whole.measured, whole.low)) (omega (arith, whole.low)) in
    let none : drop (5 + size) rest ≡ [] = drop_all (5 + size) rest (omega (arith, whole.measured, whole.low)) in
    let body : f.body ≡ drop 5 rest = take_all size (drop 5 rest) (omega (arith, whole.measured, whole.low, length-drop 5 rest)) in
    let small : length_in rest < 2 ^ 32 = number_below rest whole.bytes whole.head in (
      f,
      omega (arith, ap length body, length-drop 5 rest, whole.measured, whole.low, small),
      all ∙ ap (λ (xs : List ℕ). text f ++ xs) none ∙ append-nil (text f),
      refl,
      body,
    )
  where
    number_below : (xs : List ℕ) → AreBytes xs → 5 ≤ length xs → length_in xs < 2 ^ 32
    number_below [] small h = absurd (omega (arith, h))
    number_below (a ∷ []) small h = absurd (omega (arith, h))
    number_below (a ∷ b ∷ []) small h = absurd (omega (arith, h))
    number_below (a ∷ b ∷ c ∷ []) small h = absurd (omega (arith, h))
    number_below (a ∷ b ∷ c ∷ d ∷ []) small h = absurd (omega (arith, h))
    number_below (a ∷ b ∷ c ∷ d ∷ e ∷ rest) small h = omega (arith, small 1, small 2, small 3, small 4)

-- the first byte and the body, as far as they are kept
pub kind_kept : (limit : ℕ) (front rest : List ℕ) → 5 ≤ length front → front ≡ take limit rest → get_or front 0 0 ≡ get_or rest 0 0
kind_kept limit front rest five is =
    ap (λ (xs : List ℕ). get_or xs 0 0) is
    ∙ get_or-take limit rest 0 0 (omega (arith, five, ap length is, length-take limit rest))

pub body_kept : (limit more : ℕ) (front rest : List ℕ) → limit ≡ 5 + more → front ≡ take limit rest → drop 5 front ≡ take more (drop 5 rest)
body_kept limit more front rest e is =
    ap (drop 5) is ∙ ap (λ (n : ℕ). drop 5 (take n rest)) e ∙ drop-take 5 more rest
