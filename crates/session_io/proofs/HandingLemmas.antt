-- What is handed out of a reply, piece by piece.
use Rattle.std.proofs.Common.{◌≡◌, ◌⊎◌, inl, inr, ℕ, ◌+◌, ◌-◌, ◌<◌, ◌≤◌, Bool, true, false, ◌&&◌, if◌then◌else◌, ◌==◌, codes, List, [], ◌∷◌, ◌++◌, length, Option, Some, None, refl, sym, ap, ◌∙◌, subst, arith, take, drop, append_assoc, append-nil, length-append, take-append-drop}
use Rattle.std.proofs.lemmas.Bool.{eqb-true}
use Rattle.std.proofs.lemmas.List.{nil_from_length, length-take-le, take_at, drop_at}
use Rattle.std.proofs.lemmas.List.Concat.{flat_map-append}
use Rattle.pg_frames.specs.declared.frame.Frame.{Frame}
use Rattle.pg_frames.specs.declared.piece.Piece.{Piece}
use Rattle.pg_frames.specs.declared.piece.Piece.TheVariants.{Head, Part, Tail}
use Rattle.pg_frames.specs.FrameText.{text, texts}
use Rattle.pg_frames.specs.Passage.{Passage, IsHead, head_text, BeginsWith, Hands}
use Rattle.pg_frames.specs.declared.header.Header.{Header}
use Rattle.startup.specs.declared.error_code.ErrorCode.TheVariants.{FeatureNotSupported, ConnectionFailure}
use Rattle.client_state.specs.Acts.{ready_text, fatal, act_on_head, session_at, over}
use Rattle.client_state.specs.Session.{Session}
use Rattle.client_state.specs.Text.{is_one_of}
use Rattle.client_state.specs.LinkMessage.{link_message}
use Rattle.client_state.specs.declared.link_message.LinkMessage.{LinkMessage}
use Rattle.client_state.specs.declared.link_message.LinkMessage.TheVariants.{PassOn, Ready as ReadyHead, Refused as RefusedHead}
use Rattle.session_io.specs.declared.session.place.Place.{Place}
use Rattle.session_io.specs.declared.session.place.Place.TheVariants.{Between, Inside, AtReady, Status}
use Rattle.session_io.specs.declared.session.place.Handed.{Handed}
use Rattle.session_io.specs.declared.session.place.Handed.TheVariants.{More}
use Rattle.session_io.specs.Replying.{IsPassedOn}
use Rattle.session_io.specs.Progress.{asking, IsShown, HandedOut, HandedLast, HandedUnfit, HandsOut, KeepsSession, HeadMeans, PieceMeans, after_part, after_tail}
use Rattle.peer_forward.proofs.CallLemmas.{each-append}

none_some : (n : ℕ) → None ≡ Some n → ⊥
none_some n e = cc

some_some : (m n : ℕ) → Some m ≡ Some n → m ≡ n
some_some m n e = cc

-- of these choices one alone is a ReadyForQuery
ready_choice : (passes is_z five left_out : Bool) → (if passes then PassOn
    else (if is_z && five then ReadyHead
    else (if left_out then RefusedHead FeatureNotSupported
    else RefusedHead ConnectionFailure))) ≡ ReadyHead → (is_z ≡ true) × (five ≡ true)
ready_choice true is_z five left_out is = absurd (cc)
ready_choice false true true left_out is = (refl, refl)
ready_choice false true false true is = absurd (cc)
ready_choice false true false false is = absurd (cc)
ready_choice false false five true is = absurd (cc)
ready_choice false false five false is = absurd (cc)

pub ready_head : (kind size : ℕ) → link_message kind size ≡ ReadyHead → (kind ≡ 90) × (size ≡ 5)
unfolding link_message
ready_head kind size is =
    let both = ready_choice (is_one_of (codes "TDCIENS123nst") kind) (kind == 90) (size == 5)
    (is_one_of (codes "GHW") kind) is in
    (eqb-true kind 90 both.0, eqb-true size 5 both.1)

-- a frame's text and more
pub text_is : (kind : ℕ) (body : List ℕ) → text (record { kind = kind; body = body })
    ≡ head_text kind (4 + length body) ++ body
unfolding text
text_is kind body = refl

-- texts, and one more
pub texts-push : (frames : List Frame) (frame : Frame)
    → texts (frames ++ frame ∷ []) ≡ texts frames ++ text frame
texts-push frames frame = flat_map-append text frames (frame ∷ [])
    ∙ ap (λ xs. texts frames ++ xs) (append-nil (text frame))

-- at a place where no body's bytes are to come, no frame is begun
pub none_open : (limit : ℕ) (place : Place) (shown : List ℕ) → IsShown limit place None shown
    → (place ≡ Between) × (shown ≡ [])
none_open limit Between shown is = (refl, is.1)
none_open limit Inside shown is = absurd (none_some is.3 is.7)
none_open limit AtReady shown is = absurd (none_some 1 is.0)
none_open limit (Status status) shown is = absurd (none_some 0 is.0)

-- the head that was handed out between two frames
head_between : (limit : ℕ) (stream written : List ℕ) (old new : Passage) (kind size : ℕ)
    (m : LinkMessage)
    (handed : Handed) → HandedOut limit stream written Between old → IsHead limit kind size
    → old.bytes ≡ head_text kind size ++ new.bytes → new.left ≡ Some (size - 4)
    → new.passed ≡ old.passed ++ head_text kind size → new.limit ≡ old.limit
    → link_message kind size ≡ m
    → HeadMeans (act_on_head m 1) handed → HandsOut limit stream written handed new
head_between limit stream written old new kind size PassOn handed out head bytes_are left_is
    passed_is
    same means seen =
    let shown_is : IsShown limit Inside new.left (head_text kind size) = (
      kind,
      size,
      [],
      size - 4,
      head,
      means,
      sym (append-nil (head_text kind size)),
      left_is,
      omega (arith, head.low),
    ) in
    let here : HandedOut limit stream written Inside new =
    record {
      frames = out.frames;
      each = out.each;
      limit_is = same ∙ out.limit_is;
      shown = head_text kind size;
      is_shown = shown_is;
      stream_is = out.stream_is ∙ ap (λ xs. texts out.frames ++ (xs ++ old.bytes)) out.is_shown.1
          ∙ ap (λ xs. texts out.frames ++ xs) bytes_are;
      front = new.passed;
      passed_is = sym (append-nil new.passed);
      written_is = ap (λ xs. written ++ xs) passed_is
          ∙ sym (append_assoc written old.passed (head_text kind size))
          ∙ ap (λ xs. (written ++ xs) ++ head_text kind size)
          (out.passed_is ∙ append-nil out.front)
          ∙ ap (λ xs. xs ++ head_text kind size)
          (out.written_is ∙ ap (λ xs. texts out.frames ++ xs) out.is_shown.1
          ∙ append-nil (texts out.frames));
    } in
    subst (λ (h : Handed). HandsOut limit stream written h new) (sym seen) here
head_between limit stream written old new kind size ReadyHead handed out head bytes_are left_is
    passed_is
    same means seen =
    let is = ready_head kind size means in
    let text_same : head_text kind size ≡ head_text 90 5 =
    ap (λ k. head_text k size) is.0 ∙ ap (λ n. head_text 90 n) is.1 in
    let here : HandedOut limit stream written AtReady new =
    record {
      frames = out.frames;
      each = out.each;
      limit_is = same ∙ out.limit_is;
      shown = [];
      is_shown = (left_is ∙ ap (λ n. Some (n - 4)) is.1, refl, omega (arith, head.high, is.1));
      stream_is = out.stream_is ∙ ap (λ xs. texts out.frames ++ (xs ++ old.bytes)) out.is_shown.1
          ∙ ap (λ xs. texts out.frames ++ xs) bytes_are
          ∙ ap (λ xs. texts out.frames ++ (xs ++ new.bytes)) text_same;
      front = old.passed;
      passed_is = passed_is ∙ ap (λ xs. old.passed ++ xs) text_same;
      written_is = ap (λ xs. written ++ xs) (out.passed_is ∙ append-nil out.front)
          ∙ out.written_is ∙ ap (λ xs. texts out.frames ++ xs) out.is_shown.1;
    } in
    subst (λ (h : Handed). HandsOut limit stream written h new) (sym seen) here
head_between limit stream written old new kind size (RefusedHead code) handed out head bytes_are
    left_is
    passed_is same means seen =
    let here : (reply : List ℕ) → (reply ≡ fatal code) ⊎ (reply ≡ [])
    → HandedUnfit limit stream written reply new = λ reply error. record {
      frames = out.frames;
      each = out.each;
      kind = kind;
      size = size;
      head = head;
      code = code;
      means = means;
      error = error;
      stream_is = out.stream_is ∙ ap (λ xs. texts out.frames ++ (xs ++ old.bytes)) out.is_shown.1
          ∙ ap (λ xs. texts out.frames ++ xs) bytes_are;
      front = old.passed;
      passed_is = passed_is;
      written_is = ap (λ xs. written ++ xs) (out.passed_is ∙ append-nil out.front)
          ∙ out.written_is ∙ ap (λ xs. texts out.frames ++ xs) out.is_shown.1
          ∙ append-nil (texts out.frames);
    } in
    elim seen [
      | inl is ↦ subst (λ (h : Handed). HandsOut limit stream written h new) (sym is)
          (here (fatal code) (inl refl))
      | inr is ↦ subst (λ (h : Handed). HandsOut limit stream written h new) (sym is)
          (here [] (inr refl))
    ]

-- the head that was handed out
hands_head : (limit : ℕ) (stream written : List ℕ) (place : Place) (old new : Passage)
    (kind size : ℕ)
    (handed : Handed) → HandedOut limit stream written place old
    → Hands old (Some (Head kind size)) new
    → HeadMeans (act_on_head (link_message kind size) 1) handed
    → HandsOut limit stream written handed new
hands_head limit stream written place old new kind size handed out hands seen =
    let closed = none_open limit place out.shown
    (subst (λ (l : Option ℕ). IsShown limit place l out.shown) hands.0 out.is_shown) in
    head_between limit stream written old new kind size (link_message kind size) handed
    (subst (λ (p : Place). HandedOut limit stream written p old) closed.0 out)
    (subst
    (λ (n : ℕ). IsHead n kind size) out.limit_is hands.1) hands.2 hands.3 hands.4 hands.5 refl
    seen

-- a part of a body inside a frame that is passed on
part_inside : (limit : ℕ) (stream written : List ℕ) (old new : Passage) (part : List ℕ) (more : ℕ)
    → HandedOut limit stream written Inside old → old.left ≡ Some (length part + more)
    → old.bytes ≡ part ++ new.bytes → new.left ≡ Some more → new.passed ≡ old.passed ++ part
    → new.limit ≡ old.limit → HandedOut limit stream written Inside new
part_inside limit stream written old new part more out left_was bytes_are left_is passed_is same =
    let was = out.is_shown in
    let kind = was.0 in
    let size = was.1 in
    let body = was.2 in
    let count = some_some was.3 (length part + more) (sym was.7 ∙ left_was) in
    let shown_is : IsShown limit Inside new.left (out.shown ++ part) = (
      kind,
      size,
      body ++ part,
      more,
      was.4,
      was.5,
      ap (λ xs. xs ++ part) was.6 ∙ append_assoc (head_text kind size) body part,
      left_is,
      omega (arith, was.8, count, length-append body part),
    ) in
    record {
      frames = out.frames;
      each = out.each;
      limit_is = same ∙ out.limit_is;
      shown = out.shown ++ part;
      is_shown = shown_is;
      stream_is = out.stream_is
          ∙ ap (λ xs. texts out.frames ++ (out.shown ++ xs)) bytes_are
          ∙ ap (λ xs. texts out.frames ++ xs) (sym (append_assoc out.shown part new.bytes));
      front = new.passed;
      passed_is = sym (append-nil new.passed);
      written_is = ap (λ xs. written ++ xs) passed_is
          ∙ sym (append_assoc written old.passed part)
          ∙ ap (λ xs. (written ++ xs) ++ part) (out.passed_is ∙ append-nil out.front)
          ∙ ap (λ xs. xs ++ part) out.written_is
          ∙ append_assoc (texts out.frames) out.shown part;
    }

-- the status of a ReadyForQuery
part_at_ready : (limit : ℕ) (stream written : List ℕ) (old new : Passage) (part : List ℕ) (more : ℕ)
    → HandedOut limit stream written AtReady old → 0 < length part
    → old.left ≡ Some (length part + more) → old.bytes ≡ part ++ new.bytes
    → new.left ≡ Some more → new.passed ≡ old.passed ++ part → new.limit ≡ old.limit
    → HandedOut limit stream written (after_part AtReady part) new
part_at_ready limit stream written old new [] more out some left_was bytes_are left_is passed_is
    same =
    absurd (omega (arith, some))
part_at_ready limit stream written old new (status ∷ rest) more out some left_was bytes_are left_is
    passed_is same =
    let count = some_some 1 (length (status ∷ rest) + more) (sym out.is_shown.0 ∙ left_was) in
    let none : rest ≡ [] = nil_from_length rest (omega (arith, count)) in
    let last : more ≡ 0 = omega (arith, count) in
    record {
      frames = out.frames;
      each = out.each;
      limit_is = same ∙ out.limit_is;
      shown = [];
      is_shown = (left_is ∙ ap Some last, refl, out.is_shown.2);
      stream_is = out.stream_is
          ∙ ap (λ xs. texts out.frames ++ (xs ++ (head_text 90 5 ++ old.bytes))) out.is_shown.1
          ∙ ap (λ xs. texts out.frames ++ (head_text 90 5 ++ xs)) bytes_are
          ∙ ap (λ xs. texts out.frames ++ (head_text 90 5 ++ (status ∷ xs ++ new.bytes))) none;
      front = out.front;
      passed_is = passed_is ∙ ap (λ xs. xs ++ status ∷ rest) out.passed_is
          ∙ append_assoc out.front (head_text 90 5) (status ∷ rest)
          ∙ ap (λ xs. out.front ++ (head_text 90 5 ++ status ∷ xs)) none;
      written_is = out.written_is ∙ ap (λ xs. texts out.frames ++ xs) out.is_shown.1;
    }

-- the part that was handed out
hands_part : (limit : ℕ) (stream written : List ℕ) (place : Place) (old new : Passage)
    (part : List ℕ)
    (more : ℕ) → HandedOut limit stream written place old → 0 < length part
    → old.left ≡ Some (length part + more) → old.bytes ≡ part ++ new.bytes
    → new.left ≡ Some more → new.passed ≡ old.passed ++ part → new.limit ≡ old.limit
    → HandedOut limit stream written (after_part place part) new
hands_part limit stream written Between old new part more out some left_was bytes_are left_is
    passed_is same =
    absurd (none_some (length part + more) (sym out.is_shown.0 ∙ left_was))
hands_part limit stream written Inside old new part more out some left_was bytes_are left_is
    passed_is same =
    part_inside limit stream written old new part more out left_was bytes_are left_is passed_is same
hands_part limit stream written AtReady old new part more out some left_was bytes_are left_is
    passed_is same =
    part_at_ready limit stream written old new part more out some left_was bytes_are left_is
    passed_is same
hands_part limit stream written (Status status) old new part more out some left_was bytes_are
    left_is
    passed_is same =
    let count = some_some 0 (length part + more) (sym out.is_shown.0 ∙ left_was) in
    absurd (omega (arith, count, some))

-- the tail of a frame that is passed on
tail_inside : (limit : ℕ) (stream written : List ℕ) (old new : Passage)
    → HandedOut limit stream written Inside old
    → old.left ≡ Some 0 → new.left ≡ None → new.bytes ≡ old.bytes → new.passed ≡ old.passed
    → new.limit ≡ old.limit → HandedOut limit stream written Between new
tail_inside limit stream written old new out left_was left_is bytes_are passed_is same =
    let was = out.is_shown in
    let kind = was.0 in
    let size = was.1 in
    let body = was.2 in
    let count = some_some was.3 0 (sym was.7 ∙ left_was) in
    let sizes : size ≡ 4 + length body = omega (arith, was.8, count) in
    let frame : Frame = record { kind = kind; body = body } in
    let is : IsPassedOn limit frame = record {
      is_frame = record {
        type_byte = was.4.type_byte;
        size = omega (arith, sizes, was.4.high);
        fits = omega (arith, sizes, was.4.fits);
      };
      means = ap (λ n. link_message kind n) (sym sizes) ∙ was.5;
    } in
    let shown_is : out.shown ≡ text frame =
    was.6 ∙ ap (λ n. head_text kind n ++ body) sizes ∙ sym (text_is kind body) in
    let joined : texts out.frames ++ out.shown ≡ texts (out.frames ++ frame ∷ []) =
    ap (λ xs. texts out.frames ++ xs) shown_is ∙ sym (texts-push out.frames frame) in
    record {
      frames = out.frames ++ frame ∷ [];
      limit_is = same ∙ out.limit_is;
      each = each-append (IsPassedOn limit) out.frames (frame ∷ []) out.each (is, tt);
      shown = [];
      is_shown = (left_is, refl);
      stream_is = out.stream_is ∙ ap (λ xs. texts out.frames ++ (out.shown ++ xs)) (sym bytes_are)
          ∙ sym (append_assoc (texts out.frames) out.shown new.bytes)
          ∙ ap (λ xs. xs ++ new.bytes) joined;
      front = out.front;
      passed_is = passed_is ∙ out.passed_is;
      written_is = out.written_is ∙ joined ∙ sym (append-nil (texts (out.frames ++ frame ∷ [])));
    }

-- the tail of a ReadyForQuery
tail_at_status : (limit : ℕ) (stream written : List ℕ) (status : ℕ) (old new : Passage)
    → HandedOut limit stream written (Status status) old → new.left ≡ None → new.bytes ≡ old.bytes
    → new.passed ≡ old.passed → new.limit ≡ old.limit
    → HandedLast limit stream written (ready_text status) new
tail_at_status limit stream written status old new out left_is bytes_are passed_is same = record {
  frames = out.frames;
  each = out.each;
  limit_is = same ∙ out.limit_is;
  enough = out.is_shown.2;
  left = left_is;
  stream_is = out.stream_is
      ∙ ap (λ xs. texts out.frames ++ (xs ++ (ready_text status ++ old.bytes))) out.is_shown.1
      ∙ ap (λ xs. texts out.frames ++ (ready_text status ++ xs)) (sym bytes_are);
  front = out.front;
  passed_is = passed_is ∙ out.passed_is;
  written_is = out.written_is ∙ ap (λ xs. texts out.frames ++ xs) out.is_shown.1
      ∙ append-nil (texts out.frames);
}

-- the tail that was handed out
hands_tail : (limit : ℕ) (stream written : List ℕ) (place : Place) (old new : Passage)
    → HandedOut limit stream written place old → old.left ≡ Some 0 → new.left ≡ None
    → new.bytes ≡ old.bytes → new.passed ≡ old.passed → new.limit ≡ old.limit
    → HandsOut limit stream written (after_tail place) new
hands_tail limit stream written Between old new out left_was left_is bytes_are passed_is same =
    absurd (none_some 0 (sym out.is_shown.0 ∙ left_was))
hands_tail limit stream written Inside old new out left_was left_is bytes_are passed_is same =
    tail_inside limit stream written old new out left_was left_is bytes_are passed_is same
hands_tail limit stream written AtReady old new out left_was left_is bytes_are passed_is same =
    let count = some_some 1 0 (sym out.is_shown.0 ∙ left_was) in absurd (omega (arith, count))
hands_tail limit stream written (Status status) old new out left_was left_is bytes_are passed_is
    same =
    tail_at_status limit stream written status old new out left_is bytes_are passed_is same

-- a whole frame that is passed on
pub hands_whole : (limit : ℕ) (stream written : List ℕ) (place : Place) (old new : Passage)
    (head : Header)
    → HandedOut limit stream written place old → old.left ≡ None
    → BeginsWith old.limit old.bytes head
    → 1 + head.length ≤ length old.bytes → link_message head.kind head.length ≡ PassOn
    → new.passed ≡ old.passed ++ take (1 + head.length) old.bytes → new.left ≡ None
    → new.bytes ≡ drop (1 + head.length) old.bytes → new.limit ≡ old.limit
    → HandedOut limit stream written place new
hands_whole limit stream written place old new head out closed begins whole means passed_is left_is
    bytes_are same =
    let size = head.length - 4 in
    let front = head_text head.kind head.length in
    let more = drop 5 old.bytes in
    let body = take size more in
    let rest = drop size more in
    let count : 1 + head.length ≡ 5 + size = omega (arith, begins.head.low) in
    let enough : size ≤ length more =
    omega (arith, whole, begins.head.low, ap length begins.whole, length-append front more) in
    let long : length body ≡ size = length-take-le size more enough in
    let here = none_open limit place out.shown
    (subst (λ (l : Option ℕ). IsShown limit place l out.shown) closed out.is_shown) in
    let between = subst (λ (p : Place). HandedOut limit stream written p old) here.0 out in
    let begun : Passage = record {
      limit = old.limit;
      passed = old.passed ++ front;
      left = Some size;
      bytes = more;
    } in
    let filled : Passage = record {
      limit = old.limit;
      passed = begun.passed ++ body;
      left = Some 0;
      bytes = rest;
    } in
    let inside : HandedOut limit stream written Inside begun = head_between limit stream written
    old begun
    head.kind head.length PassOn (More Inside) between
    (subst
    (λ (n : ℕ). IsHead n head.kind head.length) out.limit_is begins.head) begins.whole refl refl
    refl means refl in
    let full : HandedOut limit stream written Inside filled = part_inside limit stream written
    begun filled body 0
    inside (ap Some (omega (arith, long))) (sym (take-append-drop size more)) refl refl refl in
    let all : old.bytes ≡ (front ++ body) ++ rest =
    begins.whole ∙ ap (λ xs. front ++ xs) (sym (take-append-drop size more))
    ∙ sym (append_assoc front body rest) in
    let fits : 1 + head.length ≡ length (front ++ body) =
    omega (arith, count, long, length-append front body) in
    let front_is : take (1 + head.length) old.bytes ≡ front ++ body =
    ap (λ xs. take (1 + head.length) xs) all
    ∙ take_at (front ++ body) rest (1 + head.length) (sym fits) in
    let rest_is : drop (1 + head.length) old.bytes ≡ rest =
    ap (λ xs. drop (1 + head.length) xs) all
    ∙ drop_at (front ++ body) rest (1 + head.length) (sym fits) in
    let passed : new.passed ≡ filled.passed =
    passed_is ∙ ap (λ xs. old.passed ++ xs) front_is ∙ sym (append_assoc old.passed front body) in
    let done = tail_inside limit stream written filled new full refl left_is (bytes_are
    ∙ rest_is) passed
    same in
    subst (λ (p : Place). HandedOut limit stream written p new) (sym here.0) done

-- the piece that was handed out
pub hands_piece : (limit : ℕ) (stream written : List ℕ) (place : Place) (old new : Passage)
    (piece : Piece)
    (handed : Handed) (session session' : Session) → session ≡ asking session.limit session.database
    → HandedOut limit stream written place old → Hands old (Some piece) new
    → PieceMeans place session piece handed session' → HandsOut limit stream written handed new
hands_piece limit stream written place old new (Head kind size) handed session session' is out
    hands seen =
    hands_head limit stream written place old new kind size handed out hands
    (subst (λ n. HeadMeans (act_on_head (link_message kind size) n) handed)
    (ap (λ s. s.outstanding) is) seen.0)
hands_piece limit stream written place old new (Part part) handed session session' is out hands
    seen =
    subst (λ (h : Handed). HandsOut limit stream written h new) (sym seen.0)
    (hands_part limit stream written place old new part.now hands.0 out hands.1 hands.2 hands.3
    hands.4
    hands.5 hands.6)
hands_piece limit stream written place old new Tail handed session session' is out hands seen =
    subst (λ (h : Handed). HandsOut limit stream written h new) (sym seen.0)
    (hands_tail limit stream written place old new out hands.0 hands.1 hands.2 hands.3 hands.4)

-- the session after the head of a frame
head_session : (m : LinkMessage) (handed : Handed) (session : Session)
    → HeadMeans (act_on_head m 1) handed
    → KeepsSession handed session (session_at (act_on_head m 1) session)
head_session PassOn handed session seen =
    subst (λ (h : Handed). KeepsSession h session session) (sym seen) refl
head_session ReadyHead handed session seen =
    subst (λ (h : Handed). KeepsSession h session session) (sym seen) refl
head_session (RefusedHead code) handed session seen = elim seen [
  | inl is ↦ subst (λ (h : Handed). KeepsSession h session (over session)) (sym is) tt
  | inr is ↦ subst (λ (h : Handed). KeepsSession h session (over session)) (sym is) tt
]

tail_session : (place : Place) (session : Session)
    → KeepsSession (after_tail place) session session
tail_session Between session = refl
tail_session Inside session = refl
tail_session AtReady session = refl
tail_session (Status status) session = refl

-- the session after a piece
pub piece_session : (place : Place) (piece : Piece) (handed : Handed) (session session' : Session)
    → session ≡ asking session.limit session.database
    → PieceMeans place session piece handed session'
    → KeepsSession handed session session'
piece_session place (Head kind size) handed session session' is seen =
    let outstanding : session.outstanding ≡ 1 = ap (λ s. s.outstanding) is in
    let seen_one = subst (λ n. HeadMeans (act_on_head (link_message kind size) n) handed)
    outstanding seen.0 in
    let new_is : session' ≡ session_at (act_on_head (link_message kind size) 1) session =
    seen.1 ∙ ap (λ n. session_at (act_on_head (link_message kind size) n) session) outstanding in
    subst (λ (s : Session). KeepsSession handed session s) (sym new_is)
    (head_session (link_message kind size) handed session seen_one)
piece_session place (Part part) handed session session' is seen =
    subst (λ (h : Handed). KeepsSession h session session') (sym seen.0) seen.1
piece_session place Tail handed session session' is seen =
    subst (λ (h : Handed). KeepsSession h session session') (sym seen.0)
    (subst (λ (s : Session). KeepsSession (after_tail place) session s) (sym seen.1)
    (tail_session place session))
