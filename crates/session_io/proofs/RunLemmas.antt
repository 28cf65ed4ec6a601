-- Whole frames at the front of a reply that are handed out at once, and the ReadyForQuery behind
-- them.
use Rattle.std.proofs.Common.{◌≡◌, ℕ, ◌+◌, ◌≤◌, List, [], ◌++◌, length, take, drop, Option, None, refl, sym, ap, ◌∙◌, subst, arith, append_assoc, append-nil, take-append-drop}
use Rattle.std.proofs.Math.Seq.{take-add}
use Rattle.std.proofs.lemmas.List.{drop-drop}
use Rattle.std.proofs.lemmas.List.Concat.{flat_map-append}
use Rattle.pg_frames.specs.declared.header.Header.{Header}
use Rattle.pg_frames.specs.FrameText.{text, texts}
use Rattle.pg_frames.specs.Passage.{Passage, BeginsWith}
use Rattle.client_state.specs.Acts.{ready_text}
use Rattle.client_state.specs.LinkMessage.{link_message}
use Rattle.client_state.specs.declared.link_message.LinkMessage.TheVariants.{PassOn}
use Rattle.session_io.specs.declared.session.place.Place.{Place}
use Rattle.session_io.specs.declared.session.place.Place.TheVariants.{Between}
use Rattle.session_io.specs.Replying.{IsPassedOn}
use Rattle.session_io.specs.Progress.{IsShown, ArePassedOn, HandedOut, HandedLast}
use Rattle.session_io.proofs.HandingLemmas.{hands_whole, none_open}
use Rattle.peer_forward.proofs.CallLemmas.{each-append}

-- this many bytes of a reply were found to be frames that are passed on
abbrev pub scanned : ℕ → List ℕ → ℕ → Passage
scanned limit bytes at = record {
  limit = limit;
  passed = take at bytes;
  left = None;
  bytes = drop at bytes;
}

pub scan_start : (limit : ℕ) (bytes : List ℕ)
    → HandedOut limit bytes [] Between (scanned limit bytes 0)
scan_start limit bytes = record {
  frames = [];
  each = tt;
  limit_is = refl;
  shown = [];
  is_shown = (refl, refl);
  stream_is = refl;
  front = [];
  passed_is = refl;
  written_is = refl;
}

-- one frame more
pub scan_more : (limit : ℕ) (bytes : List ℕ) (at : ℕ) (rest : List ℕ) (head : Header)
    → HandedOut limit bytes [] Between (scanned limit bytes at) → rest ≡ drop at bytes
    → BeginsWith limit rest head → 1 + head.length ≤ length rest
    → link_message head.kind head.length ≡ PassOn
    → HandedOut limit bytes [] Between (scanned limit bytes (at + (1 + head.length)))
scan_more limit bytes at rest head out rest_is begins whole means =
    hands_whole limit bytes [] Between (scanned limit bytes at)
    (scanned limit bytes (at + (1 + head.length))) head out refl
    (subst (λ xs. BeginsWith limit xs head) rest_is begins)
    (subst (λ (xs : List ℕ). 1 + head.length ≤ length xs) rest_is whole) means
    (take-add at (1 + head.length) bytes) refl
    (sym (drop-drop (1 + head.length) at bytes)) refl

-- the frames that were found
pub scan_end : (limit : ℕ) (bytes : List ℕ) (at : ℕ)
    → HandedOut limit bytes [] Between (scanned limit bytes at) → ArePassedOn limit (take at bytes)
scan_end limit bytes at out = (
  out.frames,
  out.each,
  out.passed_is ∙ append-nil out.front ∙ out.written_is
      ∙ ap (λ xs. texts out.frames ++ xs) out.is_shown.1 ∙ append-nil (texts out.frames),
)

-- a frame is passed on at the limit of a passage
each_at : (limit : ℕ) (passage : Passage) (bytes : List ℕ) → passage.limit ≡ limit
    → ArePassedOn passage.limit bytes → ArePassedOn limit bytes
each_at limit passage bytes is run = subst (λ (n : ℕ). ArePassedOn n bytes) is run

-- frames that were handed out at once, between two frames
run_between : (limit : ℕ) (stream written : List ℕ) (old new : Passage) (len : ℕ)
    → HandedOut limit stream written Between old → ArePassedOn limit (take len old.bytes)
    → new.passed ≡ old.passed ++ take len old.bytes → new.left ≡ None
    → new.bytes ≡ drop len old.bytes → new.limit ≡ old.limit
    → HandedOut limit stream written Between new
run_between limit stream written old new len out run passed_is left_is bytes_are same =
    let front = take len old.bytes in
    let all : texts (out.frames ++ run.0) ≡ texts out.frames ++ texts run.0 =
    flat_map-append text out.frames run.0 in
    let frames_are : written ++ old.passed ≡ texts out.frames =
    ap (λ xs. written ++ xs) (out.passed_is ∙ append-nil out.front) ∙ out.written_is
    ∙ ap (λ xs. texts out.frames ++ xs) out.is_shown.1 ∙ append-nil (texts out.frames) in
    record {
      frames = out.frames ++ run.0;
      each = each-append (IsPassedOn limit) out.frames run.0 out.each run.1;
      limit_is = same ∙ out.limit_is;
      shown = [];
      is_shown = (left_is, refl);
      stream_is = out.stream_is
          ∙ ap (λ xs. texts out.frames ++ (xs ++ old.bytes)) out.is_shown.1
          ∙ ap (λ xs. texts out.frames ++ xs) (sym (take-append-drop len old.bytes))
          ∙ ap (λ xs. texts out.frames ++ (xs ++ drop len old.bytes)) run.2
          ∙ sym (append_assoc (texts out.frames) (texts run.0) (drop len old.bytes))
          ∙ ap (λ xs. xs ++ drop len old.bytes) (sym all)
          ∙ ap (λ xs. texts (out.frames ++ run.0) ++ xs) (sym bytes_are);
      front = new.passed;
      passed_is = sym (append-nil new.passed);
      written_is = ap (λ xs. written ++ xs) passed_is
          ∙ sym (append_assoc written old.passed front)
          ∙ ap (λ xs. xs ++ front) frames_are
          ∙ ap (λ xs. texts out.frames ++ xs) run.2
          ∙ sym all ∙ sym (append-nil (texts (out.frames ++ run.0)));
    }

-- frames that were handed out at once
pub hands_run : (limit : ℕ) (stream written : List ℕ) (place : Place) (old new : Passage) (len : ℕ)
    → HandedOut limit stream written place old → old.left ≡ None
    → ArePassedOn old.limit (take len old.bytes)
    → new.passed ≡ old.passed ++ take len old.bytes → new.left ≡ None
    → new.bytes ≡ drop len old.bytes → new.limit ≡ old.limit
    → HandedOut limit stream written place new
hands_run limit stream written place old new len out closed run passed_is left_is bytes_are same =
    let here = none_open limit place out.shown
    (subst (λ (l : Option ℕ). IsShown limit place l out.shown) closed out.is_shown) in
    let between = subst (λ (p : Place). HandedOut limit stream written p old) here.0 out in
    subst (λ (p : Place). HandedOut limit stream written p new) (sym here.0)
    (run_between limit stream written old new len between
    (each_at limit old (take len old.bytes) out.limit_is run) passed_is left_is bytes_are same)

-- and the ReadyForQuery behind them
pub hands_ready : (limit : ℕ) (stream written : List ℕ) (place : Place) (old new : Passage)
    (len status : ℕ) (rest : List ℕ)
    → HandedOut limit stream written place old → old.left ≡ None → 6 ≤ old.limit
    → ArePassedOn old.limit (take len old.bytes) → rest ≡ drop len old.bytes
    → rest ≡ ready_text status ++ drop 6 rest
    → new.passed ≡ old.passed ++ take (len + 6) old.bytes → new.left ≡ None
    → new.bytes ≡ drop (len + 6) old.bytes → new.limit ≡ old.limit
    → HandedLast limit stream written (ready_text status) new
hands_ready limit stream written place old new len status rest out closed enough run rest_is ready
    passed_is left_is bytes_are same =
    let here = none_open limit place out.shown
    (subst (λ (l : Option ℕ). IsShown limit place l out.shown) closed out.is_shown) in
    let between = subst (λ (p : Place). HandedOut limit stream written p old) here.0 out in
    let front = take len old.bytes in
    let after : Passage = record {
      limit = old.limit;
      passed = old.passed ++ front;
      left = None;
      bytes = drop len old.bytes;
    } in
    let frames = run_between limit stream written old after len between
    (each_at limit old front out.limit_is run) refl refl refl refl in
    let text = ready_text status in
    let behind : drop len old.bytes ≡ text ++ drop 6 (drop len old.bytes) =
    subst (λ (xs : List ℕ). xs ≡ text ++ drop 6 xs) rest_is ready in
    let text_is : take 6 (drop len old.bytes) ≡ text =
    ap (λ xs. take 6 xs) behind in
    let both : take (len + 6) old.bytes ≡ front ++ text =
    take-add len 6 old.bytes ∙ ap (λ xs. front ++ xs) text_is in
    let bytes_is : new.bytes ≡ drop 6 (drop len old.bytes) =
    bytes_are ∙ sym (drop-drop 6 len old.bytes) in
    record {
      frames = frames.frames;
      each = frames.each;
      limit_is = same ∙ out.limit_is;
      enough = omega (arith, enough, out.limit_is);
      left = left_is;
      stream_is = frames.stream_is
          ∙ ap (λ xs. texts frames.frames ++ (xs ++ drop len old.bytes)) frames.is_shown.1
          ∙ ap (λ xs. texts frames.frames ++ xs) behind
          ∙ ap (λ xs. texts frames.frames ++ (text ++ xs)) (sym bytes_is);
      front = old.passed ++ front;
      passed_is = passed_is ∙ ap (λ xs. old.passed ++ xs) both
          ∙ sym (append_assoc old.passed front text);
      written_is = ap (λ xs. written ++ xs)
          (frames.passed_is ∙ append-nil frames.front) ∙ frames.written_is
          ∙ ap (λ xs. texts frames.frames ++ xs) frames.is_shown.1
          ∙ append-nil (texts frames.frames);
    }
