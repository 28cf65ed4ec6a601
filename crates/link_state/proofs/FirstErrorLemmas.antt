-- The message at the front of bytes, and the first error among several.
use Rattle.std.proofs.Common.{◌≡◌, ◌≢◌, ℕ, ◌+◌, ◌<◌, ◌≤◌, ◌↔◌, List, [], ◌∷◌, ◌++◌, length, take, drop, get_or, refl, sym, ap, ◌∙◌, subst, arith, append_assoc, take-append-drop}
use Rattle.std.specs.List.{AllByRecursion}
use Rattle.std.proofs.lemmas.List.{length-take-le, get_or_append_left}
use Rattle.pg_frames.specs.declared.frame.Frame.{Frame}
use Rattle.pg_frames.specs.FrameText.{text, texts}
use Rattle.link_state.specs.HeadLength.{length_in, AreBytes}
use Rattle.link_state.specs.Watch.{IsMessage, BeginsNoMessage}
use Rattle.link_state.specs.FirstError.{IsFirstError, StandsFirst}
use Rattle.link_state.proofs.MessageLemmas.{same_front, length_stays, bytes_left, frame_of}

-- the message that is cut off by its length field
pub front_message : (bytes message after : List ℕ) (kind number : ℕ) → AreBytes bytes
    → 5 ≤ length bytes → number ≡ length_in bytes → 4 ≤ number → number < length bytes
    → message ≡ take (1 + number) bytes → after ≡ drop (1 + number) bytes
    → kind ≡ get_or bytes 0 0 → StandsFirst bytes kind message after
front_message bytes message after kind number are five is low within message_is after_is kind_is =
    let both : message ++ after ≡ bytes =
    ap (λ xs. xs ++ after) message_is ∙ ap (λ xs. take (1 + number) bytes ++ xs) after_is
    ∙ take-append-drop (1 + number) bytes in
    let len : length message ≡ 1 + number =
    ap length message_is ∙ length-take-le (1 + number) bytes (omega (arith, within)) in
    let head : 5 ≤ length message = omega (arith, len, low) in
    let same : length_in message ≡ number =
    sym (length_stays message after head) ∙ ap length_in both ∙ sym is in
    let first : get_or message 0 0 ≡ get_or bytes 0 0 =
    sym (get_or_append_left message after 0 0 (omega (arith, head)))
    ∙ ap (λ xs. get_or xs 0 0) both in
    let found = frame_of (length message) (take (length message) message) message (record {
      front_is = refl;
      bytes = bytes_left message after (subst AreBytes (sym both) are);
      head = head;
      low = omega (arith, low, same);
      measured = omega (arith, len, same);
    }) in
    record {
      frame = found.0;
      is_message = found.1;
      kind_is = found.3 ∙ first ∙ sym kind_is;
      message_is = found.2;
      whole = sym both;
    }

-- a message of another type stands before the first error
pub passes : (bytes message after : List ℕ) (kind : ℕ) → StandsFirst bytes kind message after
    → (kind ≡ 69 → ⊥) → (error : List ℕ) → IsFirstError after error ↔ IsFirstError bytes error
passes bytes message after kind stands differs error = (into, out)
  where
    spelled : bytes ≡ text stands.frame ++ after
    spelled = stands.whole ∙ ap (λ xs. xs ++ after) stands.message_is

    into : IsFirstError after error → IsFirstError bytes error
    into is = record {
      before = stands.frame ∷ is.before;
      frame = is.frame;
      after = is.after;
      each = (stands.is_message, is.each);
      others = (λ e. differs (sym stands.kind_is ∙ e), is.others);
      is_message = is.is_message;
      kind_is = is.kind_is;
      error_is = is.error_is;
      whole = spelled ∙ ap (λ xs. text stands.frame ++ xs) is.whole
          ∙ sym (append_assoc (text stands.frame) (texts is.before) (error ++ is.after));
    }

    behind : (before : List Frame) (frame : Frame) (rest : List ℕ)
        → AllByRecursion IsMessage before
        → AllByRecursion (λ other. other.kind ≢ 69) before → IsMessage frame
        → frame.kind ≡ 69 → error ≡ text frame → bytes ≡ texts before ++ (error ++ rest)
        → IsFirstError after error
    behind [] frame rest each others is_message kind_is error_is whole =
        let front = same_front stands.frame frame after rest stands.is_message is_message
        (sym spelled ∙ whole ∙ ap (λ xs. xs ++ rest) error_is) in
        absurd (differs (sym stands.kind_is ∙ ap (λ f. f.kind) front.0 ∙ kind_is))
    behind (f ∷ fs) frame rest each others is_message kind_is error_is whole =
        let front = same_front stands.frame f after (texts fs ++ (error ++ rest))
        stands.is_message each.0
        (sym spelled ∙ whole ∙ append_assoc (text f) (texts fs) (error ++ rest)) in
        record {
          before = fs;
          frame = frame;
          after = rest;
          each = each.1;
          others = others.1;
          is_message = is_message;
          kind_is = kind_is;
          error_is = error_is;
          whole = front.1;
        }

    out : IsFirstError bytes error → IsFirstError after error
    out is = behind is.before is.frame is.after is.each is.others is.is_message is.kind_is
        is.error_is is.whole

-- the first message of all is the first error
pub is_first : (bytes message after : List ℕ) (kind : ℕ) → kind ≡ 69
    → StandsFirst bytes kind message after → IsFirstError bytes message
is_first bytes message after kind is stands = record {
  before = [];
  frame = stands.frame;
  after = after;
  each = tt;
  others = tt;
  is_message = stands.is_message;
  kind_is = stands.kind_is ∙ is;
  error_is = stands.message_is;
  whole = stands.whole;
}

-- bytes that begin with no message hold no error
pub holds_none : (bytes : List ℕ) → BeginsNoMessage bytes → (error : List ℕ)
    → IsFirstError bytes error → ⊥
holds_none bytes none error is = begun is.before is.each is.whole
  where
    begun : (before : List Frame) → AllByRecursion IsMessage before
        → bytes ≡ texts before ++ (error ++ is.after) → ⊥
    begun [] each whole =
        none is.frame is.after is.is_message (whole ∙ ap (λ xs. xs ++ is.after) is.error_is)
    begun (f ∷ fs) each whole =
        none f (texts fs ++ (error ++ is.after)) each.0
        (whole ∙ append_assoc (text f) (texts fs) (error ++ is.after))
