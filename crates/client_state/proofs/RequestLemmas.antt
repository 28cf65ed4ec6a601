-- A request, by its text.
use Rattle.std.proofs.Common.{◌≡◌, ◌∙◌, ◌+◌, ◌-◌, ◌≤◌, ℕ, true, List, [], ◌∷◌, ◌++◌, length, take, drop, refl, sym, ap, subst, arith, nat_le, append_assoc, append-nil, length-drop, take-append-drop}
use Rattle.std.proofs.lemmas.Bool.Decides.{nat_tests}
use Rattle.std.proofs.lemmas.List.{drop-take, length-take-le}
use Rattle.std.proofs.Math.Seq.{take-add, take-length}
use Rattle.pg_frames.specs.declared.frame.Frame.{Frame}
use Rattle.pg_frames.specs.declared.header.Header.{Header}
use Rattle.pg_frames.specs.FrameText.{text, texts, IsFrame}
use Rattle.pg_frames.specs.Passage.{BeginsWith, head_text}
use Rattle.pg_frames.proofs.CutLemmas.{texts-append}
use Rattle.client_state.specs.Text.{is_one_string}
use Rattle.client_state.specs.declared.client_message.ClientMessage.TheVariants.{Request, Gathered}
use Rattle.client_state.specs.ClientMessage.{client_message}
use Rattle.client_state.specs.Request.{AreGathered, IsRequest}
use Rattle.client_state.proofs.MessageLemmas.{part_fits}

-- the text of a frame
text_is : (kind : ℕ) (body : List ℕ)
    → text (record { kind = kind; body = body }) ≡ head_text kind (4 + length body) ++ body
unfolding text
text_is kind body = refl

-- a Query of one string is a request
asks : (limit : ℕ) (body : List ℕ) → 4 + length body ≤ limit → is_one_string body ≡ true
    → client_message limit 0 (record { kind = 81; body = body }) ≡ Request
unfolding client_message
asks limit body size one =
    let fits : nat_le (4 + length body) limit ≡ true = grind (arith, nat_tests, size) in
    rw (fits, one) refl

pub query_is : (limit : ℕ) (bytes : List ℕ) (head : Header) → BeginsWith limit bytes head
    → head.kind ≡ 81 → head.length + 1 ≡ length bytes → is_one_string (drop 5 bytes) ≡ true
    → IsRequest limit bytes
query_is limit bytes head begins kind_is whole one =
    let body = drop 5 bytes in
    let count : 4 + length body ≡ head.length =
    omega (arith, whole, begins.head.low, length-drop 5 bytes) in
    let frame : Frame = record { kind = 81; body = body } in (
      [],
      frame,
      record {
        gathered = tt;
        is_frame = record {
          type_byte = refl;
          size = omega (arith, count, begins.head.high);
          fits = omega (arith, count, begins.head.fits);
        };
        means = asks limit body (omega (arith, count, begins.head.high)) one;
      },
      begins.whole ∙ ap (λ k. head_text k head.length ++ body) kind_is
          ∙ ap (λ n. head_text 81 n ++ body) (sym count) ∙ sym (text_is 81 body),
    )

-- gathered messages, and more
pub gathered-append : (limit : ℕ) (before : List ℕ) (xs ys : List Frame)
    → AreGathered limit before xs → AreGathered limit (before ++ texts xs) ys
    → AreGathered limit before (xs ++ ys)
gathered-append limit before [] ys first more =
    subst (λ b. AreGathered limit b ys) (append-nil before) more
gathered-append limit before (x ∷ xs) ys first more = (
  first.0,
  first.1,
  gathered-append limit (before ++ text x) xs ys first.2
      (subst (λ b. AreGathered limit b ys) (sym (append_assoc before (text x) (texts xs))) more),
)

-- the frame with this head, with which bytes begin
abbrev pub frame_of : Header → List ℕ → Frame
frame_of head bytes = record { kind = head.kind; body = drop 5 (take (1 + head.length) bytes) }

-- it is of the format, and its text is as long as its head says
pub record Begins (limit : ℕ) (head : Header) (bytes : List ℕ) : Type 0 where
  pub is_frame : IsFrame limit (frame_of head bytes)
  pub text_is : take (1 + head.length) bytes ≡ text (frame_of head bytes)
  pub size : length (frame_of head bytes).body + 4 ≡ head.length

begins_is : (limit : ℕ) (bytes : List ℕ) (head : Header) → BeginsWith limit bytes head
    → 1 + head.length ≤ length bytes → Begins limit head bytes
begins_is limit bytes head begins whole =
    let rest = head.length - 4 in
    let count : 5 + rest ≡ 1 + head.length = omega (arith, begins.head.low) in
    let body : drop 5 (take (1 + head.length) bytes) ≡ take rest (drop 5 bytes) =
    ap (λ n. drop 5 (take n bytes)) (sym count) ∙ drop-take 5 rest bytes in
    let all : length (take (1 + head.length) bytes) ≡ 1 + head.length =
    length-take-le (1 + head.length) bytes whole in
    let size : length (drop 5 (take (1 + head.length) bytes)) + 4 ≡ head.length =
    omega (arith, all, begins.head.low, length-drop 5 (take (1 + head.length) bytes)) in
    let long : 4 + length (drop 5 (take (1 + head.length) bytes)) ≡ head.length =
    omega (arith, size) in record {
      is_frame = record {
        type_byte = begins.head.type_byte;
        size = omega (arith, long, begins.head.high);
        fits = omega (arith, long, begins.head.fits);
      };
      text_is = ap (λ n. take n bytes) (sym count) ∙ take-add 5 rest bytes
          ∙ ap (λ xs. take 5 xs ++ take rest (drop 5 bytes)) begins.whole
          ∙ ap (λ xs. head_text head.kind head.length ++ xs) (sym body)
          ∙ ap (λ n. head_text head.kind n ++ drop 5 (take (1 + head.length) bytes)) (sym long)
          ∙ sym (text_is head.kind (drop 5 (take (1 + head.length) bytes)));
      size = size;
    }

-- the first bytes, this many, are messages that are gathered
pub record SoFar (limit : ℕ) (bytes : List ℕ) (at : ℕ) : Type 0 where
  pub parts : List Frame
  pub gathered : AreGathered limit [] parts
  pub text_is : take at bytes ≡ texts parts
  pub within : at ≤ length bytes
  pub fits : at ≤ limit

pub so_far_nothing : (limit : ℕ) (bytes : List ℕ) → SoFar limit bytes 0
so_far_nothing limit bytes = record {
  parts = [];
  gathered = tt;
  text_is = refl;
  within = omega arith;
  fits = omega arith;
}

-- how long their texts are
count_is : (limit : ℕ) (bytes : List ℕ) (at : ℕ) (so_far : SoFar limit bytes at)
    → at ≡ length (texts so_far.parts)
count_is limit bytes at so_far =
    sym (length-take-le at bytes so_far.within) ∙ ap length so_far.text_is

-- one more
more : (limit : ℕ) (bytes : List ℕ) (at : ℕ) (head : Header) → SoFar limit bytes at
    → BeginsWith limit (drop at bytes) head → 1 + head.length ≤ length (drop at bytes)
    → client_message limit at (frame_of head (drop at bytes)) ≡ Gathered
    → SoFar limit bytes (at + (1 + head.length))
more limit bytes at head so_far begins whole means =
    let rest = drop at bytes in
    let frame = frame_of head rest in
    let first = begins_is limit rest head begins whole in
    let here = subst (λ (n : ℕ). client_message limit n frame ≡ Gathered)
    (count_is limit bytes at so_far) means in
    let fits : at + (5 + length frame.body) ≤ limit = part_fits limit at frame means in
    let one : texts (frame ∷ []) ≡ text frame = append-nil (text frame) in record {
      parts = so_far.parts ++ frame ∷ [];
      gathered = gathered-append limit [] so_far.parts (frame ∷ []) so_far.gathered
          (first.is_frame, here, tt);
      text_is = take-add at (1 + head.length) bytes
          ∙ ap (λ xs. xs ++ take (1 + head.length) rest) so_far.text_is
          ∙ ap (λ xs. texts so_far.parts ++ xs) (first.text_is ∙ sym one)
          ∙ sym (texts-append so_far.parts (frame ∷ []));
      within = omega (arith, whole, so_far.within, length-drop at bytes);
      fits = omega (arith, fits, first.size);
    }

-- the last, with which the request is whole
last : (limit : ℕ) (bytes : List ℕ) (at : ℕ) (head : Header) → SoFar limit bytes at
    → BeginsWith limit (drop at bytes) head → 1 + head.length ≡ length (drop at bytes)
    → client_message limit at (frame_of head (drop at bytes)) ≡ Request → IsRequest limit bytes
last limit bytes at head so_far begins whole means =
    let rest = drop at bytes in
    let frame = frame_of head rest in
    let first = begins_is limit rest head begins (omega (arith, whole)) in
    let here = subst (λ (n : ℕ). client_message limit n frame ≡ Request)
    (count_is limit bytes at so_far) means in
    let all : take (1 + head.length) rest ≡ rest =
    ap (λ n. take n rest) whole ∙ take-length rest in (
      so_far.parts,
      frame,
      record { gathered = so_far.gathered; is_frame = first.is_frame; means = here },
      sym (take-append-drop at bytes) ∙ ap (λ xs. xs ++ rest) so_far.text_is
          ∙ ap (λ xs. texts so_far.parts ++ xs) (sym all ∙ first.text_is),
    )

-- the same where the rest has a name
pub so_far_more : (limit : ℕ) (bytes : List ℕ) (at : ℕ) (head : Header) (rest : List ℕ)
    → SoFar limit bytes at → rest ≡ drop at bytes → BeginsWith limit rest head
    → 1 + head.length ≤ length rest → client_message limit at (frame_of head rest) ≡ Gathered
    → SoFar limit bytes (at + (1 + head.length))
so_far_more limit bytes at head rest so_far rest_is =
    subst (λ (xs : List ℕ). BeginsWith limit xs head → 1 + head.length ≤ length xs
    → client_message limit at (frame_of head xs) ≡ Gathered
    → SoFar limit bytes (at + (1 + head.length))) (sym rest_is) (more limit bytes at head so_far)

pub group_is : (limit : ℕ) (bytes : List ℕ) (at : ℕ) (head : Header) (rest : List ℕ)
    → SoFar limit bytes at → rest ≡ drop at bytes → BeginsWith limit rest head
    → 1 + head.length ≡ length rest → client_message limit at (frame_of head rest) ≡ Request
    → IsRequest limit bytes
group_is limit bytes at head rest so_far rest_is =
    subst (λ (xs : List ℕ). BeginsWith limit xs head → 1 + head.length ≡ length xs
    → client_message limit at (frame_of head xs) ≡ Request → IsRequest limit bytes)
    (sym rest_is) (last limit bytes at head so_far)
