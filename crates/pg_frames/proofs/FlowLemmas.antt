-- Frames that are handed out in pieces: heads, and what is kept, step by step.
use Rattle.std.proofs.Common.{◌≡◌, ℕ, ◌+◌, ◌-◌, ◌<◌, ◌==◌, true, false, IsTrue, is_some, List, [], ◌∷◌, ◌++◌, length, take, drop, map, Option, Some, None, inl, inr, refl, sym, ap, ◌∙◌, subst, arith, unwrap_or, append_assoc, append-nil, length-append, take-append-drop}
use Rattle.std.proofs.lemmas.List.{nil_from_length, drop_all, drop-append-le, length-take-le, map-append}
use Rattle.std.proofs.lemmas.List.Concat.{flat_map-append}
use Rattle.std.proofs.lemmas.Bool.{cases_lt, false≢true, eqb-true}
use Rattle.std.specs.List.{AllByRecursion, flat_map}
use Rattle.byteorder.specs.Endian.{big_number}
use Rattle.pg_frames.specs.declared.frame.Frame.{Frame}
use Rattle.pg_frames.specs.declared.error.FrameError.{FrameError}
use Rattle.pg_frames.specs.declared.piece.Piece.{Piece}
use Rattle.pg_frames.specs.declared.piece.Piece.TheVariants as lent
use Rattle.pg_frames.specs.declared.parts.OwnedPiece.{OwnedPiece}
use Rattle.pg_frames.specs.declared.parts.OwnedPiece.TheVariants.{Head, Part, Tail}
use Rattle.pg_frames.specs.FrameText.{text, texts, IsFrame, BeginsNoFrame, Cuts, fault_at, HasFault}
use Rattle.std.specs.Result.{result_err}
use Rattle.pg_frames.specs.Passage.{Passage, after, fed, start, answer_of, IsHead, head_text, BeginsNoHead, BeginsWith, HasNoNext, Hands}
use Rattle.pg_frames.specs.declared.header.Header.{Header}
use Rattle.pg_frames.specs.Parts.{owned_of, ArePartsOf, AreWhole, AreOfRest, HandsOut, IsOpen, SoFar, Drained}
use Rattle.pg_frames.proofs.TextLemmas.{IsBytes, fault_at_header, is_no_type, is_short, is_low, is_high, is_good, front_is, fault_at_type, fault_at_low, fault_at_high, no_frame-part, no_frame-short, text_is, head_front}
use Rattle.pg_frames.proofs.CutLemmas.{texts-append, each-append, cuts_after, cuts_none, cuts_once, fault_once, fault_at-more, cuts-fault, fault_at_nothing, some_fault}

-- what stands in the length field of a head
pub head_number : (limit : ℕ) (kind size : ℕ) (more : List ℕ) → IsHead limit kind size
    → big_number 4 (drop 1 (head_text kind size ++ more)) ≡ size
head_number limit kind size more is = omega (arith, is.fits)

-- no fault stands at a head of the format
pub head_fault : (limit : ℕ) (kind size : ℕ) (more : List ℕ) → IsHead limit kind size
    → fault_at limit (head_text kind size ++ more) ≡ None
head_fault limit kind size more is =
    fault_at_header limit kind _ is.type_byte (omega arith) (omega (arith, is.low, is.fits))
    (omega (arith, is.high, is.fits))

-- where a fault stands, no head does
pub no_head-fault : (limit : ℕ) (bytes : List ℕ) (fault : FrameError) → fault_at limit bytes ≡ Some fault
    → BeginsNoHead limit bytes
no_head-fault limit bytes fault stands kind size more is e =
    some_fault fault (sym (ap (fault_at limit) e ∙ head_fault limit kind size more is) ∙ stands)

-- nor in fewer bytes than it takes
pub no_head-short : (limit : ℕ) (bytes : List ℕ) → length bytes < 5 → BeginsNoHead limit bytes
no_head-short limit bytes short kind size more is e = omega (arith, ap length e)

frame_head : (limit : ℕ) (f : Frame) → IsFrame limit f → IsHead limit f.kind (4 + length f.body)
frame_head limit f is = record { type_byte = is.type_byte; low = omega arith; high = is.size; fits = is.fits }

-- where no head stands, no frame does
pub no_frame-no_head : (limit : ℕ) (bytes : List ℕ) → BeginsNoHead limit bytes → BeginsNoFrame limit bytes
no_frame-no_head limit bytes none f more is e =
    none f.kind (4 + length f.body) (f.body ++ more) (frame_head limit f is) (e ∙ text_is f more)

-- nor where its body isn't whole
pub no_frame-begun : (limit : ℕ) (bytes : List ℕ) (header : Header) → BeginsWith limit bytes header
    → length bytes < 1 + header.length → BeginsNoFrame limit bytes
no_frame-begun limit bytes header begins few =
    let number : big_number 4 (drop 1 bytes) ≡ header.length =
    ap (λ xs. big_number 4 (drop 1 xs)) begins.whole
    ∙ head_number limit header.kind header.length (drop 5 bytes) begins.head in
    no_frame-part limit bytes (omega (arith, few, number))

-- where no head and no fault stands, few bytes do
pub few_left : (limit : ℕ) (bytes : List ℕ) → IsBytes bytes → BeginsNoHead limit bytes → fault_at limit bytes ≡ None
    → length bytes < 5
few_left limit [] small none stands = omega arith
few_left limit (kind ∷ more) small none stands =
    elim (front_is limit kind more) [
      | is_no_type is ↦ absurd (some_fault _ (sym stands ∙ fault_at_type limit kind more is))
      | is_short is few ↦ omega arith
      | is_low is whole few ↦ absurd
          (some_fault _ (sym stands ∙ fault_at_low limit kind more is whole few))
      | is_high is whole enough many ↦ absurd
          (some_fault _ (sym stands ∙ fault_at_high limit kind more is whole enough many))
      | is_good is whole enough fits ↦ absurd
          (none kind (big_number 4 more) _ (record { type_byte = is; low = enough; high = fits; fits = omega (arith, small 1, small 2, small 3, small 4) })
          (head_front (kind ∷ more) _ small (omega arith) refl))
    ]

-- the fault of a stream that begins with no frame
pub fault_here : (limit : ℕ) (stream : List ℕ) (fault : Option FrameError) → BeginsNoFrame limit stream
    → HasFault limit stream fault → fault ≡ fault_at limit stream
fault_here limit stream fault none has =
    fault_once limit stream fault (fault_at limit stream) has
    (record { frames = []; rest = stream; cuts = cuts_none limit stream none; stands = refl })

pub has_none : (limit : ℕ) → HasFault limit [] None
has_none limit =
    record {
      frames = [];
      rest = [];
      cuts = cuts_none limit [] (no_frame-short limit [] (omega arith));
      stands = fault_at_nothing limit;
    }

-- a fault that stands is found again, whatever is fed
pub fault_stays : (limit : ℕ) (passage : Passage) (piece : List ℕ) (fault : FrameError)
    → HasFault limit (after passage) (Some fault) → HasFault limit (after (fed passage piece)) (Some fault)
fault_stays limit passage piece fault has =
    let body = unwrap_or passage.left 0 in
    elim (cases_lt (length passage.bytes) body) [
      | inl beyond ↦
          let none : drop body passage.bytes ≡ [] = drop_all body passage.bytes (omega arith) in
          absurd (some_fault fault (fault_once limit [] None (Some fault) (has_none limit)
          (subst (λ (xs : List ℕ). HasFault limit xs (Some fault)) none has)))
      | inr within ↦
          let more : HasFault limit (after passage ++ piece) (Some fault) = record {
            frames = has.frames;
            rest = has.rest ++ piece;
            cuts = cuts-fault limit (after passage) piece has.frames has.rest fault has.cuts has.stands;
            stands = fault_at-more limit has.rest piece fault has.stands;
          } in
          subst (λ (xs : List ℕ). HasFault limit xs (Some fault))
          (sym (drop-append-le body passage.bytes piece within)) more
    ]

-- where nothing can be handed out and no fault stands, few bytes are kept
pub few_kept : (limit : ℕ) (left : Option ℕ) (bytes : List ℕ) → IsBytes bytes → HasNoNext limit left bytes
    → HasFault limit (drop (unwrap_or left 0) bytes) None → length bytes < 5
few_kept limit None bytes small none has =
    few_left limit bytes small none (sym (fault_here limit bytes None (no_frame-no_head limit bytes none) has))
few_kept limit (Some left) bytes small none has = omega (arith, ap length none.1)

-- the pieces of whole frames, one list after another
AreWhole-append : (fs gs : List Frame) (a b : List OwnedPiece) → AreWhole fs a → AreWhole gs b
    → AreWhole (fs ++ gs) (a ++ b)
AreWhole-append [] gs a b p q = subst (AreWhole gs) (ap (λ xs. xs ++ b) (sym p)) q
AreWhole-append (f ∷ fs) gs a b p q =
    let parts = map Part p.0 in (
      p.0,
      p.1 ++ b,
      p.2,
      ap (λ xs. xs ++ b) p.3
          ∙ ap (λ xs. Head f.kind (4 + length f.body) ∷ xs) (append_assoc parts (Tail ∷ p.1) b),
      AreWhole-append fs gs p.1 b p.4 q,
    )

-- the same whole frames were handed out, and this of the next
so_far_on : (limit : ℕ) (stream stream' : List ℕ) (pieces pieces' begun : List OwnedPiece) (opened : List ℕ)
    (old new : Passage) (so_far : SoFar limit stream pieces old) → new.limit ≡ old.limit → IsOpen limit new.left opened begun
    → stream' ≡ texts so_far.frames ++ (opened ++ new.bytes) → pieces' ≡ so_far.whole ++ begun
    → SoFar limit stream' pieces' new
so_far_on limit stream stream' pieces pieces' begun opened old new so_far same is_open stream_is all = record {
  limit_is = same ∙ so_far.limit_is;
  frames = so_far.frames;
  whole = so_far.whole;
  opened = opened;
  begun = begun;
  each = so_far.each;
  are_whole = so_far.are_whole;
  is_open = is_open;
  stream_is = stream_is;
  all = all;
}

-- the head that is handed out
so_far_head : (limit : ℕ) (stream : List ℕ) (pieces : List OwnedPiece) (old new : Passage) (kind size : ℕ)
    → SoFar limit stream pieces old → Hands old (Some (lent.Head kind size)) new
    → SoFar limit stream (pieces ++ Head kind size ∷ []) new
so_far_head limit stream pieces old new kind size so_far hands =
    let closed : (so_far.opened ≡ []) × (so_far.begun ≡ []) =
    subst (λ (l : Option ℕ). IsOpen limit l so_far.opened so_far.begun) hands.0 so_far.is_open in
    let opened : IsOpen limit (Some (size - 4)) (head_text kind size) (Head kind size ∷ []) = (
      kind,
      size,
      [],
      refl,
      record {
        head = subst (λ (n : ℕ). IsHead n kind size) so_far.limit_is hands.1;
        parts = [];
        are_parts = record { each = tt; whole = refl };
        pieces_are = refl;
      },
      omega (arith, hands.1.low),
    ) in
    so_far_on limit stream stream pieces _ (Head kind size ∷ []) (head_text kind size) old new so_far hands.5
    (subst (λ (l : Option ℕ). IsOpen limit l (head_text kind size) (Head kind size ∷ [])) (sym hands.3)
    opened)
    (so_far.stream_is ∙ ap (λ xs. texts so_far.frames ++ (xs ++ old.bytes)) closed.0
    ∙ ap (λ xs. texts so_far.frames ++ xs) hands.2)
    (ap (λ xs. xs ++ Head kind size ∷ [])
    (so_far.all ∙ ap (λ xs. so_far.whole ++ xs) closed.1 ∙ append-nil so_far.whole))

-- parts, and one more
parts_more : (body part : List ℕ) (parts : List (List ℕ)) → ArePartsOf body parts → 0 < length part
    → ArePartsOf (body ++ part) (parts ++ part ∷ [])
parts_more body part parts are some =
    let one : flat_map (λ p. p) (part ∷ []) ≡ part = append-nil part in
    record {
      each = each_more parts part are.each some;
      whole = ap (λ xs. xs ++ part) are.whole ∙ ap (λ xs. flat_map (λ p. p) parts ++ xs) (sym one)
          ∙ sym (flat_map-append (λ p. p) parts (part ∷ []));
    }
  where
    each_more : (ps : List (List ℕ)) (p : List ℕ) → AllByRecursion (λ q. 0 < length q) ps
        → 0 < length p → AllByRecursion (λ q. 0 < length q) (ps ++ p ∷ [])
    each_more [] p all one = (one, tt)
    each_more (q ∷ ps) p all one = (all.0, each_more ps p all.1 one)

-- the part that is handed out
so_far_part : (limit : ℕ) (stream : List ℕ) (pieces : List OwnedPiece) (old new : Passage) (part : List ℕ)
    (more : ℕ) → SoFar limit stream pieces old → 0 < length part → old.left ≡ Some (length part + more)
    → old.bytes ≡ part ++ new.bytes → new.left ≡ Some more → new.limit ≡ old.limit
    → SoFar limit stream (pieces ++ Part part ∷ []) new
so_far_part limit stream pieces old new part more so_far some left_is bytes_are left_then same =
    let was : IsOpen limit (Some (length part + more)) so_far.opened so_far.begun =
    subst (λ (l : Option ℕ). IsOpen limit l so_far.opened so_far.begun) left_is so_far.is_open in
    let kind = was.0 in
    let size = was.1 in
    let body = was.2 in
    let begun = was.4 in
    let added : so_far.begun ++ Part part ∷ [] ≡ Head kind size ∷ map Part
    (begun.parts ++ part ∷ []) = ap (λ xs. xs ++ Part part ∷ []) begun.pieces_are
    ∙ ap (λ xs. Head kind size ∷ xs) (sym (map-append Part begun.parts (part ∷ []))) in
    let opened : IsOpen limit (Some more) (so_far.opened ++ part) (so_far.begun ++ Part part ∷ []) = (
      kind,
      size,
      body ++ part,
      ap (λ xs. xs ++ part) was.3 ∙ append_assoc (head_text kind size) body part,
      record {
        head = begun.head;
        parts = begun.parts ++ part ∷ [];
        are_parts = parts_more body part begun.parts begun.are_parts some;
        pieces_are = added;
      },
      omega (arith, was.5, length-append body part),
    ) in
    so_far_on limit stream stream pieces _ (so_far.begun ++ Part part ∷ []) (so_far.opened ++ part) old
    new so_far same
    (subst (λ (l : Option ℕ). IsOpen limit l (so_far.opened ++ part) (so_far.begun ++ Part part ∷ []))
    (sym left_then) opened)
    (so_far.stream_is ∙ ap (λ xs. texts so_far.frames ++ (so_far.opened ++ xs)) bytes_are
    ∙ ap (λ xs. texts so_far.frames ++ xs) (sym (append_assoc so_far.opened part new.bytes)))
    (ap (λ xs. xs ++ Part part ∷ []) so_far.all
    ∙ append_assoc so_far.whole so_far.begun (Part part ∷ []))

-- the frame whose body is there
frame_of : ℕ → List ℕ → Frame
frame_of kind body = record { kind = kind; body = body }

-- the tail that is handed out
so_far_tail : (limit : ℕ) (stream : List ℕ) (pieces : List OwnedPiece) (old new : Passage)
    → SoFar limit stream pieces old → Hands old (Some lent.Tail) new
    → SoFar limit stream (pieces ++ Tail ∷ []) new
unfolding frame_of
so_far_tail limit stream pieces old new so_far hands =
    let was : IsOpen limit (Some 0) so_far.opened so_far.begun =
    subst (λ (l : Option ℕ). IsOpen limit l so_far.opened so_far.begun) hands.0 so_far.is_open in
    let kind = was.0 in
    let size = was.1 in
    let body = was.2 in
    let begun = was.4 in
    let f = frame_of kind body in
    let sizes : size ≡ 4 + length body = omega (arith, was.5) in
    let is : IsFrame limit f =
    record { type_byte = begun.head.type_byte; size = omega (arith, sizes, begun.head.high); fits = omega (arith, sizes, begun.head.fits) } in
    let pieces_are : so_far.begun ++ Tail ∷ [] ≡ Head kind
    (4 + length body) ∷ (map Part begun.parts ++ Tail ∷ []) = ap (λ xs. xs ++ Tail ∷ [])
    begun.pieces_are ∙ ap (λ n. Head kind n ∷ (map Part begun.parts ++ Tail ∷ [])) sizes in
    let one : AreWhole (f ∷ []) (so_far.begun ++ Tail ∷ []) =
    (begun.parts, [], begun.are_parts, pieces_are, refl) in
    let opened : so_far.opened ++ old.bytes ≡ text f ++ old.bytes = ap (λ xs. xs ++ old.bytes) was.3
    ∙ append_assoc (head_text kind size) body old.bytes
    ∙ ap (λ n. head_text kind n ++ (body ++ old.bytes)) sizes ∙ sym (text_is f old.bytes) in
    let joined : texts so_far.frames ++ text f ≡ texts (so_far.frames ++ f ∷ []) =
    ap (λ xs. texts so_far.frames ++ xs) (sym (append-nil (text f)))
    ∙ sym (texts-append so_far.frames (f ∷ [])) in
    record {
      limit_is = hands.4 ∙ so_far.limit_is;
      frames = so_far.frames ++ f ∷ [];
      whole = so_far.whole ++ (so_far.begun ++ Tail ∷ []);
      opened = [];
      begun = [];
      each = each-append limit so_far.frames (f ∷ []) so_far.each (is, tt);
      are_whole =
          AreWhole-append so_far.frames (f ∷ []) so_far.whole (so_far.begun ++ Tail ∷ [])
          so_far.are_whole one;
      is_open = subst (λ (l : Option ℕ). IsOpen limit l [] []) (sym hands.1) (refl, refl);
      stream_is = so_far.stream_is ∙ ap (λ xs. texts so_far.frames ++ xs) opened
          ∙ sym (append_assoc (texts so_far.frames) (text f) old.bytes)
          ∙ ap (λ xs. xs ++ old.bytes) joined
          ∙ ap (λ xs. texts (so_far.frames ++ f ∷ []) ++ xs) (sym hands.2);
      all = ap (λ xs. xs ++ Tail ∷ []) so_far.all
          ∙ append_assoc so_far.whole so_far.begun (Tail ∷ [])
          ∙ sym (append-nil (so_far.whole ++ (so_far.begun ++ Tail ∷ [])));
    }

-- any piece that is handed out
pub so_far_piece : (limit : ℕ) (stream : List ℕ) (pieces : List OwnedPiece) (old new : Passage) (piece : Piece)
    → SoFar limit stream pieces old → Hands old (Some piece) new
    → SoFar limit stream (pieces ++ owned_of piece ∷ []) new
so_far_piece limit stream pieces old new (lent.Head kind size) so_far hands =
    so_far_head limit stream pieces old new kind size so_far hands
so_far_piece limit stream pieces old new (lent.Part part) so_far hands =
    so_far_part limit stream pieces old new part.now hands.0 so_far hands.1 hands.2 hands.3 hands.4
    hands.6
so_far_piece limit stream pieces old new lent.Tail so_far hands =
    so_far_tail limit stream pieces old new so_far hands

-- what is fed
pub so_far_fed : (limit : ℕ) (stream piece : List ℕ) (pieces : List OwnedPiece) (passage : Passage)
    → SoFar limit stream pieces passage → SoFar limit (stream ++ piece) pieces (fed passage piece)
so_far_fed limit stream piece pieces passage so_far =
    so_far_on limit stream (stream ++ piece) pieces pieces so_far.begun so_far.opened passage
    (fed passage piece) so_far refl so_far.is_open
    (ap (λ xs. xs ++ piece) so_far.stream_is
    ∙ append_assoc (texts so_far.frames) (so_far.opened ++ passage.bytes) piece
    ∙ ap (λ xs. texts so_far.frames ++ xs) (append_assoc so_far.opened passage.bytes piece))
    so_far.all

-- a fault in what follows some frames
fault_after : (limit : ℕ) (fs : List Frame) (stream : List ℕ) (fault : Option FrameError)
    → AllByRecursion (IsFrame limit) fs → HasFault limit stream fault → HasFault limit (texts fs ++ stream) fault
fault_after limit fs stream fault each has = record {
  frames = fs ++ has.frames;
  rest = has.rest;
  cuts = cuts_after limit fs stream has.frames has.rest each has.cuts;
  stands = has.stands;
}

-- a head whose body isn't all there
begun_none : (limit : ℕ) (kind size : ℕ) (body : List ℕ) → IsHead limit kind size → 4 + length body < size
    → BeginsNoFrame limit (head_text kind size ++ body)
begun_none limit kind size body is short =
    no_frame-part limit (head_text kind size ++ body) (omega (arith, head_number limit kind size body is))

-- the fault in what follows the frame that is being handed out
opened_fault : (limit : ℕ) (kind size left : ℕ) (body bytes : List ℕ) (fault : Option FrameError)
    → IsHead limit kind size → 4 + length body + left ≡ size → HasFault limit (drop left bytes) fault
    → HasFault limit ((head_text kind size ++ body) ++ bytes) fault
unfolding frame_of
opened_fault limit kind size left body bytes fault is count has =
    let parts : (head_text kind size ++ body) ++ bytes ≡ head_text kind size ++ (body ++ bytes) =
    append_assoc (head_text kind size) body bytes in
    elim (cases_lt (length bytes) left) [
      | inl short ↦
          let none : BeginsNoFrame limit (head_text kind size ++ (body ++ bytes)) =
          begun_none limit kind size (body ++ bytes) is (omega (arith, length-append body bytes)) in
          let nothing : drop left bytes ≡ [] = drop_all left bytes (omega arith) in
          let fault_is : None ≡ fault =
          fault_once limit [] None fault (has_none limit)
          (subst (λ (xs : List ℕ). HasFault limit xs fault) nothing has) in
          let here : HasFault limit (head_text kind size ++ (body ++ bytes)) None =
          record {
            frames = [];
            rest = head_text kind size ++ (body ++ bytes);
            cuts = cuts_none limit
                _ none;
            stands = head_fault limit kind size (body ++ bytes) is;
          } in
          subst (λ (x : Option FrameError). HasFault limit ((head_text kind size ++ body) ++ bytes) x)
          fault_is (subst (λ (xs : List ℕ). HasFault limit xs None) (sym parts) here)
      | inr enough ↦
          let rest = take left bytes in
          let f = frame_of kind (body ++ rest) in
          let len : length (body ++ rest) ≡ length body + left =
          omega (arith, length-append body rest, length-take-le left bytes enough) in
          let sizes : size ≡ 4 + length (body ++ rest) = omega (arith, len) in
          let frame_is : IsFrame limit f =
          record { type_byte = is.type_byte; size = omega (arith, sizes, is.high); fits = omega (arith, sizes, is.fits) } in
          let bodies : body ++ bytes ≡ (body ++ rest) ++ drop left bytes =
          ap (λ xs. body ++ xs) (sym (take-append-drop left bytes))
          ∙ sym (append_assoc body rest (drop left bytes)) in
          let whole : (head_text kind size ++ body) ++ bytes ≡ text f ++ drop left bytes = parts
          ∙ ap (λ xs. head_text kind size ++ xs) bodies
          ∙ ap (λ n. head_text kind n ++ ((body ++ rest) ++ drop left bytes)) sizes
          ∙ sym (text_is f (drop left bytes)) in
          let behind : HasFault limit (texts (f ∷ []) ++ drop left bytes) fault =
          fault_after limit (f ∷ []) (drop left bytes) fault (frame_is, tt) has in
          let one : texts (f ∷ []) ≡ text f = append-nil (text f) in
          subst (λ (xs : List ℕ). HasFault limit xs fault)
          (ap (λ xs. xs ++ drop left bytes) one ∙ sym whole) behind
    ]

-- the fault in a stream is the one in what is kept of it
open_fault : (limit : ℕ) (left : Option ℕ) (opened bytes : List ℕ) (begun : List OwnedPiece)
    (fault : Option FrameError) → IsOpen limit left opened begun
    → HasFault limit (drop (unwrap_or left 0) bytes) fault → HasFault limit (opened ++ bytes) fault
open_fault limit None opened bytes begun fault open_ has =
    subst (λ (xs : List ℕ). HasFault limit (xs ++ bytes) fault) (sym open_.0) has
open_fault limit (Some left) opened bytes begun fault open_ has =
    subst (λ (xs : List ℕ). HasFault limit (xs ++ bytes) fault) (sym open_.3)
    (opened_fault limit open_.0 open_.1 left open_.2 bytes fault open_.4.head open_.5 has)

pub so_far_fault : (limit : ℕ) (stream : List ℕ) (pieces : List OwnedPiece) (passage : Passage)
    (fault : Option FrameError) → SoFar limit stream pieces passage → HasFault limit (after passage) fault
    → HasFault limit stream fault
so_far_fault limit stream pieces passage fault so_far has =
    subst (λ (xs : List ℕ). HasFault limit xs fault) (sym so_far.stream_is)
    (fault_after limit so_far.frames (so_far.opened ++ passage.bytes) fault so_far.each
    (open_fault limit passage.left so_far.opened passage.bytes so_far.begun fault so_far.is_open has))

-- where nothing more can be handed out, the rest is what was begun
rest_is : (limit : ℕ) (left : Option ℕ) (opened bytes : List ℕ) (begun : List OwnedPiece)
    → IsOpen limit left opened begun → HasNoNext limit left bytes → BeginsNoFrame limit (opened ++ bytes)
    × AreOfRest limit (opened ++ bytes) begun
rest_is limit None opened bytes begun open_ none =
    subst (λ (xs : List ℕ). BeginsNoFrame limit (xs ++ bytes) × AreOfRest limit (xs ++ bytes) begun)
    (sym open_.0) (no_frame-no_head limit bytes none, inl (none, open_.1))
rest_is limit (Some left) opened bytes begun open_ none =
    let is : opened ++ bytes ≡ head_text open_.0 open_.1 ++ open_.2 =
    ap (λ xs. opened ++ xs) none.1 ∙ append-nil opened ∙ open_.3 in
    subst (λ (xs : List ℕ). BeginsNoFrame limit xs × AreOfRest limit xs begun) (sym is) (
      begun_none limit open_.0 open_.1 open_.2 open_.4.head (omega (arith, none.0, open_.5)),
      inr
          (open_.0, open_.1, open_.2, refl, open_.4),
    )

pub so_far_cut : (limit : ℕ) (stream : List ℕ) (pieces : List OwnedPiece) (passage : Passage)
    → SoFar limit stream pieces passage → HasNoNext limit passage.left passage.bytes → (frames : List Frame)
    × (rest : List ℕ) × Cuts limit stream frames rest × HandsOut limit frames rest pieces
so_far_cut limit stream pieces passage so_far none =
    let rest = so_far.opened ++ passage.bytes in
    let says =
    rest_is limit passage.left so_far.opened passage.bytes so_far.begun so_far.is_open none in (
      so_far.frames,
      rest,
      record { whole = so_far.stream_is; each = so_far.each; longest = says.0 },
      record {
        whole = so_far.whole;
        begun = so_far.begun;
        are_whole = so_far.are_whole;
        of_rest = says.1;
        all = so_far.all;
      },
    )

-- what is kept then has some fault, or none
kept_fault : (limit : ℕ) (left : Option ℕ) (bytes : List ℕ) → HasNoNext limit left bytes → (fault : Option FrameError)
    × HasFault limit (drop (unwrap_or left 0) bytes) fault
kept_fault limit None bytes none = (
  fault_at limit bytes,
  record {
    frames = [];
    rest = bytes;
    cuts = cuts_none limit bytes (no_frame-no_head limit bytes none);
    stands = refl;
  },
)
kept_fault limit (Some left) bytes none = (
  None,
  subst (λ (xs : List ℕ). HasFault limit xs None)
      (sym (drop_all left bytes (omega (arith, ap length none.1, none.0)))) (has_none limit),
)

-- what was handed out stays so where it is forgotten
so_far_forgot : (limit : ℕ) (stream : List ℕ) (pieces : List OwnedPiece) (passage : Passage)
    → SoFar limit stream pieces passage → SoFar limit stream pieces (record passage { passed = [] })
so_far_forgot limit stream pieces passage so_far = record {
  limit_is = so_far.limit_is;
  frames = so_far.frames;
  whole = so_far.whole;
  opened = so_far.opened;
  begun = so_far.begun;
  each = so_far.each;
  are_whole = so_far.are_whole;
  is_open = so_far.is_open;
  stream_is = so_far.stream_is;
  all = so_far.all;
}

-- the fault that was returned is the one that still stands
pub drained_from : (limit : ℕ) (stream : List ℕ) (pieces : List OwnedPiece) (passage : Passage)
    (fault : Option FrameError) → SoFar limit stream pieces passage → HasNoNext limit passage.left passage.bytes
    → HasFault limit stream fault → Drained limit stream pieces (record passage { passed = [] }) fault
drained_from limit stream pieces passage fault so_far none has =
    let kept = kept_fault limit passage.left passage.bytes none in
    let same : kept.0 ≡ fault =
    fault_once limit stream kept.0 fault (so_far_fault limit stream pieces passage kept.0 so_far kept.1)
    has in
    record {
      so_far = so_far_forgot limit stream pieces passage so_far;
      none_kept = refl;
      still = none;
      stands = subst
          (λ (x : Option FrameError). HasFault limit (after passage) x) same kept.1;
    }

pub drained_start : (limit : ℕ) (pieces : List OwnedPiece) (passage : Passage) → pieces ≡ [] → passage ≡ start limit
    → Drained limit [] pieces passage None
drained_start limit pieces passage none is =
    let so_far : SoFar limit [] [] (start limit) =
    record {
      limit_is = refl;
      frames = [];
      whole = [];
      opened = [];
      begun = [];
      each = tt;
      are_whole = refl;
      is_open = (refl, refl);
      stream_is = refl;
      all = refl;
    } in
    let here : Drained limit [] [] (start limit) None =
    record {
      so_far = so_far;
      none_kept = refl;
      still = no_head-short limit [] (omega arith);
      stands = has_none limit;
    } in
    subst (λ (xs : List OwnedPiece). Drained limit [] xs passage None) (sym none)
    (subst (λ (p : Passage). Drained limit [] [] p None) (sym is) here)

-- the pieces of a stream, with the fault
pub drained_cut : (limit : ℕ) (stream : List ℕ) (pieces : List OwnedPiece) (passage : Passage)
    (fault : Option FrameError) → Drained limit stream pieces passage fault → (frames : List Frame)
    × (rest : List ℕ) × Cuts limit stream frames rest × HandsOut limit frames rest pieces
    × (fault ≡ fault_at limit rest)
drained_cut limit stream pieces passage fault drained =
    let cut = so_far_cut limit stream pieces passage drained.so_far drained.still in
    let has : HasFault limit stream (fault_at limit cut.1) =
    record { frames = cut.0; rest = cut.1; cuts = cut.2; stands = refl } in (
      cut.0,
      cut.1,
      cut.2,
      cut.3,
      fault_once limit stream fault (fault_at limit cut.1)
          (so_far_fault limit stream pieces passage fault drained.so_far drained.stands) has,
    )

-- a fault stays, and no more pieces come, however the stream goes on
pub hands_out-fault : (limit : ℕ) (frames : List Frame) (rest more : List ℕ) (pieces : List OwnedPiece)
    (fault : FrameError) → HandsOut limit frames rest pieces → Some fault ≡ fault_at limit rest
    → HandsOut limit frames (rest ++ more) pieces
hands_out-fault limit frames rest more pieces fault hands stands =
    let none = no_head-fault limit (rest ++ more) fault (fault_at-more limit rest more fault (sym stands)) in
    record {
      whole = hands.whole;
      begun = hands.begun;
      are_whole = hands.are_whole;
      of_rest = elim hands.of_rest [
        | inl w ↦ inl (none, w.1)
        | inr w ↦ absurd (no_head-fault limit rest fault (sym stands) w.0 w.1 w.2 w.4.head w.3)
      ];
      all = hands.all;
    }

-- it is the same for the one cutting
pub handed_once : (limit : ℕ) (stream : List ℕ) (frames others : List Frame) (rest left : List ℕ)
    (pieces : List OwnedPiece) (fault : Option FrameError) → Cuts limit stream frames rest
    → HandsOut limit frames rest pieces → fault ≡ fault_at limit rest → Cuts limit stream others left
    → HandsOut limit others left pieces × (fault_at limit left ≡ fault)
handed_once limit stream frames others rest left pieces fault cuts hands stands cuts' =
    let one = cuts_once limit stream frames others rest left cuts cuts' in
    let there : HandsOut limit others rest pieces =
    subst (λ (fs : List Frame). HandsOut limit fs rest pieces) one.0 hands in (
      subst (λ (xs : List ℕ). HandsOut limit others xs pieces) one.1 there,
      ap (fault_at limit) (sym one.1) ∙ sym stands,
    )

-- a stream whose rest has a fault, however it goes on
pub handed_through : (limit : ℕ) (stream more all : List ℕ) (pieces : List OwnedPiece) (passage : Passage)
    (fault : Option FrameError) → IsTrue (is_some fault) → Drained limit stream pieces passage fault
    → stream ++ more ≡ all → (frames : List Frame) × (rest : List ℕ) × Cuts limit all frames rest
    × HandsOut limit frames rest pieces × (fault ≡ fault_at limit rest)
handed_through limit stream more all pieces passage None some drained is = absurd (false≢true some)
handed_through limit stream more all pieces passage (Some fault) some drained is =
    let cut = drained_cut limit stream pieces passage (Some fault) drained in (
      cut.0,
      cut.1 ++ more,
      subst (λ (xs : List ℕ). Cuts limit xs cut.0 (cut.1 ++ more)) is
          (cuts-fault limit stream more cut.0 cut.1 fault cut.2 (sym cut.4)),
      hands_out-fault limit cut.0 cut.1 more pieces fault cut.3 cut.4,
      sym (fault_at-more limit cut.1 more fault (sym cut.4)),
    )

-- the fault that was returned
pub fault_of_answer : (fault : Option FrameError) → result_err (answer_of fault) ≡ fault
fault_of_answer None = refl
fault_of_answer (Some fault) = refl

-- a piece of a stream, cut once more
pub cut_once_more : (whole taken rest front back : List ℕ) (count : ℕ) → whole ≡ taken ++ rest
    → front ≡ take count rest → back ≡ drop count rest → whole ≡ (taken ++ front) ++ back
cut_once_more whole taken rest front back count is front_is back_is =
    let parts : rest ≡ front ++ back =
    sym (ap (λ xs. xs ++ back) front_is ∙ ap (λ xs. take count rest ++ xs) back_is
    ∙ take-append-drop count rest) in
    is ∙ ap (λ xs. taken ++ xs) parts ∙ sym (append_assoc taken front back)

-- a piece more was handed out, as far as it was taken
pub drained_more : (limit : ℕ) (stream taken front : List ℕ) (pieces : List OwnedPiece) (passage : Passage)
    (fault : Option FrameError) → Drained limit ((stream ++ taken) ++ front) pieces passage fault
    → Drained limit (stream ++ (taken ++ front)) pieces passage fault
drained_more limit stream taken front pieces passage fault drained =
    subst (λ (xs : List ℕ). Drained limit xs pieces passage fault) (append_assoc stream taken front)
    drained

-- a stream that was taken in the middle of a piece
pub rejoined : (before taken left more piece through all : List ℕ) → piece ≡ taken ++ left
    → through ≡ before ++ piece → through ++ more ≡ all → (before ++ taken) ++ (left ++ more) ≡ all
rejoined before taken left more piece through all is joined whole =
    append_assoc before taken (left ++ more)
    ∙ ap (λ xs. before ++ xs)
    (sym (append_assoc taken left more) ∙ ap (λ xs. xs ++ more) (sym is))
    ∙ sym (append_assoc before piece more) ∙ ap (λ xs. xs ++ more) (sym joined) ∙ whole

pub all_taken : (before taken left piece through : List ℕ) → piece ≡ taken ++ left → left ≡ []
    → through ≡ before ++ piece → before ++ taken ≡ through
all_taken before taken left piece through is none joined =
    ap (λ xs. before ++ xs) (sym (append-nil taken) ∙ ap (λ xs. taken ++ xs) (sym none) ∙ sym is)
    ∙ sym joined

pub some_bytes : (xs : List ℕ) → (length xs == 0) ≡ false → 0 < length xs
some_bytes [] e = absurd (false≢true (sym e))
some_bytes (x ∷ xs) e = omega arith

pub no_bytes : (xs : List ℕ) → (length xs == 0) ≡ true → xs ≡ []
no_bytes xs e = nil_from_length xs (eqb-true (length xs) 0 e)
