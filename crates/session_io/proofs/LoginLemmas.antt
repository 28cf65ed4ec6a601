-- A login at a server, piece by piece of what the server sent.
use Rattle.std.proofs.Common.{◌≡◌, ◌⊎◌, IfOk, IfErr, ℕ, ◌+◌, ◌-◌, ◌<◌, ◌≤◌, ◌↔◌, List, [], ◌∷◌, ◌++◌, length, take, drop, Option, Some, None, Result, Ok, Err, inl, inr, refl, sym, ap, ◌∙◌, subst, arith, append_assoc, append-nil, length-append, length-take, take-append-drop}
use Rattle.std.specs.List.{AllByRecursion}
use Rattle.peer_forward.specs.Calls.{Call, Effect, Makes}
use Rattle.pg_frames.specs.declared.frame.Frame.{Frame}
use Rattle.pg_frames.specs.declared.piece.Piece.{Piece}
use Rattle.pg_frames.specs.declared.piece.Piece.TheVariants as piece
use Rattle.pg_frames.specs.FrameText.{text, texts, IsFrame}
use Rattle.pg_frames.specs.Passage.{IsHead, Passage, start, fed, head_text, Hands}
use Rattle.startup.specs.StartupMessage.{startup_request}
use Rattle.link_state.specs.declared.error.LinkError.{LinkError}
use Rattle.link_state.specs.declared.act.LoginHead.{LoginHead}
use Rattle.link_state.specs.declared.act.LoginHead.TheVariants.{Skip, Body as ReadBody}
use Rattle.link_state.specs.declared.head.Head.{Head as Meaning}
use Rattle.link_state.specs.declared.head.Head.TheVariants as meaning
use Rattle.link_state.specs.declared.part.Part.TheVariants.{Number, Key, Status}
use Rattle.link_state.specs.Message.{head_of, part_of}
use Rattle.link_state.specs.Login.{Login, GoOn, IsUpAt, HasRead, HasHead, HasReadHead, LeadInto, Reaches, ReadsOn, body_part}
use Rattle.link_state.specs.declared.stage.Stage.{Stage}
use Rattle.link_state.specs.declared.stage.Stage.TheVariants as stage
use Rattle.session_io.specs.declared.login.place.LoginPlace.{LoginPlace}
use Rattle.session_io.specs.declared.login.place.LoginPlace.TheVariants.{Between, Passing, Reading, Up}
use Rattle.session_io.specs.declared.login.place.Taken.{Taken}
use Rattle.session_io.specs.declared.login.place.Taken.TheVariants.{More, Done, Stopped}
use Rattle.session_io.specs.declared.login.place.Stop.{Stop}
use Rattle.session_io.specs.declared.login.place.Stop.TheVariants as why
use Rattle.session_io.specs.LoginRefused.{StopsWith, SaysAsks, StopsOn, StopsAt, IsStop}
use Rattle.session_io.specs.declared.login.place.Mark.TheVariants.{Part}
use Rattle.session_io.specs.StreamCalls.{SomeCalls, Wrote, Read}
use Rattle.session_io.specs.LoggingIn.{ReadsLogin, LogsIn, IsOpen, OfEach, IsAt, HasCome, IsDone, GoesOn, Takes, TakesBody, Handed, frame_of, mark_of, after_tail}
use Rattle.std.proofs.lemmas.Bool.Decides.{nat_tests}
use Rattle.peer_forward.proofs.CallLemmas.{Makes-append, each-append}
use Rattle.session_io.proofs.CallLists.{Read-append, Read-nothing}
use Rattle.session_io.proofs.HandingLemmas.{text_is, texts-push}

none_some : (n : ℕ) → None ≡ Some n → ⊥
none_some n e = cc

some_some : (m n : ℕ) → Some m ≡ Some n → m ≡ n
some_some m n e = cc

-- with all forgotten that was handed out
abbrev pub emptied : Passage → Passage
emptied passage = record passage { passed = [] }

-- a piece that was handed out, known by its mark
pub handed_piece : (before now : Passage) (handed : Piece) → Hands before (Some handed) now
    → Handed before (mark_of handed) now
handed_piece before now (piece.Head kind size) hands = hands
handed_piece before now (piece.Part part) hands = (part, hands)
handed_piece before now piece.Tail hands = hands

-- where no body's bytes are to come, the reader is between two messages
between_only : (limit : ℕ) (place : LoginPlace) (login : Login) (frames : List Frame)
    (shown : List ℕ)
    (left : Option ℕ) (kept : List ℕ) → left ≡ None → IsAt limit place login frames shown left kept
    → GoesOn login frames × (shown ≡ [])
between_only limit Between login frames shown left kept none is = (is.0, is.1)
between_only limit Passing login frames shown left kept none is =
    absurd (none_some is.3.more (sym none ∙ is.3.left_is))
between_only limit (Reading wanted) login frames shown left kept none is =
    absurd (none_some is.3.more (sym none ∙ is.3.left_is))
between_only limit (Up key) login frames shown left kept none is =
    absurd (none_some is.3.more (sym none ∙ is.3.left_is))

-- of the messages that were read, and of one more the head
record IsBegun (limit : ℕ) (stream : List ℕ) (login : Login) (kind size : ℕ) (now : Passage)
    : Type 0 where
  pub limit_is : now.limit ≡ limit
  pub frames : List Frame
  pub each : AllByRecursion (IsFrame limit) frames
  pub read : GoesOn login frames
  pub stream_is : stream ≡ texts frames ++ (head_text kind size ++ now.bytes)
  pub opened : IsOpen limit kind size [] (head_text kind size) now.left

head_begins : (limit : ℕ) (stream : List ℕ) (place : LoginPlace) (login : Login)
    (before now : Passage)
    (kind size : ℕ) → HasCome limit stream place login before
    → Hands before (Some (piece.Head kind size)) now → IsBegun limit stream login kind size now
head_begins limit stream place login before now kind size come hands =
    let at = between_only limit place login come.frames come.shown before.left before.passed hands.0
    come.is_at in
    record {
      limit_is = hands.5 ∙ come.limit_is;
      frames = come.frames;
      each = come.each;
      read = at.0;
      stream_is = come.stream_is ∙ ap (λ xs. texts come.frames ++ (xs ++ before.bytes)) at.1
          ∙ ap (λ xs. texts come.frames ++ xs) hands.2;
      opened = record {
        head = subst (λ (n : ℕ). IsHead n kind size) come.limit_is hands.1;
        shown_is = sym (append-nil (head_text kind size));
        more = size - 4;
        left_is = hands.3;
        size_is = omega (arith, hands.1.low);
      };
    }

-- the head of a message that is passed over
pub head_skipped : (limit : ℕ) (stream : List ℕ) (place : LoginPlace) (old new : Login)
    (before now after : Passage) (kind size : ℕ) (answer : Result LoginHead LinkError)
    → answer ≡ Ok Skip → after ≡ emptied now
    → ((frames : List Frame) → HasRead old frames → ReadsOn answer new frames kind size)
    → ((frames : List Frame) (frame : Frame) → HasRead old frames → HasHead frame kind size
    → (answer ≡ Ok Skip) ↔ (GoOn (frames ++ frame ∷ []) × (body_part kind size ≡ None)))
    → HasCome limit stream place old before → Hands before (Some (piece.Head kind size)) now
    → HasCome limit stream Passing new after
head_skipped limit stream place old new before now after kind size answer is after_is reads goes
    come
    hands =
    let begun = head_begins limit stream place old before now kind size come hands in
    let whole = subst (λ (a : Result LoginHead LinkError). ReadsOn a new begun.frames kind size) is
    (reads begun.frames begun.read.0) in
    let here : HasCome limit stream Passing new (emptied now) = record {
      limit_is = begun.limit_is;
      frames = begun.frames;
      each = begun.each;
      shown = head_text kind size;
      stream_is = begun.stream_is;
      is_at = (
        kind,
        size,
        [],
        begun.opened,
        refl,
        λ rest sizes.
            let at : HasHead (frame_of kind rest) kind size =
            record { kind_is = refl; len_is = sizes } in (
              whole (frame_of kind rest) at,
              ((goes begun.frames (frame_of kind rest) begun.read.0 at).0 is).0,
            ),
      );
    } in
    subst (λ (p : Passage). HasCome limit stream Passing new p) (sym after_is) here

-- a login reads a byte of a body at least, and eight at most
part_size : (means : Meaning) (n : ℕ) → part_of means ≡ Some n → (0 < n) × (n ≤ 8)
part_size meaning.Skipped n is = absurd (none_some n is)
part_size (meaning.Fault error) n is = absurd (none_some n is)
part_size meaning.OtherReady n is = absurd (none_some n is)
part_size (meaning.Body Number) n is =
    let e = some_some 4 n is in (omega (arith, e), omega (arith, e))
part_size (meaning.Body Key) n is =
    let e = some_some 8 n is in (omega (arith, e), omega (arith, e))
part_size (meaning.Body Status) n is =
    let e = some_some 1 n is in (omega (arith, e), omega (arith, e))

-- the head of a message of whose body some is read
pub head_read : (limit : ℕ) (stream : List ℕ) (place : LoginPlace) (old new : Login)
    (before now after : Passage) (kind size wanted : ℕ) (answer : Result LoginHead LinkError)
    → answer ≡ Ok (ReadBody wanted) → after ≡ emptied now
    → ((frames : List Frame) → HasRead old frames → ReadsOn answer new frames kind size)
    → ((frames : List Frame) → HasRead old frames → (n : ℕ)
    → (answer ≡ Ok (ReadBody n)) ↔ (GoOn frames × (body_part kind size ≡ Some n)))
    → HasCome limit stream place old before → Hands before (Some (piece.Head kind size)) now
    → HasCome limit stream (Reading wanted) new after
head_read limit stream place old new before now after kind size wanted answer is after_is reads
    wants come
    hands =
    let begun = head_begins limit stream place old before now kind size come hands in
    let head = subst (λ (a : Result LoginHead LinkError). ReadsOn a new begun.frames kind size) is
    (reads begun.frames begun.read.0) in
    let part_is = ((wants begun.frames begun.read.0 wanted).0 is).1 in
    let here : HasCome limit stream (Reading wanted) new (emptied now) = record {
      limit_is = begun.limit_is;
      frames = begun.frames;
      each = begun.each;
      shown = head_text kind size;
      stream_is = begun.stream_is;
      is_at = (
        kind,
        size,
        [],
        begun.opened,
        refl,
        (part_size (head_of kind size) wanted part_is).0,
        head,
        part_is,
      );
    } in
    subst (λ (p : Passage). HasCome limit stream (Reading wanted) new p) (sym after_is) here

-- a part more of a body
open_more : (limit : ℕ) (kind size : ℕ) (body shown : List ℕ) (left left' : Option ℕ)
    (part : List ℕ)
    (more : ℕ) → IsOpen limit kind size body shown left → left ≡ Some (length part + more)
    → left' ≡ Some more → IsOpen limit kind size (body ++ part) (shown ++ part) left'
open_more limit kind size body shown left left' part more is was now =
    let count = some_some is.more (length part + more) (sym is.left_is ∙ was) in
    record {
      head = is.head;
      shown_is = ap (λ xs. xs ++ part) is.shown_is ∙ append_assoc (head_text kind size) body part;
      more = more;
      left_is = now;
      size_is = omega (arith, is.size_is, count, length-append body part);
    }

of_each_more : (kind size : ℕ) (body part : List ℕ) (P : Frame → Type 0)
    → OfEach kind size body P → OfEach kind size (body ++ part) P
of_each_more kind size body part P each rest is =
    let same = append_assoc body part rest in
    subst (λ xs. P (frame_of kind xs)) (sym same)
    (each (part ++ rest) (ap (λ xs. 4 + length xs) (sym same) ∙ is))

stream_more : (stream shown part bytes bytes' : List ℕ) (frames : List Frame)
    → stream ≡ texts frames ++ (shown ++ bytes) → bytes ≡ part ++ bytes'
    → stream ≡ texts frames ++ ((shown ++ part) ++ bytes')
stream_more stream shown part bytes bytes' frames is bytes_are =
    is ∙ ap (λ xs. texts frames ++ (shown ++ xs)) bytes_are
    ∙ ap (λ xs. texts frames ++ xs) (sym (append_assoc shown part bytes'))

-- the reader is inside a message, of which this is known, and keeps nothing
abbrev IsOver : ℕ → List ℕ → Option ℕ → List ℕ → (Frame → Type 0) → Type 0
IsOver limit shown left kept P = (kind : ℕ) × (size : ℕ) × (body : List ℕ)
    × IsOpen limit kind size body shown left × (kept ≡ []) × OfEach kind size body P

over_more : (limit : ℕ) (shown : List ℕ) (left left' : Option ℕ) (kept part : List ℕ) (more : ℕ)
    (P : Frame → Type 0) → IsOver limit shown left kept P → left ≡ Some (length part + more)
    → left' ≡ Some more → IsOver limit (shown ++ part) left' [] P
over_more limit shown left left' kept part more P is was now = (
  is.0,
  is.1,
  is.2 ++ part,
  open_more limit is.0 is.1 is.2 shown left left' part more is.3 was now,
  refl,
  of_each_more is.0 is.1 is.2 part P is.5,
)

-- a part of a body of which nothing is read
part_here : (limit : ℕ) (stream : List ℕ) (place : LoginPlace) (login : Login)
    (before now : Passage)
    → ((wanted : ℕ) → place ≡ Reading wanted → ⊥) → HasCome limit stream place login before
    → Handed before Part now → HasCome limit stream place login (emptied now)
part_here limit stream Between login before now not come hands =
    absurd (none_some (length hands.0.now + hands.1.0) (sym come.is_at.2 ∙ hands.1.2))
part_here limit stream Passing login before now not come hands =
    let part = hands.0.now in
    record {
      limit_is = hands.1.6 ∙ come.limit_is;
      frames = come.frames;
      each = come.each;
      shown = come.shown ++ part;
      stream_is = stream_more stream come.shown part before.bytes now.bytes come.frames
          come.stream_is
          hands.1.3;
      is_at = over_more limit come.shown before.left now.left before.passed part hands.1.0
          (λ frame. GoesOn login (come.frames ++ frame ∷ [])) come.is_at hands.1.2 hands.1.4;
    }
part_here limit stream (Reading wanted) login before now not come hands = absurd (not wanted refl)
part_here limit stream (Up key) login before now not come hands =
    let part = hands.0.now in
    record {
      limit_is = hands.1.6 ∙ come.limit_is;
      frames = come.frames;
      each = come.each;
      shown = come.shown ++ part;
      stream_is = stream_more stream come.shown part before.bytes now.bytes come.frames
          come.stream_is
          hands.1.3;
      is_at = over_more limit come.shown before.left now.left before.passed part hands.1.0
          (λ frame. IsUpAt come.frames frame key) come.is_at hands.1.2 hands.1.4;
    }

pub part_passed : (limit : ℕ) (stream : List ℕ) (place : LoginPlace) (login : Login)
    (before now after : Passage) → ((wanted : ℕ) → place ≡ Reading wanted → ⊥)
    → after ≡ emptied now → HasCome limit stream place login before → Handed before Part now
    → HasCome limit stream place login after
part_passed limit stream place login before now after not after_is come hands =
    subst (λ (p : Passage). HasCome limit stream place login p) (sym after_is)
    (part_here limit stream place login before now not come hands)

-- a part more of a body that is read: all that was handed out of it is kept
record IsKept (limit : ℕ) (stream : List ℕ) (login : Login) (wanted : ℕ) (now : Passage)
    : Type 0 where
  pub limit_is : now.limit ≡ limit
  pub frames : List Frame
  pub each : AllByRecursion (IsFrame limit) frames
  pub shown : List ℕ
  pub stream_is : stream ≡ texts frames ++ (shown ++ now.bytes)
  pub kind : ℕ
  pub size : ℕ
  pub opened : IsOpen limit kind size now.passed shown now.left
  pub begun : HasReadHead login frames kind size
  pub part_is : body_part kind size ≡ Some wanted

part_kept : (limit : ℕ) (stream : List ℕ) (login : Login) (wanted : ℕ) (before now : Passage)
    → HasCome limit stream (Reading wanted) login before → Handed before Part now
    → IsKept limit stream login wanted now
part_kept limit stream login wanted before now come hands =
    let part = hands.0.now in
    let at = come.is_at in
    let passed_is : at.2 ++ part ≡ now.passed =
    ap (λ xs. xs ++ part) (sym at.4) ∙ sym hands.1.5 in
    record {
      limit_is = hands.1.6 ∙ come.limit_is;
      frames = come.frames;
      each = come.each;
      shown = come.shown ++ part;
      stream_is = stream_more stream come.shown part before.bytes now.bytes come.frames
          come.stream_is
          hands.1.3;
      kind = at.0;
      size = at.1;
      opened = subst (λ xs. IsOpen limit at.0 at.1 xs (come.shown ++ part) now.left) passed_is
          (open_more limit at.0 at.1 at.2 come.shown before.left now.left part hands.1.0 at.3
          hands.1.2 hands.1.4);
      begun = at.6;
      part_is = at.7;
    }

-- more of it is to come
pub part_short : (limit : ℕ) (stream : List ℕ) (login : Login) (wanted : ℕ) (before now : Passage)
    → length now.passed < wanted → HasCome limit stream (Reading wanted) login before
    → Handed before Part now → HasCome limit stream (Reading wanted) login now
part_short limit stream login wanted before now short come hands =
    let is = part_kept limit stream login wanted before now come hands in
    record {
      limit_is = is.limit_is;
      frames = is.frames;
      each = is.each;
      shown = is.shown;
      stream_is = is.stream_is;
      is_at = (is.kind, is.size, now.passed, is.opened, refl, short, is.begun, is.part_is);
    }

reaches : (login : Login) (frames : List Frame) (kind size wanted : ℕ) (passed rest : List ℕ)
    → HasReadHead login frames kind size → body_part kind size ≡ Some wanted
    → wanted ≤ length passed → 4 + length (passed ++ rest) ≡ size
    → Reaches login frames (frame_of kind (passed ++ rest)) (take wanted passed)
reaches login frames kind size wanted passed rest begun part_is whole is =
    let len : length (take wanted passed) ≡ wanted = omega (arith, whole, length-take wanted passed)
    in
    record {
      begun = subst (λ n. HasReadHead login frames kind n) (sym is) begun;
      part = subst (λ n. body_part kind n ≡ Some (length (take wanted passed))) (sym is)
          (part_is ∙ ap Some (sym len));
      rest = drop wanted passed ++ rest;
      body = ap (λ xs. xs ++ rest) (sym (take-append-drop wanted passed))
          ∙ append_assoc (take wanted passed) (drop wanted passed) rest;
    }

-- a login that waits for a message's body went on after the messages before
waits_on : (frames : List Frame) (kind size : ℕ) (stage : Stage) → LeadInto frames kind size stage
    → GoOn frames
waits_on frames kind size (stage.Waiting key) leads = absurd leads
waits_on frames kind size (stage.Reading part key) leads = leads.0.go_on
waits_on frames kind size (stage.Done key) leads = absurd leads
waits_on frames kind size (stage.Refused error) leads = absurd leads

-- of an authentication request alone four bytes are read
number_read : (means : Meaning) → part_of means ≡ Some 4 → means ≡ meaning.Body Number
number_read meaning.Skipped is = absurd (none_some 4 is)
number_read (meaning.Fault error) is = absurd (none_some 4 is)
number_read meaning.OtherReady is = absurd (none_some 4 is)
number_read (meaning.Body Number) is = refl
number_read (meaning.Body Key) is = let e = some_some 8 4 is in absurd (omega (arith, e))
number_read (meaning.Body Status) is = let e = some_some 1 4 is in absurd (omega (arith, e))

number_kind : (kind size : ℕ) → head_of kind size ≡ meaning.Body Number → kind ≡ 82
unfolding head_of
number_kind kind size is = grind (arith, nat_tests)

-- the login fails by the code of an authentication request
body_stopped : (limit : ℕ) (stream : List ℕ) (login : Login) (wanted : ℕ) (now : Passage)
    (stop : Stop)
    → wanted ≤ length now.passed → IsKept limit stream login wanted now
    → IsStop (take wanted now.passed) stop → StopsOn limit stream stop (emptied now)
body_stopped limit stream login wanted now why.Failed whole is stops = tt
body_stopped limit stream login wanted now (why.Asks code) whole is stops =
    let four : wanted ≡ 4 = omega (arith, whole, stops.0, length-take wanted now.passed) in
    let kind_is = number_kind is.kind is.size (number_read (head_of is.kind is.size)
    (subst (λ n. body_part is.kind is.size ≡ Some n) four is.part_is)) in
    let part = take wanted now.passed in
    let rest = drop wanted now.passed in
    let whole_is : now.passed ++ now.bytes ≡ part ++ (rest ++ now.bytes) =
    ap (λ xs. xs ++ now.bytes) (sym (take-append-drop wanted now.passed))
    ∙ append_assoc part rest now.bytes in
    let shown_is : is.shown ++ now.bytes ≡ head_text 82 is.size ++ (part ++ (rest ++ now.bytes)) =
    ap (λ xs. xs ++ now.bytes) is.opened.shown_is
    ∙ append_assoc (head_text is.kind is.size) now.passed now.bytes
    ∙ ap (λ k. head_text k is.size ++ (now.passed ++ now.bytes)) kind_is
    ∙ ap (λ xs. head_text 82 is.size ++ xs) whole_is in
    record {
      size = is.size;
      part = part;
      rest = rest ++ now.bytes;
      stops = record {
        frames = is.frames;
        each = is.each;
        go_on = waits_on is.frames is.kind is.size login.stage is.begun;
        head = subst (λ k. IsHead limit k is.size) kind_is is.opened.head;
        bytes_are = is.stream_is ∙ ap (λ xs. texts is.frames ++ xs) shown_is;
      };
      part_len = stops.0;
      code_is = stops.1;
      other = stops.2;
    }
body_stopped limit stream login wanted now (why.Error size) whole is stops = absurd stops

-- the login fails by a message's head, which begins an error or tells nothing
pub head_stopped : (limit : ℕ) (stream : List ℕ) (place : LoginPlace) (old : Login)
    (before now after : Passage) (kind size : ℕ) (stop : Stop)
    → (stop ≡ why.Failed) ⊎ ((kind ≡ 69) × (stop ≡ why.Error size)) → after ≡ emptied now
    → HasCome limit stream place old before → Hands before (Some (piece.Head kind size)) now
    → StopsOn limit stream stop after
head_stopped limit stream place old before now after kind size stop (inl is) after_is come hands =
    subst (λ (s : Stop). StopsOn limit stream s after) (sym is) tt
head_stopped limit stream place old before now after kind size stop (inr is) after_is come hands =
    let begun = head_begins limit stream place old before now kind size come hands in
    let here : StopsWith limit 69 size now.bytes stream =
    subst (λ k. StopsWith limit k size now.bytes stream) is.0 (record {
      frames = begun.frames;
      each = begun.each;
      go_on = begun.read.1;
      head = begun.opened.head;
      bytes_are = begun.stream_is;
    }) in
    subst (λ (s : Stop). StopsOn limit stream s after) (sym is.1)
    (subst (λ xs. StopsWith limit 69 size xs stream) (ap (λ p. p.bytes) (sym after_is)) here)

-- all that is read of it is there
body_taken : (limit : ℕ) (stream : List ℕ) (old new : Login) (wanted : ℕ) (now : Passage)
    (taken : Taken)
    → wanted ≤ length now.passed → IsKept limit stream old wanted now
    → TakesBody old (take wanted now.passed) taken new → Takes limit stream taken new (emptied now)
body_taken limit stream old new wanted now (More Between) whole is takes = absurd takes
body_taken limit stream old new wanted now (More Passing) whole is takes = record {
  limit_is = is.limit_is;
  frames = is.frames;
  each = is.each;
  shown = is.shown;
  stream_is = is.stream_is;
  is_at = (
    is.kind,
    is.size,
    now.passed,
    is.opened,
    refl,
    λ rest sizes. takes is.frames (frame_of is.kind (now.passed ++ rest))
        (reaches old is.frames is.kind is.size wanted now.passed rest is.begun is.part_is whole
        sizes),
  );
}
body_taken limit stream old new wanted now (More (Reading next)) whole is takes = absurd takes
body_taken limit stream old new wanted now (More (Up key)) whole is takes = record {
  limit_is = is.limit_is;
  frames = is.frames;
  each = is.each;
  shown = is.shown;
  stream_is = is.stream_is;
  is_at = (
    is.kind,
    is.size,
    now.passed,
    is.opened,
    refl,
    λ rest sizes. takes is.frames (frame_of is.kind (now.passed ++ rest))
        (reaches old is.frames is.kind is.size wanted now.passed rest is.begun is.part_is whole
        sizes),
  );
}
body_taken limit stream old new wanted now (Done key) whole is takes = absurd takes
body_taken limit stream old new wanted now (Stopped stop) whole is stops =
    body_stopped limit stream old wanted now stop whole is stops

pub part_whole : (limit : ℕ) (stream : List ℕ) (old new : Login) (wanted : ℕ)
    (before now after : Passage)
    (bytes : List ℕ) (taken : Taken) → wanted ≤ length now.passed → after ≡ emptied now
    → bytes ≡ take wanted now.passed → TakesBody old bytes taken new
    → HasCome limit stream (Reading wanted) old before → Handed before Part now
    → Takes limit stream taken new after
part_whole limit stream old new wanted before now after bytes taken whole after_is bytes_are takes
    come
    hands =
    subst (λ (p : Passage). Takes limit stream taken new p) (sym after_is)
    (body_taken limit stream old new wanted now taken whole
    (part_kept limit stream old wanted before now come hands)
    (subst (λ xs. TakesBody old xs taken new) bytes_are takes))

-- a message whose tail comes is whole
over_whole : (limit : ℕ) (shown : List ℕ) (left : Option ℕ) (kept : List ℕ) (P : Frame → Type 0)
    → IsOver limit shown left kept P → left ≡ Some 0
    → (frame : Frame) × IsFrame limit frame × (shown ≡ text frame) × P frame
over_whole limit shown left kept P is was =
    let kind = is.0 in
    let body = is.2 in
    let opened = is.3 in
    let count = some_some opened.more 0 (sym opened.left_is ∙ was) in
    let sizes : is.1 ≡ 4 + length body = omega (arith, opened.size_is, count) in (
      frame_of kind body,
      record {
        type_byte = opened.head.type_byte;
        size = omega (arith, sizes, opened.head.high);
        fits = omega (arith, sizes, opened.head.fits);
      },
      opened.shown_is ∙ ap (λ n. head_text kind n ++ body) sizes ∙ sym (text_is kind body),
      subst (λ xs. P (frame_of kind xs)) (append-nil body)
          (is.5 [] (ap (λ xs. 4 + length xs) (append-nil body) ∙ sym sizes)),
    )

stream_whole : (stream shown bytes bytes' : List ℕ) (frames : List Frame) (frame : Frame)
    → stream ≡ texts frames ++ (shown ++ bytes) → shown ≡ text frame → bytes' ≡ bytes
    → stream ≡ texts (frames ++ frame ∷ []) ++ bytes'
stream_whole stream shown bytes bytes' frames frame is shown_is bytes_are =
    is ∙ ap (λ xs. texts frames ++ (xs ++ bytes)) shown_is
    ∙ sym (append_assoc (texts frames) (text frame) bytes)
    ∙ ap (λ xs. xs ++ bytes) (sym (texts-push frames frame))
    ∙ ap (λ xs. texts (frames ++ frame ∷ []) ++ xs) (sym bytes_are)

-- the tail of a message
tail_here : (limit : ℕ) (stream : List ℕ) (place : LoginPlace) (login : Login)
    (before now : Passage)
    → HasCome limit stream place login before → Hands before (Some piece.Tail) now
    → Takes limit stream (after_tail place) login now
tail_here limit stream Between login before now come hands = tt
tail_here limit stream Passing login before now come hands =
    let whole = over_whole limit come.shown before.left before.passed
    (λ frame. GoesOn login (come.frames ++ frame ∷ [])) come.is_at hands.0 in
    let frame = whole.0 in
    record {
      limit_is = hands.4 ∙ come.limit_is;
      frames = come.frames ++ frame ∷ [];
      each = each-append (IsFrame limit) come.frames (frame ∷ []) come.each (whole.1, tt);
      shown = [];
      stream_is = stream_whole stream come.shown before.bytes now.bytes come.frames frame
          come.stream_is whole.2 hands.2;
      is_at = (whole.3, refl, hands.1, hands.3 ∙ come.is_at.4);
    }
tail_here limit stream (Reading wanted) login before now come hands = tt
tail_here limit stream (Up key) login before now come hands =
    let whole = over_whole limit come.shown before.left before.passed
    (λ frame. IsUpAt come.frames frame key) come.is_at hands.0 in
    let frame = whole.0 in
    record {
      frames = come.frames;
      ready = frame;
      each = each-append (IsFrame limit) come.frames (frame ∷ []) come.each (whole.1, tt);
      stream_is = stream_whole stream come.shown before.bytes now.bytes come.frames frame
          come.stream_is whole.2 hands.2;
      up = whole.3;
      left_is = hands.1;
      passed_is = hands.3 ∙ come.is_at.4;
    }

pub tail_taken : (limit : ℕ) (stream : List ℕ) (place : LoginPlace) (login : Login)
    (before now : Passage)
    (taken : Taken) → taken ≡ after_tail place → HasCome limit stream place login before
    → Hands before (Some piece.Tail) now → Takes limit stream taken login now
tail_taken limit stream place login before now taken is come hands =
    subst (λ (t : Taken). Takes limit stream t login now) (sym is)
    (tail_here limit stream place login before now come hands)

-- few bytes are kept
kept_few : (limit : ℕ) (place : LoginPlace) (login : Login) (frames : List Frame) (shown : List ℕ)
    (left : Option ℕ) (kept : List ℕ) → IsAt limit place login frames shown left kept
    → length kept ≤ 8
kept_few limit Between login frames shown left kept is = omega (arith, ap length is.3)
kept_few limit Passing login frames shown left kept is = omega (arith, ap length is.4)
kept_few limit (Reading wanted) login frames shown left kept is =
    let most = (part_size (head_of is.0 is.1) wanted is.7).1 in
    omega (arith, ap length is.4, is.5, most)
kept_few limit (Up key) login frames shown left kept is = omega (arith, ap length is.4)

pub come_few : (limit : ℕ) (stream : List ℕ) (place : LoginPlace) (login : Login)
    (passage : Passage)
    → HasCome limit stream place login passage → length passage.passed ≤ 8
come_few limit stream place login passage come =
    kept_few limit place login come.frames come.shown passage.left passage.passed come.is_at

-- so far these calls read the server's messages up to this place
pub record Coming {T : Type 0} (limit : ℕ) (wrote gave : Effect T) (old : T) (place : LoginPlace)
    (login : Login) (passage : Passage) (new : T) : Type 0 where
  pub calls : List Call
  pub made : Makes wrote gave old calls new
  pub stream : List ℕ
  pub read : Read stream calls
  pub come : HasCome limit stream place login passage

pub coming_start : {T : Type 0} (limit : ℕ) (wrote gave : Effect T) (old : T) (login : Login)
    (passage : Passage) → HasRead login [] → passage ≡ start limit
    → Coming limit wrote gave old Between login passage old
coming_start limit wrote gave old login passage none is =
    let here : HasCome limit [] Between login (start limit) = record {
      limit_is = refl;
      frames = [];
      each = tt;
      shown = [];
      stream_is = refl;
      is_at = ((none, tt), refl, refl, refl);
    } in
    record {
      calls = [];
      made = refl;
      stream = [];
      read = Read-nothing;
      come = subst (λ (p : Passage). HasCome limit [] Between login p) (sym is) here;
    }

-- more was read
fed_more : (limit : ℕ) (stream bytes : List ℕ) (place : LoginPlace) (login : Login)
    (passage : Passage)
    → HasCome limit stream place login passage
    → HasCome limit (stream ++ bytes) place login (fed passage bytes)
fed_more limit stream bytes place login passage come = record {
  limit_is = come.limit_is;
  frames = come.frames;
  each = come.each;
  shown = come.shown;
  stream_is = ap (λ xs. xs ++ bytes) come.stream_is
      ∙ append_assoc (texts come.frames) (come.shown ++ passage.bytes) bytes
      ∙ ap (λ xs. texts come.frames ++ xs) (append_assoc come.shown passage.bytes bytes);
  is_at = come.is_at;
}

pub coming_more : {T : Type 0} (limit : ℕ) (wrote gave : Effect T) (old new new' : T)
    (place place' : LoginPlace) (login login' : Login) (passage taken passage' : Passage)
    (so_far : Coming limit wrote gave old place login passage new)
    → HasCome limit so_far.stream place' login' taken
    → SomeCalls wrote gave new new'
    (λ calls. (bytes : List ℕ) × Read bytes calls × (passage' ≡ fed taken bytes))
    → Coming limit wrote gave old place' login' passage' new'
coming_more limit wrote gave old new new' place place' login login' passage taken passage' so_far
    come more =
    let bytes = more.2.0 in
    record {
      calls = so_far.calls ++ more.0;
      made = Makes-append wrote gave old new new' so_far.calls more.0 so_far.made more.1;
      stream = so_far.stream ++ bytes;
      read = Read-append so_far.stream bytes so_far.calls more.0 so_far.read more.2.1;
      come = subst (λ (p : Passage). HasCome limit (so_far.stream ++ bytes) place' login' p)
          (sym more.2.2) (fed_more limit so_far.stream bytes place' login' taken come);
    }

-- the link is up, and nothing more was read
coming_done : {T : Type 0} (limit : ℕ) (wrote gave : Effect T) (old new : T) (place : LoginPlace)
    (login : Login) (passage taken : Passage) (key : List ℕ)
    (so_far : Coming limit wrote gave old place login passage new)
    → IsDone limit so_far.stream key taken → taken ≡ start taken.limit
    → SomeCalls wrote gave old new (ReadsLogin limit key)
coming_done limit wrote gave old new place login passage taken key so_far done is =
    let whole : so_far.stream ≡ texts (done.frames ++ done.ready ∷ []) =
    done.stream_is ∙ ap (λ xs. texts (done.frames ++ done.ready ∷ []) ++ xs) (ap (λ p. p.bytes) is)
    ∙ append-nil (texts (done.frames ++ done.ready ∷ [])) in (
      so_far.calls,
      so_far.made,
      record {
        frames = done.frames;
        ready = done.ready;
        each = done.each;
        read = subst (λ xs. Read xs so_far.calls) whole so_far.read;
        up = done.up;
      },
    )

pub key_found : {T : Type 0} (limit : ℕ) (wrote gave : Effect T) (old new : T) (place : LoginPlace)
    (login : Login) (passage taken : Passage) (key : List ℕ) (result : Result (List ℕ) Stop)
    (so_far : Coming limit wrote gave old place login passage new)
    → IsDone limit so_far.stream key taken
    → IfOk result (λ found. (found ≡ key) × (taken ≡ start taken.limit))
    → IfOk result (λ found. SomeCalls wrote gave old new (ReadsLogin limit found))
key_found limit wrote gave old new place login passage taken key (Err stop) so_far done is = tt
key_found limit wrote gave old new place login passage taken key (Ok found) so_far done is =
    subst (λ (k : List ℕ). SomeCalls wrote gave old new (ReadsLogin limit k)) (sym is.0)
    (coming_done limit wrote gave old new place login passage taken key so_far done is.1)

-- the calls read what stopped the login
pub coming_stopped : {T : Type 0} (limit : ℕ) (wrote gave : Effect T) (old new : T)
    (place : LoginPlace) (login : Login) (passage taken : Passage) (stop : Stop)
    (so_far : Coming limit wrote gave old place login passage new)
    → StopsOn limit so_far.stream stop taken → StopsAt wrote gave old limit stop new taken
coming_stopped limit wrote gave old new place login passage taken why.Failed so_far stops = tt
coming_stopped limit wrote gave old new place login passage taken (why.Asks code) so_far stops = (
  so_far.calls,
  so_far.made,
  subst (λ xs. SaysAsks limit code xs) (sym so_far.read.whole) stops,
)
coming_stopped limit wrote gave old new place login passage taken (why.Error size) so_far stops = (
  so_far.calls,
  so_far.made,
  subst (λ xs. StopsWith limit 69 size taken.bytes xs) (sym so_far.read.whole) stops,
)

-- a result that says nothing of the server
pub failed_quietly : {T : Type 0} (limit : ℕ) (wrote gave : Effect T) (old new : T)
    (passage : Passage) (result : Result (List ℕ) Stop)
    → IfErr result (λ stop. stop ≡ why.Failed)
    → IfErr result (λ stop. StopsAt wrote gave old limit stop new passage)
failed_quietly limit wrote gave old new passage (Ok found) is = tt
failed_quietly limit wrote gave old new passage (Err stop) is =
    subst (λ (s : Stop). StopsAt wrote gave old limit s new passage) (sym is) tt

-- the StartupMessage was written whole before
pub logged_in : {T : Type 0} (limit at : ℕ) (wrote gave : Effect T) (old new new' : T)
    (request : List ℕ)
    (user database key : List ℕ) → at ≡ limit → request ≡ startup_request user database
    → SomeCalls wrote gave old new (Wrote request)
    → SomeCalls wrote gave new new' (ReadsLogin at key)
    → SomeCalls wrote gave old new' (LogsIn limit user database key)
logged_in limit at wrote gave old new new' request user database key limit_is is sent answered = (
  sent.0 ++ answered.0,
  Makes-append wrote gave old new new' sent.0 answered.0 sent.1 answered.1,
  record {
    sends = sent.0;
    reads = answered.0;
    all = refl;
    sent = subst (λ xs. Wrote xs sent.0) is sent.2;
    answered = subst (λ (n : ℕ). ReadsLogin n key answered.0) limit_is answered.2;
  },
)
