-- A reply that isn't over yet: no whole reply stands in what was read.
use Rattle.std.proofs.Common.{◌≡◌, ◌⊎◌, inl, inr, ℕ, zero, suc, ◌+◌, ◌/◌, ◌%◌, ◌<◌, ◌≤◌, List, [], ◌∷◌, ◌++◌, length, take, drop, get_or, Option, None, unwrap_or, refl, sym, ap, ◌∙◌, subst, arith, append_assoc, append-nil, length-append, take-append-drop}
use Rattle.std.proofs.lemmas.List.{take-append-le, nil_from_length, drop_all}
use Rattle.std.specs.List.{AllByRecursion}
use Rattle.peer_forward.specs.Calls.{Call}
use Rattle.pg_frames.specs.declared.frame.Frame.{Frame}
use Rattle.pg_frames.specs.FrameText.{text, texts, IsFrame, fault_at, HasFault}
use Rattle.pg_frames.specs.Passage.{Passage, IsHead, head_text, after, HasNoNext}
use Rattle.client_state.specs.LinkMessage.{link_message}
use Rattle.client_state.specs.declared.link_message.LinkMessage.TheVariants.{PassOn, Ready as IsReady, Refused}
use Rattle.startup.specs.declared.error_code.ErrorCode.{ErrorCode}
use Rattle.session_io.specs.declared.session.place.Place.{Place}
use Rattle.session_io.specs.declared.session.place.Place.TheVariants.{Between, Inside, AtReady, Status}
use Rattle.session_io.specs.StreamCalls.{given, Read}
use Rattle.session_io.specs.declared.session.outcome.Stayed.{Stayed}
use Rattle.session_io.specs.Replying.{IsPassedOn, ReplyEnd, Ready, Unclear, Unfit, Faulty, Lost, Cut, Untold, heard, ReadsNoFurther, ReadsNoFault, StopsAt, EndsStay}
use Rattle.session_io.specs.Progress.{HasHead, withheld, IsShown, HandedOut}
use Rattle.pg_frames.proofs.TextLemmas.{same_front, text_is}
use Rattle.std.proofs.Math.Seq.{take-append_seam}
use Rattle.session_io.proofs.CallLists.{given-append}
use Rattle.session_io.proofs.FaultLemmas.{no_frame, fault_here, fault_at-nothing, no_fault-head}

-- of a reply this was read, nothing more of it can be handed out, and no fault stands behind that
pub record IsUnfinished (limit : ℕ) (stream : List ℕ) : Type 0 where
  pub written : List ℕ
  pub place : Place
  pub passage : Passage
  pub out : HandedOut limit stream written place passage
  pub dry : HasNoNext limit passage.left passage.bytes
  pub sound : HasFault limit (after passage) None

-- two heads at the front of one text are the same
same_head : (limit : ℕ) (kind size kind' size' : ℕ) (more more' : List ℕ) → IsHead limit kind size
    → IsHead limit kind' size' → head_text kind size ++ more ≡ head_text kind' size' ++ more'
    → (kind ≡ kind') × (size ≡ size') × (more ≡ more')
same_head limit kind size kind' size' more more' is is' e =
    let b3 : size / 16777216 % 256 ≡ size' / 16777216 % 256 = ap (λ xs. get_or xs 1 0) e in
    let b2 : size / 65536 % 256 ≡ size' / 65536 % 256 = ap (λ xs. get_or xs 2 0) e in
    let b1 : size / 256 % 256 ≡ size' / 256 % 256 = ap (λ xs. get_or xs 3 0) e in
    let b0 : size % 256 ≡ size' % 256 = ap (λ xs. get_or xs 4 0) e in
    (ap (λ xs. get_or xs 0 0) e, omega (arith, is.fits, is'.fits), ap (λ xs. drop 5 xs) e)

head_of : (limit : ℕ) (frame : Frame) → IsFrame limit frame → IsHead limit frame.kind
    (4 + length frame.body)
head_of limit frame is =
    record { type_byte = is.type_byte; low = omega arith; high = is.size; fits = is.fits }

-- the head of a ReadyForQuery
ready_head : (limit : ℕ) → 5 ≤ limit → IsHead limit 90 5
ready_head limit enough =
    record { type_byte = refl; low = omega arith; high = enough; fits = omega arith }

ready_is : link_message 90 5 ≡ IsReady
unfolding link_message
ready_is = refl

-- A head whose frame isn't passed on, and its status where it is that of a ReadyForQuery.
pub record IsOver (limit : ℕ) (kind size : ℕ) (more : List ℕ) : Type 0 where
  pub head : IsHead limit kind size
  pub not_passed : link_message kind size ≡ PassOn → ⊥
  pub status : link_message kind size ≡ IsReady → 0 < length more

pass_or_ready : PassOn ≡ IsReady → ⊥
pass_or_ready e = cc

pass_or_refused : (code : ErrorCode) → PassOn ≡ Refused code → ⊥
pass_or_refused code e = cc

ready_or_refused : (code : ErrorCode) → IsReady ≡ Refused code → ⊥
ready_or_refused code e = cc

pub ready_over : (limit : ℕ) (status : ℕ) → 5 ≤ limit → IsOver limit 90 5 (status ∷ [])
ready_over limit status enough = record {
  head = ready_head limit enough;
  not_passed = λ e. pass_or_ready (sym e ∙ ready_is);
  status = λ _. omega arith;
}

pub unfit_over : (limit : ℕ) (kind size : ℕ) (code : ErrorCode) → IsHead limit kind size
    → link_message kind size ≡ Refused code → IsOver limit kind size []
unfit_over limit kind size code head refused = record {
  head = head;
  not_passed = λ e. pass_or_refused code (sym e ∙ refused);
  status = λ e. absurd (ready_or_refused code (sym e ∙ refused));
}

-- what is read of the frame at a place isn't a head that isn't passed on
head_misses : (limit : ℕ) (place : Place) (left : Option ℕ) (bytes shown : List ℕ) (kind size : ℕ)
    (more after : List ℕ) → IsShown limit place left shown → HasNoNext limit left bytes
    → IsOver limit kind size more
    → shown ++ (withheld place ++ bytes) ≡ (head_text kind size ++ more) ++ after → ⊥
head_misses limit Between left bytes shown kind size more after is dry over e =
    subst (λ l. HasNoNext limit l bytes) is.0 dry kind size (more ++ after) over.head
    (ap (λ xs. xs ++ bytes) (sym is.1) ∙ e ∙ append_assoc (head_text kind size) more after)
head_misses limit Inside left bytes shown kind size more after is dry over e =
    let same = same_head limit is.0 is.1 kind size (is.2 ++ bytes) (more ++ after) is.4 over.head
    (sym (append_assoc (head_text is.0 is.1) is.2 bytes) ∙ ap (λ xs. xs ++ bytes) (sym is.6) ∙ e
    ∙ append_assoc (head_text kind size) more after) in
    over.not_passed (ap (λ k. link_message k size) (sym same.0)
    ∙ ap (λ n. link_message is.0 n) (sym same.1) ∙ is.5)
head_misses limit AtReady left bytes shown kind size more after is dry over e =
    let nothing = (subst (λ l. HasNoNext limit l bytes) is.0 dry).1 in
    let same = same_head limit 90 5 kind size [] (more ++ after) (ready_head limit is.2) over.head
    (ap (λ xs. head_text 90 5 ++ xs) (sym nothing)
    ∙ ap (λ xs. xs ++ (head_text 90 5 ++ bytes)) (sym is.1) ∙ e
    ∙ append_assoc (head_text kind size) more after) in
    let some : 0 < length more = over.status (ap (λ k. link_message k size) (sym same.0)
    ∙ ap (λ n. link_message 90 n) (sym same.1) ∙ ready_is) in
    omega (arith, some, ap length same.2, length-append more after)
head_misses limit (Status status) left bytes shown kind size more after is dry over e =
    let none = (subst (λ l. HasNoNext limit l bytes) is.0 dry).0 in omega (arith, none)

-- nor a whole frame that is passed on
frame_misses : (limit : ℕ) (place : Place) (left : Option ℕ) (bytes shown : List ℕ) (frame : Frame)
    (after : List ℕ) → IsShown limit place left shown → HasNoNext limit left bytes
    → IsPassedOn limit frame
    → shown ++ (withheld place ++ bytes) ≡ text frame ++ after → ⊥
frame_misses limit Between left bytes shown frame after is dry passed e =
    subst (λ l. HasNoNext limit l bytes) is.0 dry frame.kind (4 + length frame.body)
    (frame.body ++ after)
    (head_of limit frame passed.is_frame)
    (ap (λ xs. xs ++ bytes) (sym is.1) ∙ e ∙ text_is frame after)
frame_misses limit Inside left bytes shown frame after is dry passed e =
    let now = subst (λ l. HasNoNext limit l bytes) is.7 dry in
    let same = same_head limit is.0 is.1 frame.kind (4 + length frame.body) (is.2 ++ bytes)
    (frame.body ++ after) is.4 (head_of limit frame passed.is_frame)
    (sym (append_assoc (head_text is.0 is.1) is.2 bytes) ∙ ap (λ xs. xs ++ bytes) (sym is.6) ∙ e
    ∙ text_is frame after) in
    omega (
      arith,
      now.0,
      is.8,
      same.1,
      ap length same.2,
      ap length now.1,
      length-append is.2 bytes,
      length-append frame.body after,
    )
frame_misses limit AtReady left bytes shown frame after is dry passed e =
    let same = same_head limit 90 5 frame.kind (4 + length frame.body) bytes (frame.body ++ after)
    (ready_head limit is.2) (head_of limit frame passed.is_frame)
    (ap (λ xs. xs ++ (head_text 90 5 ++ bytes)) (sym is.1) ∙ e ∙ text_is frame after) in
    pass_or_ready (sym passed.means ∙ ap (λ k. link_message k (4 + length frame.body)) (sym same.0)
    ∙ ap (λ n. link_message 90 n) (sym same.1) ∙ ready_is)
frame_misses limit (Status status) left bytes shown frame after is dry passed e =
    let none = (subst (λ l. HasNoNext limit l bytes) is.0 dry).0 in omega (arith, none)

-- what is read of a reply that isn't over isn't a reply
misses : (limit : ℕ) (place : Place) (left : Option ℕ) (bytes shown : List ℕ) (kind size : ℕ)
    (more after : List ℕ) → IsShown limit place left shown → HasNoNext limit left bytes
    → IsOver limit kind size more
    → (mine frames : List Frame) → AllByRecursion (IsPassedOn limit) mine
    → AllByRecursion (IsPassedOn limit) frames
    → texts mine ++ (shown ++ (withheld place ++ bytes))
    ≡ texts frames ++ ((head_text kind size ++ more) ++ after) → ⊥
misses limit place left bytes shown kind size more after is dry over [] [] each each' e =
    head_misses limit place left bytes shown kind size more after is dry over e
misses limit place left bytes shown kind size more after is dry over [] (frame ∷ frames) each each'
    e =
    frame_misses limit place left bytes shown frame
    (texts frames ++ ((head_text kind size ++ more) ++ after)) is dry each'.0
    (e ∙ append_assoc (text frame) (texts frames) ((head_text kind size ++ more) ++ after))
misses limit place left bytes shown kind size more after is dry over (frame ∷ mine) [] each each' e
    =
    let rest = shown ++ (withheld place ++ bytes) in
    let same = same_head limit frame.kind (4 + length frame.body) kind size
    (frame.body ++ (texts mine ++ rest)) (more ++ after) (head_of limit frame each.0.is_frame)
    over.head
    (sym (text_is frame (texts mine ++ rest)) ∙ sym (append_assoc (text frame) (texts mine) rest)
    ∙ e ∙ append_assoc (head_text kind size) more after) in
    over.not_passed (ap (λ k. link_message k size) (sym same.0)
    ∙ ap (λ n. link_message frame.kind n) (sym same.1) ∙ each.0.means)
misses limit place left bytes shown kind size more after is dry over (frame ∷ mine) (frame' ∷
    frames) each
    each' e =
    let rest = shown ++ (withheld place ++ bytes) in
    let last = (head_text kind size ++ more) ++ after in
    let same = same_front limit frame frame' (texts mine ++ rest) (texts frames ++ last)
    each.0.is_frame
    each'.0.is_frame (sym (append_assoc (text frame) (texts mine) rest) ∙ e
    ∙ append_assoc (text frame') (texts frames) last) in
    misses limit place left bytes shown kind size more after is dry over mine frames each.1 each'.1
    same.1

less_or_not : (a b : ℕ) → (a < b) ⊎ (b ≤ a)
less_or_not a zero = inr (omega arith)
less_or_not zero (suc b) = inl (omega arith)
less_or_not (suc a) (suc b) = elim (less_or_not a b) [
  | inl less ↦ inl (omega (arith, less))
  | inr not ↦ inr (omega (arith, not))
]

-- so a reply that was read later is longer than that
pub is_longer : (limit : ℕ) (stream bytes : List ℕ) (frames : List Frame) (kind size : ℕ)
    (more after : List ℕ)
    → IsUnfinished limit stream → AllByRecursion (IsPassedOn limit) frames
    → IsOver limit kind size more
    → stream ++ bytes ≡ texts frames ++ ((head_text kind size ++ more) ++ after)
    → length stream < length (texts frames ++ (head_text kind size ++ more))
is_longer limit stream bytes frames kind size more after unfinished each over e =
    let whole : List ℕ = texts frames ++ (head_text kind size ++ more) in
    let all : stream ++ bytes ≡ whole ++ after =
    e ∙ sym (append_assoc (texts frames) (head_text kind size ++ more) after) in
    elim (less_or_not (length stream) (length whole)) [
      | inl less ↦ less
      | inr not ↦
          let front : take (length whole) stream ≡ whole =
          sym (take-append-le (length whole) stream bytes not) ∙ ap (take (length whole)) all
          ∙ take-append_seam whole after in
          let is : stream ≡ whole ++ drop (length whole) stream =
          sym (take-append-drop (length whole) stream)
          ∙ ap (λ xs. xs ++ drop (length whole) stream) front in
          let out = unfinished.out in
          absurd
          (misses limit unfinished.place unfinished.passage.left unfinished.passage.bytes
          out.shown
          kind size more (drop (length whole) stream) out.is_shown unfinished.dry over out.frames
          frames out.each each
          (sym out.stream_is ∙ is ∙ append_assoc (texts frames) (head_text kind size ++ more)
          (drop (length whole) stream)))
    ]

-- no fault stands in what is read of the frame at a place
no_fault_shown : (limit : ℕ) (place : Place) (left : Option ℕ) (bytes shown : List ℕ)
    → IsShown limit place left shown → HasNoNext limit left bytes
    → HasFault limit (drop (unwrap_or left 0) bytes) None
    → fault_at limit (shown ++ (withheld place ++ bytes)) ≡ None
no_fault_shown limit Between left bytes shown is dry sound =
    ap (λ xs. fault_at limit (xs ++ bytes)) is.1
    ∙ fault_here limit bytes None
    (no_frame limit bytes (subst (λ l. HasNoNext limit l bytes) is.0 dry))
    (subst (λ l. HasFault limit (drop (unwrap_or l 0) bytes) None) is.0 sound)
no_fault_shown limit Inside left bytes shown is dry sound =
    ap (λ xs. fault_at limit (xs ++ bytes)) is.6
    ∙ ap (fault_at limit) (append_assoc (head_text is.0 is.1) is.2 bytes)
    ∙ no_fault-head limit is.0 is.1 (is.2 ++ bytes) is.4
no_fault_shown limit AtReady left bytes shown is dry sound =
    ap (λ xs. fault_at limit (xs ++ (head_text 90 5 ++ bytes))) is.1
    ∙ no_fault-head limit 90 5 bytes (ready_head limit is.2)
no_fault_shown limit (Status status) left bytes shown is dry sound =
    let none = (subst (λ l. HasNoNext limit l bytes) is.0 dry).0 in absurd (omega (arith, none))

-- nor behind frames that are passed on
no_fault_behind : (limit : ℕ) (place : Place) (left : Option ℕ) (bytes shown rest : List ℕ)
    → IsShown limit place left shown → HasNoNext limit left bytes
    → HasFault limit (drop (unwrap_or left 0) bytes) None
    → (mine frames : List Frame) → AllByRecursion (IsPassedOn limit) mine
    → AllByRecursion (IsPassedOn limit) frames
    → texts mine ++ (shown ++ (withheld place ++ bytes)) ≡ texts frames ++ rest
    → fault_at limit rest ≡ None
no_fault_behind limit place left bytes shown rest is dry sound [] [] each each' e =
    ap (fault_at limit) (sym e) ∙ no_fault_shown limit place left bytes shown is dry sound
no_fault_behind limit place left bytes shown rest is dry sound [] (frame ∷ frames) each each' e =
    absurd (frame_misses limit place left bytes shown frame (texts frames ++ rest) is dry each'.0
    (e ∙ append_assoc (text frame) (texts frames) rest))
no_fault_behind limit place left bytes shown rest is dry sound (frame ∷ mine) [] each each' e =
    let there = shown ++ (withheld place ++ bytes) in
    ap (fault_at limit) (sym e ∙ append_assoc (text frame) (texts mine) there
    ∙ text_is frame (texts mine ++ there))
    ∙ no_fault-head limit frame.kind (4 + length frame.body) (frame.body ++ (texts mine ++ there))
    (head_of limit frame each.0.is_frame)
no_fault_behind limit place left bytes shown rest is dry sound (frame ∷ mine) (frame' ∷ frames) each
    each' e =
    let there = shown ++ (withheld place ++ bytes) in
    let same = same_front limit frame frame' (texts mine ++ there) (texts frames ++ rest)
    each.0.is_frame
    each'.0.is_frame (sym (append_assoc (text frame) (texts mine) there) ∙ e
    ∙ append_assoc (text frame') (texts frames) rest) in
    no_fault_behind limit place left bytes shown rest is dry sound mine frames each.1 each'.1 same.1

-- so no fault was there before what was read later
no_fault_yet : (limit : ℕ) (stream bytes : List ℕ) (frames : List Frame) (rest : List ℕ)
    → IsUnfinished limit stream → AllByRecursion (IsPassedOn limit) frames
    → stream ++ bytes ≡ texts frames ++ rest
    → fault_at limit (drop (length (texts frames)) stream) ≡ None
no_fault_yet limit stream bytes frames rest unfinished each e =
    let whole : List ℕ = texts frames in
    elim (less_or_not (length stream) (length whole)) [
      | inl less ↦
          ap (fault_at limit) (drop_all (length whole) stream (omega (arith, less)))
          ∙ fault_at-nothing limit
      | inr not ↦
          let front : take (length whole) stream ≡ whole =
          sym (take-append-le (length whole) stream bytes not) ∙ ap (take (length whole)) e
          ∙ take-append_seam whole rest in
          let is : stream ≡ whole ++ drop (length whole) stream =
          sym (take-append-drop (length whole) stream)
          ∙ ap (λ xs. xs ++ drop (length whole) stream) front in
          let out = unfinished.out in
          no_fault_behind limit unfinished.place unfinished.passage.left unfinished.passage.bytes
          out.shown (drop (length whole) stream) out.is_shown unfinished.dry unfinished.sound
          out.frames frames out.each each (sym out.stream_is ∙ is)
    ]

no_last : (earlier : List Call) (last : Call) → [] ≡ earlier ++ last ∷ [] → ⊥
no_last earlier last e = omega (arith, ap length e, length-append earlier (last ∷ []))

-- where nothing is read, nothing is read behind the end
pub stops_nothing : (limit : ℕ) (frames : List Frame) (end : ReplyEnd) (before : List ℕ)
    → StopsAt limit frames end before []
stops_nothing limit frames (Ready status after) before = λ earlier last e. absurd (no_last earlier last e)
stops_nothing limit frames (Unclear status after) before =
    λ earlier last e. absurd (no_last earlier last e)
stops_nothing limit frames (Unfit kind size after) before =
    λ earlier last e. absurd (no_last earlier last e)
stops_nothing limit frames (Faulty rest fault) before =
    λ earlier last e. absurd (no_last earlier last e)
stops_nothing limit frames (Lost rest) before = tt
stops_nothing limit frames (Cut kind size body) before = tt
stops_nothing limit frames (Untold begun after) before = tt

-- the last of some calls after others is one of them, or the last of the others
split_last : (xs ys earlier : List Call) (last : Call) → xs ++ ys ≡ earlier ++ last ∷ []
    → ((ys ≡ []) × (xs ≡ earlier ++ last ∷ []))
    ⊎ ((more : List Call) × (ys ≡ more ++ last ∷ []) × (earlier ≡ xs ++ more))
split_last [] ys earlier last e = inr (earlier, e, refl)
split_last (x ∷ xs) ys [] last e =
    let nothing : xs ++ ys ≡ [] = ap (drop 1) e in
    let none : length xs + length ys ≡ 0 = sym (length-append xs ys) ∙ ap length nothing in
    let no_xs : xs ≡ [] = nil_from_length xs (omega (arith, none)) in
    let no_ys : ys ≡ [] = nil_from_length ys (omega (arith, none)) in
    let heads : x ≡ last = ap (λ zs. get_or zs 0 x) e in
    inl (no_ys, ap (λ z. z ∷ xs) heads ∙ ap (λ zs. last ∷ zs) no_xs)
split_last (x ∷ xs) ys (y ∷ earlier) last e =
    let heads : x ≡ y = ap (λ zs. get_or zs 0 x) e in
    elim (split_last xs ys earlier last (ap (drop 1) e)) [
      | inl is ↦ inl (is.0, ap (λ z. z ∷ xs) heads ∙ ap (λ zs. y ∷ zs) is.1)
      | inr is ↦ inr (
        is.0,
        is.1,
        ap (λ zs. y ∷ zs) is.2 ∙ ap (λ z. z ∷ (xs ++ is.0)) (sym heads),
      )
    ]

-- before each of these reads the reply wasn't over
abbrev pub Unfinished : ℕ → List ℕ → List Call → Type 0
Unfinished limit before reads = (earlier : List Call) (last : Call) → reads ≡ earlier ++ last ∷ []
    → IsUnfinished limit (before ++ given earlier)

pub unfinished_none : (limit : ℕ) (before : List ℕ) → Unfinished limit before []
unfinished_none limit before earlier last e = absurd (no_last earlier last e)

-- one read more, where the reply isn't over
pub unfinished_more : (limit : ℕ) (before bytes : List ℕ) (reads : List Call) (call : Call)
    → Read bytes reads
    → IsUnfinished limit (before ++ bytes) → Unfinished limit before (reads ++ call ∷ [])
unfinished_more limit before bytes reads call read is earlier last e =
    elim (split_last reads (call ∷ []) earlier last e) [
      | inl none ↦ absurd (no_last [] call (sym none.0))
      | inr last_is ↦
          let none : length last_is.0 ≡ 0 =
          omega (arith, ap length last_is.1, length-append last_is.0 (last ∷ [])) in
          let same : earlier ≡ reads =
          last_is.2 ∙ ap (λ xs. reads ++ xs) (nil_from_length last_is.0 none) ∙ append-nil reads in
          subst (λ xs. IsUnfinished limit (before ++ xs)) (sym read.whole ∙ ap given (sym same)) is
    ]

-- a head that isn't passed on is refused, and one of a ReadyForQuery is of the format
abbrev pub CanEnd : ℕ → ReplyEnd → Type 0
CanEnd limit (Unfit kind size after) = (code : ErrorCode) × IsHead limit kind size
    × (link_message kind size ≡ Refused code)
CanEnd limit (Ready status after) = 5 ≤ limit
CanEnd limit (Unclear status after) = 5 ≤ limit
CanEnd limit (Faulty rest fault) = Unit {0}
CanEnd limit (Lost rest) = Unit {0}
CanEnd limit (Cut kind size body) = Unit {0}
CanEnd limit (Untold begun after) = Unit {0}

pub can_end : (limit : ℕ) (end : ReplyEnd) (stayed : Stayed) → HasHead limit end
    → EndsStay limit end stayed → CanEnd limit end
can_end limit (Unfit kind size after) stayed head ends = (ends.0, ends.1, ends.2)
can_end limit (Ready status after) stayed head ends = head
can_end limit (Unclear status after) stayed head ends = head
can_end limit (Faulty rest fault) stayed head ends = tt
can_end limit (Lost rest) stayed head ends = tt
can_end limit (Cut kind size body) stayed head ends = tt
can_end limit (Untold begun after) stayed head ends = tt

-- nothing was read behind the end, before these reads or with them
no_further : (limit : ℕ) (frames : List Frame) (kind size : ℕ)
    (more after before bytes rest : List ℕ)
    (xs reads : List Call) → AllByRecursion (IsPassedOn limit) frames → IsOver limit kind size more
    → Read bytes xs → Unfinished limit before xs
    → (before ++ bytes) ++ rest ≡ texts frames ++ ((head_text kind size ++ more) ++ after)
    → ReadsNoFurther (texts frames ++ (head_text kind size ++ more)) (before ++ bytes) reads
    → ReadsNoFurther (texts frames ++ (head_text kind size ++ more)) before (xs ++ reads)
no_further limit frames kind size more after before bytes rest xs reads each over read unfinished
    is stops
    earlier last e = elim (split_last xs reads earlier last e) [
      | inl at ↦
          let parts : bytes ≡ given earlier ++ given (last ∷ []) =
          sym read.whole ∙ ap given at.1 ∙ given-append earlier (last ∷ []) in
          is_longer limit (before ++ given earlier) (given (last ∷ []) ++ rest) frames kind size
          more after
          (unfinished earlier last at.1) each over
          (sym (append_assoc (before ++ given earlier) (given (last ∷ [])) rest)
          ∙ ap (λ ys. ys ++ rest) (append_assoc before (given earlier) (given (last ∷ [])))
          ∙ ap (λ ys. (before ++ ys) ++ rest) (sym parts) ∙ is)
      | inr at ↦
          let same : before ++ given earlier ≡ (before ++ bytes) ++ given at.0 =
          ap (λ ys. before ++ given ys) at.2 ∙ ap (λ ys. before ++ ys) (given-append xs at.0)
          ∙ ap (λ ys. before ++ (ys ++ given at.0)) read.whole
          ∙ sym (append_assoc before bytes (given at.0)) in
          subst (λ ys. length ys < length (texts frames ++ (head_text kind size ++ more)))
          (sym same)
          (stops at.0 last at.1)
    ]

-- no read was made behind a fault, before these reads or with them
faultless : (limit : ℕ) (frames : List Frame) (rest before bytes more : List ℕ)
    (xs reads : List Call) → AllByRecursion (IsPassedOn limit) frames
    → Read bytes xs → Unfinished limit before xs
    → (before ++ bytes) ++ more ≡ texts frames ++ rest
    → ReadsNoFault limit (texts frames) (before ++ bytes) reads
    → ReadsNoFault limit (texts frames) before (xs ++ reads)
faultless limit frames rest before bytes more xs reads each read unfinished is stops earlier last e
    =
    elim (split_last xs reads earlier last e) [
      | inl at ↦
          let parts : bytes ≡ given earlier ++ given (last ∷ []) =
          sym read.whole ∙ ap given at.1 ∙ given-append earlier (last ∷ []) in
          no_fault_yet limit (before ++ given earlier) (given (last ∷ []) ++ more) frames rest
          (unfinished earlier last at.1) each
          (sym (append_assoc (before ++ given earlier) (given (last ∷ [])) more)
          ∙ ap (λ ys. ys ++ more) (append_assoc before (given earlier) (given (last ∷ [])))
          ∙ ap (λ ys. (before ++ ys) ++ more) (sym parts) ∙ is)
      | inr at ↦
          let same : before ++ given earlier ≡ (before ++ bytes) ++ given at.0 =
          ap (λ ys. before ++ given ys) at.2 ∙ ap (λ ys. before ++ ys) (given-append xs at.0)
          ∙ ap (λ ys. before ++ (ys ++ given at.0)) read.whole
          ∙ sym (append_assoc before bytes (given at.0)) in
          subst (λ ys. fault_at limit (drop (length (texts frames)) ys) ≡ None) (sym same)
          (stops at.0 last at.1)
    ]

pub stops_after : (limit : ℕ) (frames : List Frame) (end : ReplyEnd) (before bytes rest : List ℕ)
    (xs reads : List Call) → AllByRecursion (IsPassedOn limit) frames → CanEnd limit end
    → Read bytes xs
    → Unfinished limit before xs → (before ++ bytes) ++ rest ≡ heard frames end
    → StopsAt limit frames end (before ++ bytes) reads
    → StopsAt limit frames end before (xs ++ reads)
stops_after limit frames (Ready status after) before bytes rest xs reads each can read unfinished
    is stops =
    no_further limit frames 90 5 (status ∷ []) after before bytes rest xs reads each (ready_over
    limit status can)
    read unfinished is stops
stops_after limit frames (Unclear status after) before bytes rest xs reads each can read unfinished
    is stops =
    no_further limit frames 90 5 (status ∷ []) after before bytes rest xs reads each (ready_over
    limit status can)
    read unfinished is stops
stops_after limit frames (Unfit kind size after) before bytes rest xs reads each can read
    unfinished is stops =
    let none : head_text kind size ++ [] ≡ head_text kind size = append-nil (head_text kind size) in
    subst (λ ys. ReadsNoFurther (texts frames ++ ys) before (xs ++ reads)) none
    (no_further limit frames kind size [] after before bytes rest xs reads each
    (unfit_over limit kind size can.0 can.1 can.2) read unfinished
    (is ∙ ap (λ ys. texts frames ++ (ys ++ after)) (sym none))
    (subst (λ ys. ReadsNoFurther (texts frames ++ ys) (before ++ bytes) reads) (sym none) stops))
stops_after limit frames (Faulty rest' fault) before bytes rest xs reads each can read unfinished
    is stops =
    faultless limit frames rest' before bytes rest xs reads each read unfinished is stops
stops_after limit frames (Lost rest') before bytes rest xs reads each can read unfinished is stops
    = tt
stops_after limit frames (Cut kind size body) before bytes rest xs reads each can read unfinished
    is stops = tt
stops_after limit frames (Untold begun after) before bytes rest xs reads each can read unfinished
    is stops = tt
