-- A reply is passed on as far as it was handed out, and more of it is read, or it ends.
use Rattle.std.proofs.Common.{◌≡◌, ◌≢◌, ◌⊎◌, inl, inr, true, false, is_some, ltb, ℕ, ◌-◌, ◌<◌, ◌≤◌, List, [], ◌∷◌, ◌++◌, length, take, drop, Option, Some, None, refl, sym, ap, ◌∙◌, subst, arith, append_assoc, append-nil, unwrap_or}
use Rattle.std.proofs.lemmas.Bool.{false≢true, le-ltb}
use Rattle.std.proofs.lemmas.List.{drop_all}
use Rattle.peer_forward.specs.Calls.{Call}
use Rattle.pg_frames.specs.declared.error.FrameError.{FrameError}
use Rattle.pg_frames.specs.FrameText.{texts, fault_at, HasFault}
use Rattle.pg_frames.specs.Passage.{Passage, head_text, after, fed, forgotten, HasNoNext, BeginsNoHead}
use Rattle.startup.specs.declared.error_code.ErrorCode.TheVariants.{ConnectionFailure}
use Rattle.session_io.specs.declared.session.place.Place.{Place}
use Rattle.session_io.specs.declared.session.place.Place.TheVariants.{Between, Inside, AtReady, Status}
use Rattle.session_io.specs.declared.session.outcome.Stayed.{Stayed}
use Rattle.session_io.specs.declared.session.outcome.Stayed.TheVariants.{End}
use Rattle.session_io.specs.StreamCalls.{Wrote, WroteSome, IsFailedRead}
use Rattle.session_io.specs.Asking.{IsError}
use Rattle.session_io.specs.Replying.{Faulty, Lost, Cut, Untold, IsForClient}
use Rattle.session_io.specs.Progress.{withheld, IsShown, HandedOut, EndsHere}
use Rattle.session_io.proofs.CallLists.{Read-nothing, ReadToEnd-failed}
use Rattle.session_io.proofs.FaultLemmas.{no_frame, fault_here, no_frame-nothing, fault_at-nothing}
use Rattle.session_io.proofs.EndLemmas.{front_is, last_is, ends_with}
use Rattle.session_io.proofs.StoppingLemmas.{stops_nothing}

none_some : (fault : FrameError) → None ≡ Some fault → ⊥
none_some fault e = cc

-- inside a frame of which nothing more is there, no fault stands
no_fault_inside : (limit : ℕ) (left : ℕ) (bytes : List ℕ) (fault : FrameError) → HasNoNext limit
    (Some left) bytes
    → HasFault limit (drop left bytes) (Some fault) → ⊥
no_fault_inside limit left bytes fault dry has =
    let nothing : drop left bytes ≡ [] =
    drop_all left bytes (omega (arith, ap length dry.1)) in
    none_some fault (sym (fault_at-nothing limit)
    ∙ fault_here limit [] (Some fault) (no_frame-nothing limit)
    (subst (λ xs. HasFault limit xs (Some fault)) nothing has))

-- what of the frame at a place is for the client
for_client : (limit : ℕ) (place : Place) (left : Option ℕ) (bytes shown : List ℕ)
    → IsShown limit place left shown
    → HasNoNext limit left bytes → IsForClient limit shown
for_client limit Between left bytes shown is dry = inl is.1
for_client limit Inside left bytes shown is dry =
    let some : 0 < is.3 = (subst (λ l. HasNoNext limit l bytes) is.7 dry).0 in
    inr (inl (
      is.0,
      is.1,
      is.2,
      record { head = is.4; means = is.5; more = omega (arith, some, is.8) },
      is.6,
    ))
for_client limit AtReady left bytes shown is dry = inl is.1
for_client limit (Status status) left bytes shown is dry = inl is.1

-- where nothing can be handed out of a passage of this limit
dry_at : (limit : ℕ) (passage : Passage) → passage.limit ≡ limit
    → HasNoNext passage.limit passage.left passage.bytes
    → HasNoNext limit passage.left passage.bytes
dry_at limit passage is dry =
    subst (λ (n : ℕ). HasNoNext n passage.left passage.bytes) is dry

-- what stands behind it
found_at : (limit : ℕ) (passage : Passage) (found : Option FrameError) → passage.limit ≡ limit
    → HasFault passage.limit (after passage) found → HasFault limit (after passage) found
found_at limit passage found is has =
    subst (λ (n : ℕ). HasFault n (after passage) found) is has

-- the client doesn't take what was handed out
pub untold_ends : (limit : ℕ) (stream written : List ℕ) (place : Place) (passage : Passage)
    (count : ℕ)
    (tells : List Call) (stayed : Stayed) → count ≡ length (withheld place)
    → HasNoNext passage.limit passage.left passage.bytes
    → WroteSome (take (length passage.passed - count) passage.passed) tells → stayed ≡ End []
    → HandedOut limit stream written place passage → EndsHere limit stream written [] tells stayed
untold_ends limit stream written place passage count tells stayed count_is dry told is out = (
  Untold out.shown (withheld place ++ passage.bytes),
  ends_with limit stream written out.frames (Untold out.shown (withheld place ++ passage.bytes))
      out.front [] tells tt out.each out.stream_is Read-nothing tt out.written_is
      (subst (λ xs. WroteSome xs tells)
      (front_is passage.passed out.front (withheld place) count out.passed_is count_is) told),
  (
    for_client limit place passage.left passage.bytes out.shown out.is_shown
        (dry_at limit passage out.limit_is dry),
    is,
  ),
)

-- a fault stands behind what was handed out
faulty_between : (limit : ℕ) (stream written : List ℕ) (passage : Passage) (fault : FrameError)
    (tells : List Call) (reply : List ℕ) (stayed : Stayed)
    → HandedOut limit stream written Between passage → HasNoNext limit passage.left passage.bytes
    → HasFault limit (after passage) (Some fault)
    → Wrote (take (length passage.passed - 0) passage.passed) tells
    → IsError ConnectionFailure reply → stayed ≡ End reply
    → EndsHere limit stream written [] tells stayed
faulty_between limit stream written passage fault tells reply stayed out dry has told error is =
    let none : BeginsNoHead limit passage.bytes =
    subst (λ l. HasNoNext limit l passage.bytes) out.is_shown.0 dry in
    let here : HasFault limit passage.bytes (Some fault) =
    subst (λ l. HasFault limit (drop (unwrap_or l 0) passage.bytes)
    (Some fault)) out.is_shown.0 has in (
      Faulty passage.bytes fault,
      ends_with limit stream written out.frames (Faulty passage.bytes fault) out.front [] tells tt
          out.each
          (out.stream_is ∙ ap (λ xs. texts out.frames ++ (xs ++ passage.bytes)) out.is_shown.1)
          Read-nothing (stops_nothing limit out.frames (Faulty passage.bytes fault) stream)
          (out.written_is ∙ ap (λ xs. texts out.frames ++ xs) out.is_shown.1
          ∙ append-nil (texts out.frames))
          (subst (λ xs. Wrote xs tells)
          (front_is passage.passed out.front [] 0 out.passed_is refl) told),
      (
        fault_here limit passage.bytes (Some fault) (no_frame limit passage.bytes none) here,
        (reply, error, is),
      ),
    )

fault_ends : (limit : ℕ) (stream written : List ℕ) (place : Place) (passage : Passage)
    (fault : FrameError)
    (tells : List Call) (reply : List ℕ) (stayed : Stayed)
    → HandedOut limit stream written place passage → HasNoNext limit passage.left passage.bytes
    → HasFault limit (after passage) (Some fault)
    → Wrote (take (length passage.passed - length (withheld place)) passage.passed) tells
    → IsError ConnectionFailure reply → stayed ≡ End reply
    → EndsHere limit stream written [] tells stayed
fault_ends limit stream written Between passage fault tells reply stayed out dry has told error is =
    faulty_between limit stream written passage fault tells reply stayed out dry has told error is
fault_ends limit stream written Inside passage fault tells reply stayed out dry has told error is =
    let left_is = out.is_shown.7 in absurd (no_fault_inside limit out.is_shown.3 passage.bytes fault
    (subst (λ l. HasNoNext limit l passage.bytes) left_is dry)
    (subst (λ l. HasFault limit (drop (unwrap_or l 0) passage.bytes) (Some fault)) left_is has))
fault_ends limit stream written AtReady passage fault tells reply stayed out dry has told error is =
    let left_is = out.is_shown.0 in absurd (no_fault_inside limit 1 passage.bytes fault
    (subst (λ l. HasNoNext limit l passage.bytes) left_is dry)
    (subst (λ l. HasFault limit (drop (unwrap_or l 0) passage.bytes) (Some fault)) left_is has))
fault_ends limit stream written (Status status) passage fault tells reply stayed out dry has told
    error
    is =
    let left_is = out.is_shown.0 in absurd (no_fault_inside limit 0 passage.bytes fault
    (subst (λ l. HasNoNext limit l passage.bytes) left_is dry)
    (subst (λ l. HasFault limit (drop (unwrap_or l 0) passage.bytes) (Some fault)) left_is has))

pub faulty_ends : (limit : ℕ) (stream written : List ℕ) (place : Place) (passage : Passage)
    (found : Option FrameError) (count : ℕ) (tells : List Call) (reply : List ℕ) (stayed : Stayed)
    → count ≡ length (withheld place) → is_some found ≡ true
    → HasNoNext passage.limit passage.left passage.bytes
    → HasFault passage.limit (after passage) found
    → Wrote (take (length passage.passed - count) passage.passed) tells
    → IsError ConnectionFailure reply → stayed ≡ End reply
    → HandedOut limit stream written place passage → EndsHere limit stream written [] tells stayed
faulty_ends limit stream written place passage None count tells reply stayed count_is some dry has
    told
    error is out = absurd (false≢true some)
faulty_ends limit stream written place passage (Some fault) count tells reply stayed count_is some
    dry
    has told error is out =
    fault_ends limit stream written place passage fault tells reply stayed out
    (dry_at limit passage out.limit_is dry)
    (found_at limit passage (Some fault) out.limit_is has)
    (subst (λ n. Wrote (take (length passage.passed - n) passage.passed) tells) count_is told)
    error is

-- the link is lost inside a frame that is passed on
pub cut_ends : (limit : ℕ) (stream written : List ℕ) (place : Place) (passage : Passage) (count : ℕ)
    (call : Call) (tells : List Call) (stayed : Stayed) → place ≡ Inside
    → count ≡ length (withheld place) → HasNoNext passage.limit passage.left passage.bytes
    → Wrote (take (length passage.passed - count) passage.passed) tells → IsFailedRead call
    → stayed ≡ End [] → HandedOut limit stream written place passage
    → EndsHere limit stream written (call ∷ []) tells stayed
cut_ends limit stream written place passage count call tells stayed inside count_is dry told failed
    is
    out =
    let here : HandedOut limit stream written Inside passage =
    subst (λ (p : Place). HandedOut limit stream written p passage) inside out in
    let zero_is : count ≡ 0 = count_is ∙ ap (λ p. length (withheld p)) inside in
    let was = here.is_shown in
    let now = subst (λ l. HasNoNext limit l passage.bytes) was.7
    (dry_at limit passage out.limit_is dry) in
    let some : 0 < was.3 = now.0 in
    let nothing : passage.bytes ≡ [] = now.1 in (
      Cut was.0 was.1 was.2,
      ends_with limit stream written here.frames (Cut was.0 was.1 was.2) here.front (call ∷ [])
          tells
          tt here.each
          (here.stream_is ∙ ap (λ xs. texts here.frames ++ (here.shown ++ xs)) nothing
          ∙ ap (λ xs. texts here.frames ++ xs) (append-nil here.shown ∙ was.6))
          (ReadToEnd-failed call failed) tt
          (here.written_is ∙ ap (λ xs. texts here.frames ++ xs) was.6)
          (subst (λ xs. Wrote xs tells)
          (front_is passage.passed here.front [] count here.passed_is zero_is) told),
      (record { head = was.4; means = was.5; more = omega (arith, some, was.8) }, is),
    )

-- the link is lost elsewhere
lost_at : (limit : ℕ) (stream written : List ℕ) (place : Place) (passage : Passage) (rest : List ℕ)
    (call : Call) (tells : List Call) (reply : List ℕ) (stayed : Stayed)
    (out : HandedOut limit stream written place passage) → out.shown ≡ []
    → withheld place ++ passage.bytes ≡ rest → BeginsNoHead limit rest ⊎ (rest ≡ head_text 90 5)
    → fault_at limit rest ≡ None
    → Wrote (take (length passage.passed - length (withheld place)) passage.passed) tells
    → IsFailedRead call → IsError ConnectionFailure reply → stayed ≡ End reply
    → EndsHere limit stream written (call ∷ []) tells stayed
lost_at limit stream written place passage rest call tells reply stayed out shown_is rest_is unbegun
    sound told failed error is = (
      Lost rest,
      ends_with limit stream written out.frames (Lost rest) out.front (call ∷ []) tells tt out.each
          (out.stream_is ∙ ap (λ xs. texts out.frames ++ (xs ++ (withheld place ++ passage.bytes)))
          shown_is ∙ ap (λ xs. texts out.frames ++ xs) rest_is)
          (ReadToEnd-failed call failed) tt
          (out.written_is ∙ ap (λ xs. texts out.frames ++ xs) shown_is
          ∙ append-nil (texts out.frames))
          (subst (λ xs. Wrote xs tells) (front_is passage.passed out.front (withheld place)
          (length (withheld place)) out.passed_is refl) told),
      (unbegun, sound, (reply, error, is)),
    )

-- the head of a ReadyForQuery is no fault
no_fault-ready : (limit : ℕ) → 5 ≤ limit → fault_at limit (head_text 90 5) ≡ None
unfolding fault_at
no_fault-ready limit enough =
    let test : ltb limit 5 ≡ false = le-ltb _ _ enough in rw test refl

-- no fault was found
pub none_found : (found : Option FrameError) → is_some found ≡ false → found ≡ None
none_found None clean = refl
none_found (Some fault) clean = absurd (false≢true (sym clean))

pub lost_ends : (limit : ℕ) (stream written : List ℕ) (place : Place) (passage : Passage)
    (found : Option FrameError) (count : ℕ)
    (call : Call) (tells : List Call) (reply : List ℕ) (stayed : Stayed) → place ≢ Inside
    → count ≡ length (withheld place) → is_some found ≡ false
    → HasFault passage.limit (after passage) found
    → HasNoNext passage.limit passage.left passage.bytes
    → Wrote (take (length passage.passed - count) passage.passed) tells → IsFailedRead call
    → IsError ConnectionFailure reply → stayed ≡ End reply
    → HandedOut limit stream written place passage
    → EndsHere limit stream written (call ∷ []) tells stayed
lost_ends limit stream written Between passage found count call tells reply stayed outside count_is
    clean
    has dry told failed error is out =
    let unbegun : BeginsNoHead limit passage.bytes =
    subst (λ l. HasNoNext limit l passage.bytes) out.is_shown.0
    (dry_at limit passage out.limit_is dry) in
    let here : HasFault limit passage.bytes found =
    subst (λ l. HasFault limit (drop (unwrap_or l 0) passage.bytes) found) out.is_shown.0
    (found_at limit passage found out.limit_is has) in
    lost_at limit stream written Between passage passage.bytes call tells reply stayed out
    out.is_shown.1
    refl (inl unbegun)
    (fault_here limit passage.bytes found (no_frame limit passage.bytes unbegun) here
    ∙ none_found found clean)
    (subst (λ n. Wrote (take (length passage.passed - n) passage.passed) tells) count_is told)
    failed error is
lost_ends limit stream written Inside passage found count call tells reply stayed outside count_is
    clean has
    dry told failed error is out = absurd (outside refl)
lost_ends limit stream written AtReady passage found count call tells reply stayed outside count_is
    clean has
    dry told failed error is out =
    let now = subst (λ l. HasNoNext limit l passage.bytes) out.is_shown.0
    (dry_at limit passage out.limit_is dry) in
    lost_at limit stream written AtReady passage (head_text 90 5) call tells reply stayed out
    out.is_shown.1 (ap (λ xs. head_text 90 5 ++ xs) now.1) (inr refl)
    (no_fault-ready limit out.is_shown.2)
    (subst (λ n. Wrote (take (length passage.passed - n) passage.passed) tells) count_is told)
    failed error is
lost_ends limit stream written (Status status) passage found count call tells reply stayed outside
    count_is clean has dry told failed error is out =
    let now = subst (λ l. HasNoNext limit l passage.bytes) out.is_shown.0
    (dry_at limit passage out.limit_is dry) in
    absurd (omega (arith, now.0))

-- more of the reply was read
pub more_read : (limit : ℕ) (stream written : List ℕ) (place : Place) (old new : Passage)
    (count : ℕ)
    (bytes : List ℕ) → count ≡ length (withheld place)
    → new ≡ fed (forgotten old (length old.passed - count)) bytes
    → HandedOut limit stream written place old
    → HandedOut limit (stream ++ bytes) (written ++ take (length old.passed - count) old.passed)
    place new
more_read limit stream written place old new count bytes count_is new_is out =
    let front = front_is old.passed out.front (withheld place) count out.passed_is count_is in
    let here : HandedOut limit (stream ++ bytes) (written ++ take (length old.passed - count)
    old.passed)
    place (fed (forgotten old (length old.passed - count)) bytes) = record {
      frames = out.frames;
      limit_is = out.limit_is;
      each = out.each;
      shown = out.shown;
      is_shown = out.is_shown;
      stream_is = ap (λ xs. xs ++ bytes) out.stream_is
          ∙ append_assoc (texts out.frames) (out.shown ++ (withheld place ++ old.bytes)) bytes
          ∙ ap (λ xs. texts out.frames ++ xs)
          (append_assoc out.shown (withheld place ++ old.bytes) bytes
          ∙ ap (λ xs. out.shown ++ xs) (append_assoc (withheld place) old.bytes bytes));
      front = [];
      passed_is = last_is old.passed out.front (withheld place) count out.passed_is count_is;
      written_is = append-nil (written ++ take (length old.passed - count) old.passed)
          ∙ ap (λ xs. written ++ xs) front ∙ out.written_is;
    } in
    subst (λ (p : Passage). HandedOut limit (stream ++ bytes)
    (written ++ take (length old.passed - count) old.passed) place p) (sym new_is) here
