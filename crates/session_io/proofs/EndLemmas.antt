-- How a reply ends, by what was handed out of it and what the client took.
use Rattle.std.proofs.Common.{IfSome, ◌≡◌, inl, inr, ℕ, ◌-◌, ◌≤◌, List, [], ◌++◌, length, take, drop, Option, Some, None, refl, sym, ap, ◌∙◌, subst, arith, append_assoc, append-nil, length-append}
use Rattle.std.proofs.Math.Seq.{take-append_seam}
use Rattle.std.proofs.lemmas.List.{drop_all, drop-append-le}
use Rattle.std.specs.List.{AllByRecursion}
use Rattle.peer_forward.specs.Calls.{Call, Effect}
use Rattle.pg_frames.specs.declared.frame.Frame.{Frame}
use Rattle.pg_frames.specs.FrameText.{text, texts}
use Rattle.pg_frames.specs.Passage.{Passage, head_text}
use Rattle.startup.specs.declared.error_code.ErrorCode.TheVariants.{ConnectionFailure}
use Rattle.client_state.specs.Acts.{ready_text, act_on_status, IsReadyAct, ready_act}
use Rattle.client_state.specs.Session.{Session}
use Rattle.client_state.specs.declared.act.Act.{Act}
use Rattle.client_state.specs.declared.act.Act.TheVariants.{Release as ReleaseAct, ToClient, Close as CloseAct}
use Rattle.client_state.specs.LinkMessage.{status_of}
use Rattle.client_state.specs.declared.link_message.Status.{Status}
use Rattle.client_state.specs.declared.link_message.Status.TheVariants.{Idle, InTransaction, Unknown}
use Rattle.session_io.specs.declared.session.outcome.Stayed.{Stayed}
use Rattle.session_io.specs.declared.session.outcome.Stayed.TheVariants.{End}
use Rattle.session_io.specs.StreamCalls.{SomeCalls, Wrote, WroteSome}
use Rattle.session_io.specs.Asking.{IsError}
use Rattle.session_io.specs.Replying.{IsPassedOn, ReplyEnd, Ready, Unclear, Unfit, Untold, heard, passed_on, ReadsReply, StopsAt, WritesReply, ready_outcome}
use Rattle.session_io.specs.Progress.{HasHead, HandedLast, HandedUnfit, Finishes, EndsHere, GoesOn, Refuses, FinishesIdle, FinishesOpen}
use Rattle.session_io.proofs.CallLists.{Read-nothing}
use Rattle.session_io.proofs.StoppingLemmas.{stops_nothing}

-- what is passed on where the last bytes are withheld
pub front_is : (passed front last : List ℕ) (count : ℕ) → passed ≡ front ++ last
    → count ≡ length last → take (length passed - count) passed ≡ front
front_is passed front last count is len =
    let size : length passed - count ≡ length front =
    omega (arith, ap length is, length-append front last, len) in
    ap (λ n. take n passed) size ∙ ap (take (length front)) is ∙ take-append_seam front last

pub last_is : (passed front last : List ℕ) (count : ℕ) → passed ≡ front ++ last
    → count ≡ length last → drop (length passed - count) passed ≡ last
last_is passed front last count is len =
    let size : length passed - count ≡ length front =
    omega (arith, ap length is, length-append front last, len) in
    ap (λ n. drop n passed) size ∙ ap (drop (length front)) is ∙ drop_front front last
  where
    drop_front : (xs ys : List ℕ) → drop (length xs) (xs ++ ys) ≡ ys
    drop_front xs ys = drop-append-le (length xs) xs ys (omega arith)
        ∙ ap (λ zs. zs ++ ys) (drop_all (length xs) xs (omega arith))

-- there are as many bytes as are withheld
pub enough : (passed front last : List ℕ) → passed ≡ front ++ last → length last ≤ length passed
enough passed front last is = omega (arith, ap length is, length-append front last)

-- a reply that ends where nothing more came of it
pub ends_with : (limit : ℕ) (stream written : List ℕ) (frames : List Frame) (end : ReplyEnd)
    (text : List ℕ)
    (reads tells : List Call) → HasHead limit end → AllByRecursion (IsPassedOn limit) frames
    → stream ≡ heard frames end
    → ReadsReply end [] reads → StopsAt limit frames end stream reads
    → written ++ text ≡ passed_on frames end → WritesReply end text tells
    → Finishes limit stream written end reads tells
ends_with limit stream written frames end text reads tells head each stream_is read stops text_is
    told =
    record {
      head = head;
      frames = frames;
      each = each;
      bytes = [];
      bytes_are = append-nil stream ∙ stream_is;
      read = read;
      stops = stops;
      text = text;
      text_is = text_is;
      told = told;
    }

-- a reply that ends where nothing more is read of it
ends_now : (limit : ℕ) (stream written : List ℕ) (frames : List Frame) (end : ReplyEnd)
    (text : List ℕ)
    (tells : List Call) → HasHead limit end → AllByRecursion (IsPassedOn limit) frames
    → stream ≡ heard frames end
    → ReadsReply end [] [] → written ++ text ≡ passed_on frames end → WritesReply end text tells
    → Finishes limit stream written end [] tells
ends_now limit stream written frames end text tells head each stream_is read text_is told =
    ends_with limit stream written frames end text [] tells head each stream_is read
    (stops_nothing limit frames end stream) text_is told

-- a ReadyForQuery that the client took
pub ready_told : (limit : ℕ) (stream written : List ℕ) (status : ℕ) (passage : Passage)
    (tells : List Call)
    → HandedLast limit stream written (ready_text status) passage → Wrote passage.passed tells
    → Finishes limit stream written (Ready status passage.bytes) [] tells
ready_told limit stream written status passage tells last told =
    ends_now limit stream written last.frames (Ready status passage.bytes) passage.passed tells
    last.enough last.each
    last.stream_is Read-nothing
    (ap (λ xs. written ++ xs) last.passed_is
    ∙ sym (append_assoc written last.front (ready_text status))
    ∙ ap (λ xs. xs ++ ready_text status) last.written_is) told

-- a ReadyForQuery that the client didn't take
pub ready_untold : (limit : ℕ) (stream written : List ℕ) (status : ℕ) (passage : Passage)
    (tells : List Call)
    (stayed : Stayed) → (status_of status ≡ Unknown → ⊥)
    → HandedLast limit stream written (ready_text status) passage → WroteSome passage.passed tells
    → stayed ≡ End [] → EndsHere limit stream written [] tells stayed
ready_untold limit stream written status passage tells stayed known last told is = (
  Untold (ready_text status) passage.bytes,
  ends_now limit stream written last.frames (Untold (ready_text status) passage.bytes)
      passage.passed
      tells tt last.each last.stream_is Read-nothing
      (ap (λ xs. written ++ xs) last.passed_is
      ∙ sym (append_assoc written last.front (ready_text status))
      ∙ ap (λ xs. xs ++ ready_text status) last.written_is) told,
  (inr (inr (status, known, refl)), is),
)

-- a ReadyForQuery of unknown status
pub unclear_told : (limit : ℕ) (stream written : List ℕ) (status : ℕ) (passage : Passage)
    (tells : List Call)
    (reply : List ℕ) (stayed : Stayed) → status_of status ≡ Unknown
    → IsError ConnectionFailure reply → HandedLast limit stream written (ready_text status) passage
    → Wrote (take (length passage.passed - 6) passage.passed) tells → stayed ≡ End reply
    → EndsHere limit stream written [] tells stayed
unclear_told limit stream written status passage tells reply stayed unknown error last told is = (
  Unclear status passage.bytes,
  ends_now limit stream written last.frames (Unclear status passage.bytes) last.front tells
      last.enough last.each
      last.stream_is Read-nothing last.written_is
      (subst (λ xs. Wrote xs tells)
      (front_is passage.passed last.front (ready_text status) 6 last.passed_is refl) told),
  (unknown, (reply, error, is)),
)

-- what stands before the last bytes isn't taken
untold_before : (limit : ℕ) (stream written last : List ℕ) (passage : Passage) (frames : List Frame)
    (front : List ℕ) (tells : List Call) (stayed : Stayed) → AllByRecursion
    (IsPassedOn limit) frames
    → stream ≡ texts frames ++ (last ++ passage.bytes) → passage.passed ≡ front ++ last
    → written ++ front ≡ texts frames
    → WroteSome (take (length passage.passed - length last) passage.passed) tells
    → stayed ≡ End [] → EndsHere limit stream written [] tells stayed
untold_before limit stream written last passage frames front tells stayed each stream_is passed_is
    written_is told is = (
      Untold [] (last ++ passage.bytes),
      ends_now limit stream written frames (Untold [] (last ++ passage.bytes)) front tells tt each
          stream_is
          Read-nothing (written_is ∙ sym (append-nil (texts frames)))
          (subst (λ xs. WroteSome xs tells)
          (front_is passage.passed front last (length last) passed_is refl) told),
      (inl refl, is),
    )

pub unclear_untold : (limit : ℕ) (stream written : List ℕ) (status : ℕ) (passage : Passage)
    (tells : List Call) (stayed : Stayed)
    → HandedLast limit stream written (ready_text status) passage
    → WroteSome (take (length passage.passed - 6) passage.passed) tells → stayed ≡ End []
    → EndsHere limit stream written [] tells stayed
unclear_untold limit stream written status passage tells stayed last told is =
    untold_before limit stream written (ready_text status) passage last.frames last.front tells
    stayed
    last.each last.stream_is last.passed_is last.written_is told is

-- the head of a frame that isn't passed on
pub unfit_told : (limit : ℕ) (stream written reply : List ℕ) (passage : Passage) (tells : List Call)
    (stayed : Stayed) → HandedUnfit limit stream written reply passage
    → Wrote (take (length passage.passed - 5) passage.passed) tells → stayed ≡ End reply
    → EndsHere limit stream written [] tells stayed
unfit_told limit stream written reply passage tells stayed unfit told is = (
  Unfit unfit.kind unfit.size passage.bytes,
  ends_now limit stream written unfit.frames (Unfit unfit.kind unfit.size passage.bytes)
      unfit.front tells
      tt unfit.each unfit.stream_is Read-nothing unfit.written_is
      (subst (λ xs. Wrote xs tells)
      (front_is passage.passed unfit.front (head_text unfit.kind unfit.size) 5 unfit.passed_is refl)
      told),
  (unfit.code, unfit.head, unfit.means, (reply, unfit.error, is)),
)

pub unfit_untold : (limit : ℕ) (stream written reply : List ℕ) (passage : Passage)
    (tells : List Call)
    (stayed : Stayed) → HandedUnfit limit stream written reply passage
    → WroteSome (take (length passage.passed - 5) passage.passed) tells → stayed ≡ End []
    → EndsHere limit stream written [] tells stayed
unfit_untold limit stream written reply passage tells stayed unfit told is =
    untold_before limit stream written (head_text unfit.kind unfit.size) passage unfit.frames
    unfit.front
    tells stayed unfit.each unfit.stream_is unfit.passed_is unfit.written_is told is

-- what the act on a ReadyForQuery says of its status
act_idle : (s : Status) (status : ℕ) (text : List ℕ)
    → IsReadyAct (act_on_status s status 1) (ReleaseAct text) → s ≡ Idle
act_idle Idle status text act = refl
act_idle InTransaction status text act = absurd (cc)
act_idle Unknown status text act = elim act [ inl is ↦ absurd (cc) | inr is ↦ absurd (cc) ]

act_open : (s : Status) (status : ℕ) (text : List ℕ)
    → IsReadyAct (act_on_status s status 1) (ToClient text) → s ≡ InTransaction
act_open Idle status text act = absurd (cc)
act_open InTransaction status text act = refl
act_open Unknown status text act = elim act [ inl is ↦ absurd (cc) | inr is ↦ absurd (cc) ]

act_unknown : (s : Status) (status : ℕ) (text : List ℕ)
    → IsReadyAct (act_on_status s status 1) (CloseAct text)
    → (s ≡ Unknown) × IsError ConnectionFailure text
act_unknown Idle status text act = absurd (cc)
act_unknown InTransaction status text act = absurd (cc)
act_unknown Unknown status text act =
    (refl, elim act [ inl is ↦ inl (close_same is) | inr is ↦ inr (close_same is) ])
  where
    close_same : {a b : List ℕ} → CloseAct a ≡ CloseAct b → a ≡ b
    close_same is = cc

-- the same at a session with a request outstanding
one_act : (session : Session) (status : ℕ) (act : Act) → session.outstanding ≡ 1
    → IsReadyAct (ready_act session status) act
    → IsReadyAct (act_on_status (status_of status) status 1) act
one_act session status act one is =
    subst (λ n. IsReadyAct (act_on_status (status_of status) status n) act) one is

pub idle_status : (session : Session) (status : ℕ) (text : List ℕ) → session.outstanding ≡ 1
    → IsReadyAct (ready_act session status) (ReleaseAct text) → status_of status ≡ Idle
idle_status session status text one act =
    act_idle (status_of status) status text (one_act session status (ReleaseAct text) one act)

pub open_status : (session : Session) (status : ℕ) (text : List ℕ) → session.outstanding ≡ 1
    → IsReadyAct (ready_act session status) (ToClient text) → status_of status ≡ InTransaction
open_status session status text one act =
    act_open (status_of status) status text (one_act session status (ToClient text) one act)

pub unknown_status : (session : Session) (status : ℕ) (text : List ℕ) → session.outstanding ≡ 1
    → IsReadyAct (ready_act session status) (CloseAct text)
    → (status_of status ≡ Unknown) × IsError ConnectionFailure text
unknown_status session status text one act =
    act_unknown (status_of status) status text (one_act session status (CloseAct text) one act)

idle_known : (s : Status) → s ≡ Idle → s ≡ Unknown → ⊥
idle_known s is not = let apart : Idle ≡ Unknown = sym is ∙ not in cc

open_known : (s : Status) → s ≡ InTransaction → s ≡ Unknown → ⊥
open_known s is not = let apart : InTransaction ≡ Unknown = sym is ∙ not in cc

-- a reply that leaves no transaction open
pub idle_ends : (limit : ℕ) (stream written : List ℕ) (status : ℕ) (passage : Passage)
    (tells : List Call)
    (stayed : Stayed) → status_of status ≡ Idle
    → FinishesIdle passage.passed passage.bytes stayed tells
    → HandedLast limit stream written (ready_text status) passage
    → EndsHere limit stream written [] tells stayed
idle_ends limit stream written status passage tells stayed idle told last = elim told [
  | inl took ↦ (
    Ready status passage.bytes,
    ready_told limit stream written status passage tells last took.0,
    subst (λ s. ready_outcome s passage.bytes stayed) (sym idle) took.1,
  )
  | inr not ↦ ready_untold limit stream written status passage tells stayed
      (idle_known (status_of status) idle) last not.0 not.1
]

-- a reply that leaves a transaction open, where the stay ends
pub open_ends : (limit : ℕ) (stream written : List ℕ) (status : ℕ) (passage : Passage)
    (tells : List Call)
    (stayed : Stayed) → status_of status ≡ InTransaction
    → FinishesOpen passage.passed passage.bytes (Some stayed) tells
    → HandedLast limit stream written (ready_text status) passage
    → EndsHere limit stream written [] tells stayed
open_ends limit stream written status passage tells stayed is_open told last = elim told [
  | inl took ↦ (
    Ready status passage.bytes,
    ready_told limit stream written status passage tells last took.0,
    subst (λ s. ready_outcome s passage.bytes stayed) (sym is_open) took.1,
  )
  | inr not ↦ ready_untold limit stream written status passage tells stayed
      (open_known (status_of status) is_open) last not.0 not.1
]

pub open_calls : {T : Type 0} (wrote gave : Effect T) (a b : T) (status : ℕ) (passage : Passage)
    (found : Option Stayed) → status_of status ≡ InTransaction
    → SomeCalls wrote gave a b (FinishesOpen passage.passed passage.bytes found)
    → IfSome found (λ stayed. SomeCalls wrote gave a b
    (λ tells. (limit : ℕ) (stream written : List ℕ)
    → HandedLast limit stream written (ready_text status) passage
    → EndsHere limit stream written [] tells stayed))
open_calls wrote gave a b status passage None is_open told = tt
open_calls wrote gave a b status passage (Some stayed) is_open told = (
  told.0,
  told.1,
  λ limit stream written last. open_ends limit stream written status passage told.0 stayed is_open
      told.2 last,
)

-- a reply that leaves a transaction open, where the stay goes on
pub open_goes_on : {T : Type 0} (wrote gave : Effect T) (a b : T) (status : ℕ) (passage : Passage)
    (found : Option Stayed) → status_of status ≡ InTransaction
    → SomeCalls wrote gave a b (FinishesOpen passage.passed passage.bytes found) → found ≡ None
    → SomeCalls wrote gave a b (λ tells. (limit : ℕ) (stream written : List ℕ)
    → HandedLast limit stream written (ready_text status) passage
    → GoesOn limit stream written [] tells)
open_goes_on wrote gave a b status passage (Some stayed) is_open told none = absurd (cc)
open_goes_on wrote gave a b status passage None is_open told none = (
  told.0,
  told.1,
  λ limit stream written last. (
    status,
    subst (λ after. Finishes limit stream written (Ready status after) [] told.0) told.2.1
        (ready_told limit stream written status passage told.0 last told.2.0),
    is_open,
  ),
)

-- a ReadyForQuery of unknown status, whether the client took what came before or not
pub unclear_ends : (limit : ℕ) (stream written : List ℕ) (status : ℕ) (passage : Passage)
    (reply : List ℕ)
    (stayed : Stayed) (tells : List Call) → status_of status ≡ Unknown
    → IsError ConnectionFailure reply
    → Refuses (take (length passage.passed - 6) passage.passed) reply stayed tells
    → HandedLast limit stream written (ready_text status) passage
    → EndsHere limit stream written [] tells stayed
unclear_ends limit stream written status passage reply stayed tells unknown error told last =
    elim told [
      | inl took ↦ unclear_told limit stream written status passage tells reply stayed unknown
          error last
          took.0 took.1
      | inr not ↦ unclear_untold limit stream written status passage tells stayed last not.0 not.1
    ]

-- the head of a frame that isn't passed on, likewise
pub unfit_ends : (limit : ℕ) (stream written reply : List ℕ) (passage : Passage) (stayed : Stayed)
    (tells : List Call) → HandedUnfit limit stream written reply passage
    → Refuses (take (length passage.passed - 5) passage.passed) reply stayed tells
    → EndsHere limit stream written [] tells stayed
unfit_ends limit stream written reply passage stayed tells unfit told = elim told [
  | inl took ↦ unfit_told limit stream written reply passage tells stayed unfit took.0 took.1
  | inr not ↦ unfit_untold limit stream written reply passage tells stayed unfit not.0 not.1
]
