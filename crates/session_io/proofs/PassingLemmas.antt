-- A reply that is passed on, one reading after another.
use Rattle.std.proofs.Common.{◌≡◌, IfSome, ℕ, ◌≤◌, List, [], ◌∷◌, ◌++◌, length, Option, Some, None, refl, sym, ◌∙◌, subst, append_assoc, append-nil}
use Rattle.peer_forward.specs.Calls.{Call, Effect, Makes}
use Rattle.pg_frames.specs.FrameText.{HasFault}
use Rattle.pg_frames.specs.Passage.{Passage, after, head_text, HasNoNext}
use Rattle.client_state.specs.Acts.{ready_text}
use Rattle.session_io.specs.declared.session.place.Place.{Place}
use Rattle.session_io.specs.declared.session.place.Place.TheVariants.{Between}
use Rattle.session_io.specs.declared.session.outcome.Stayed.{Stayed}
use Rattle.session_io.specs.StreamCalls.{SomeCalls, Wrote, Read}
use Rattle.session_io.specs.Replying.{ReplyEnd, Ready, Unclear, Unfit, Faulty, Lost, Cut, Untold, ReadsReply, WritesReply}
use Rattle.session_io.specs.Progress.{HandedOut, HandedLast, HandedUnfit, Finishes, EndsHere, GoesOn}
use Rattle.peer_forward.proofs.CallLemmas.{Makes-append, Wrote-append, WroteSome-append}
use Rattle.session_io.proofs.CallLists.{Read-append, Read-nothing, ReadToEnd-append, Wrote-nothing}
use Rattle.session_io.proofs.EndLemmas.{enough}
use Rattle.session_io.proofs.StoppingLemmas.{Unfinished, unfinished_none, unfinished_more, CanEnd, can_end, stops_after}

-- reads of a reply before others
reads_after : (end : ReplyEnd) (a b : List ℕ) (xs ys : List Call) → Read a xs
    → ReadsReply end b ys → ReadsReply end (a ++ b) (xs ++ ys)
reads_after (Ready status after) a b xs ys first more = Read-append a b xs ys first more
reads_after (Unclear status after) a b xs ys first more = Read-append a b xs ys first more
reads_after (Unfit kind size after) a b xs ys first more = Read-append a b xs ys first more
reads_after (Faulty rest fault) a b xs ys first more = Read-append a b xs ys first more
reads_after (Lost rest) a b xs ys first more = ReadToEnd-append a b xs ys first more
reads_after (Cut kind size body) a b xs ys first more = ReadToEnd-append a b xs ys first more
reads_after (Untold begun after) a b xs ys first more = Read-append a b xs ys first more

-- writes of a reply before others
writes_after : (end : ReplyEnd) (a b : List ℕ) (xs ys : List Call) → Wrote a xs
    → WritesReply end b ys → WritesReply end (a ++ b) (xs ++ ys)
writes_after (Ready status after) a b xs ys first more = Wrote-append a b xs ys first more
writes_after (Unclear status after) a b xs ys first more = Wrote-append a b xs ys first more
writes_after (Unfit kind size after) a b xs ys first more = Wrote-append a b xs ys first more
writes_after (Faulty rest fault) a b xs ys first more = Wrote-append a b xs ys first more
writes_after (Lost rest) a b xs ys first more = Wrote-append a b xs ys first more
writes_after (Cut kind size body) a b xs ys first more = Wrote-append a b xs ys first more
writes_after (Untold begun after) a b xs ys first more = WroteSome-append a b xs ys first more

-- a reply whose front was read and written before
pub finishes_after : (limit : ℕ) (before bytes text : List ℕ) (end : ReplyEnd)
    (xs ys reads tells : List Call)
    → CanEnd limit end → Unfinished limit before xs → Read bytes xs → Wrote text ys
    → Finishes limit (before ++ bytes) text end reads tells
    → Finishes limit before [] end (xs ++ reads) (ys ++ tells)
finishes_after limit before bytes text end xs ys reads tells can unfinished read told more = record {
  frames = more.frames;
  each = more.each;
  head = more.head;
  bytes = bytes ++ more.bytes;
  bytes_are = sym (append_assoc before bytes more.bytes) ∙ more.bytes_are;
  read = reads_after end bytes more.bytes xs reads read more.read;
  stops = stops_after limit more.frames end before bytes more.bytes xs reads more.each can read
      unfinished
      more.bytes_are more.stops;
  text = text ++ more.text;
  text_is = more.text_is;
  told = writes_after end text more.text ys tells told more.told;
}

-- so far the reply was read by some calls, and written by others
pub record Passing {L C : Type 0} (limit : ℕ) (wrote gave : Effect L) (wrote' gave' : Effect C)
    (link : L)
    (client : C) (before : List ℕ) (place : Place) (passage : Passage) (link' : L) (client' : C)
    : Type 0 where
  pub reads : List Call
  pub made : Makes wrote gave link reads link'
  pub tells : List Call
  pub made' : Makes wrote' gave' client tells client'
  pub bytes : List ℕ
  pub read : Read bytes reads
  pub unfinished : Unfinished limit before reads
  pub text : List ℕ
  pub told : Wrote text tells
  pub out : HandedOut limit (before ++ bytes) text place passage

pub passing_start : {L C : Type 0} (limit : ℕ) (wrote gave : Effect L) (wrote' gave' : Effect C)
    (link : L)
    (client : C) (passage : Passage) → passage.limit ≡ limit → passage.left ≡ None
    → passage.passed ≡ []
    → Passing limit wrote gave wrote' gave' link client passage.bytes Between passage link client
passing_start limit wrote gave wrote' gave' link client passage is left passed = record {
  reads = [];
  made = refl;
  tells = [];
  made' = refl;
  bytes = [];
  read = Read-nothing;
  unfinished = unfinished_none limit passage.bytes;
  text = [];
  told = Wrote-nothing;
  out = record {
    frames = [];
    limit_is = is;
    each = tt;
    shown = [];
    is_shown = (left, refl);
    stream_is = append-nil passage.bytes;
    front = [];
    passed_is = passed;
    written_is = refl;
  };
}

-- more was handed out, passed on and read
pub passing_more : {L C : Type 0} (limit : ℕ) (wrote gave : Effect L) (wrote' gave' : Effect C)
    (link link' link'' : L) (client client' client'' : C) (before : List ℕ) (place place' : Place)
    (passage handed passage' : Passage)
    (so_far : Passing limit wrote gave wrote' gave' link client before place passage link' client')
    → HandedOut limit (before ++ so_far.bytes) so_far.text place' handed
    → HasNoNext handed.limit handed.left handed.bytes
    → HasFault handed.limit (after handed) None
    → ((call : Call) × Makes wrote gave link' (call ∷ []) link''
    × SomeCalls wrote' gave' client' client''
    (λ tells. (bytes : List ℕ) × Read bytes (call ∷ []) × (text : List ℕ) × Wrote text tells
    × ((limit : ℕ) (stream written : List ℕ) → HandedOut limit stream written place' handed
    → HandedOut limit (stream ++ bytes) (written ++ text) place' passage')))
    → Passing limit wrote gave wrote' gave' link client before place' passage' link'' client''
passing_more limit wrote gave wrote' gave' link link' link'' client client' client'' before place
    place'
    passage handed passage' so_far out dry sound more =
    let told = more.2 in
    let here = told.2.4 limit (before ++ so_far.bytes) so_far.text out in
    record {
      reads = so_far.reads ++ more.0 ∷ [];
      made = Makes-append wrote gave link link' link'' so_far.reads (more.0 ∷ []) so_far.made
          more.1;
      tells = so_far.tells ++ told.0;
      made' = Makes-append wrote' gave' client client' client'' so_far.tells told.0 so_far.made'
          told.1;
      bytes = so_far.bytes ++ told.2.0;
      read = Read-append so_far.bytes told.2.0 so_far.reads (more.0 ∷ []) so_far.read told.2.1;
      unfinished = unfinished_more limit before so_far.bytes so_far.reads more.0 so_far.read
          (record {
            written = so_far.text;
            place = place';
            passage = handed;
            out = out;
            dry = subst (λ (n : ℕ). HasNoNext n handed.left handed.bytes) out.limit_is dry;
            sound = subst (λ (n : ℕ). HasFault n (after handed) None) out.limit_is sound;
          });
      text = so_far.text ++ told.2.2;
      told = Wrote-append so_far.text told.2.2 so_far.tells told.0 so_far.told told.2.3;
      out = subst
          (λ xs. HandedOut limit xs (so_far.text ++ told.2.2) place' passage')
          (append_assoc before so_far.bytes told.2.0) here;
    }

-- the stay ended
pub passing_ends : {L C : Type 0} (limit : ℕ) (wrote gave : Effect L) (wrote' gave' : Effect C)
    (link link' link'' : L) (client client' client'' : C) (before : List ℕ) (place : Place)
    (passage : Passage) (stayed : Stayed)
    (so_far : Passing limit wrote gave wrote' gave' link client before place passage link' client')
    (reads tells : List Call) → Makes wrote gave link' reads link''
    → Makes wrote' gave' client' tells client''
    → EndsHere limit (before ++ so_far.bytes) so_far.text reads tells stayed
    → SomeCalls wrote gave link link'' (λ reads. SomeCalls wrote' gave' client client''
    (λ tells. EndsHere limit before [] reads tells stayed))
passing_ends limit wrote gave wrote' gave' link link' link'' client client' client'' before place
    passage
    stayed so_far reads tells made made' ends = (
      so_far.reads ++ reads,
      Makes-append wrote gave link link' link'' so_far.reads reads so_far.made made,
      (
        so_far.tells ++ tells,
        Makes-append wrote' gave' client client' client'' so_far.tells tells so_far.made' made',
        (
          ends.0,
          finishes_after limit before so_far.bytes so_far.text ends.0 so_far.reads so_far.tells
              reads tells
              (can_end limit ends.0 stayed ends.1.head ends.2) so_far.unfinished so_far.read
              so_far.told ends.1,
          ends.2,
        ),
      ),
    )

-- the reply is whole
pub passing_goes_on : {L C : Type 0} (limit : ℕ) (wrote gave : Effect L) (wrote' gave' : Effect C)
    (link link' link'' : L) (client client' client'' : C) (before : List ℕ) (place : Place)
    (passage : Passage)
    (so_far : Passing limit wrote gave wrote' gave' link client before place passage link' client')
    (reads tells : List Call) → Makes wrote gave link' reads link''
    → Makes wrote' gave' client' tells client''
    → GoesOn limit (before ++ so_far.bytes) so_far.text reads tells
    → SomeCalls wrote gave link link'' (λ reads. SomeCalls wrote' gave' client client''
    (λ tells. GoesOn limit before [] reads tells))
passing_goes_on limit wrote gave wrote' gave' link link' link'' client client' client'' before place
    passage so_far reads tells made made' goes = (
      so_far.reads ++ reads,
      Makes-append wrote gave link link' link'' so_far.reads reads so_far.made made,
      (
        so_far.tells ++ tells,
        Makes-append wrote' gave' client client' client'' so_far.tells tells so_far.made' made',
        (
          goes.0,
          finishes_after limit before so_far.bytes so_far.text (Ready goes.0 []) so_far.reads
              so_far.tells
              reads tells goes.1.head so_far.unfinished so_far.read so_far.told goes.1,
          goes.2,
        ),
      ),
    )

-- five bytes at least were handed out with the head of a frame that isn't passed on
pub unfit_enough : (limit : ℕ) (stream written reply : List ℕ) (passage : Passage)
    → HandedUnfit limit stream written reply passage → 5 ≤ length passage.passed
unfit_enough limit stream written reply passage unfit =
    enough passage.passed unfit.front (head_text unfit.kind unfit.size) unfit.passed_is

-- the stay ended at a ReadyForQuery, if it did
pub passing_finished : {L C : Type 0} (limit : ℕ) (wrote gave : Effect L) (wrote' gave' : Effect C)
    (link link' : L) (client client' client'' : C) (before : List ℕ) (place : Place)
    (passage handed : Passage) (status : ℕ) (found : Option Stayed)
    (so_far : Passing limit wrote gave wrote' gave' link client before place passage link' client')
    → HandedLast limit (before ++ so_far.bytes) so_far.text (ready_text status) handed
    → IfSome found (λ stayed. SomeCalls wrote' gave' client' client''
    (λ tells. (limit : ℕ) (stream written : List ℕ)
    → HandedLast limit stream written (ready_text status) handed
    → EndsHere limit stream written [] tells stayed))
    → IfSome found (λ stayed. SomeCalls wrote gave link link'
    (λ reads. SomeCalls wrote' gave' client client''
    (λ tells. EndsHere limit before [] reads tells stayed)))
passing_finished limit wrote gave wrote' gave' link link' client client' client'' before place
    passage
    handed status None so_far last ends = tt
passing_finished limit wrote gave wrote' gave' link link' client client' client'' before place
    passage
    handed status (Some stayed) so_far last ends =
    passing_ends limit wrote gave wrote' gave' link link' link' client client' client'' before place
    passage stayed so_far [] ends.0 refl ends.1 (ends.2 limit (before ++ so_far.bytes) so_far.text
    last)
