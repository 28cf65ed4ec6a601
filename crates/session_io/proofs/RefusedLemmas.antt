-- The error with which a server refuses a login, as it is read.
use Rattle.std.proofs.Common.{◌≡◌, ◌⊎◌, ℕ, ◌+◌, ◌<◌, ◌≤◌, List, [], ◌∷◌, ◌++◌, length, take, inl, inr, refl, sym, ap, ◌∙◌, subst, arith, append_assoc, append-nil, length-append, length-take}
use Rattle.std.proofs.lemmas.List.{take_all}
use Rattle.peer_forward.specs.Calls.{Call, Effect, Makes}
use Rattle.pg_frames.specs.FrameText.{texts}
use Rattle.pg_frames.specs.Passage.{Passage, head_text}
use Rattle.startup.specs.StartupMessage.{startup_request}
use Rattle.session_io.specs.declared.login.place.Stop.{Stop}
use Rattle.session_io.specs.declared.login.place.Stop.TheVariants as why
use Rattle.session_io.specs.declared.login.refused.LoginRefusal.{LoginRefusal}
use Rattle.session_io.specs.declared.login.refused.LoginRefusal.TheVariants.{Error, Asks}
use Rattle.session_io.specs.declared.login.server.LinkError.{LinkError}
use Rattle.session_io.specs.declared.login.server.LinkError.TheVariants.{Lost, Memory, Refused}
use Rattle.session_io.specs.StreamCalls.{SomeCalls, Wrote, Read, ReadToEnd, given}
use Rattle.session_io.specs.LoginRefused.{SaysAsks, told_of, IsRefused, OfRefusal, StopsAt, ReadsAfter, TellsStop, Fits}
use Rattle.peer_forward.proofs.CallLemmas.{Makes-append}
use Rattle.session_io.proofs.Totals.{given-failed_read}
use Rattle.session_io.proofs.CallLists.{given-append, Read-append, Read-nothing, ReadToEnd-append}

-- so far these calls read more of a text of this length
pub record ReadsSo {T : Type 0} (wrote gave : Effect T) (old : T) (begun : List ℕ) (wanted : ℕ)
    (text : List ℕ) (new : T) : Type 0 where
  pub calls : List Call
  pub made : Makes wrote gave old calls new
  pub more : List ℕ
  pub read : Read more calls
  pub text_is : text ≡ take wanted (begun ++ more)

pub so_start : {T : Type 0} (wrote gave : Effect T) (old : T) (begun : List ℕ) (wanted : ℕ)
    (text : List ℕ) → text ≡ take wanted begun → ReadsSo wrote gave old begun wanted text old
so_start wrote gave old begun wanted text is = record {
  calls = [];
  made = refl;
  more = [];
  read = Read-nothing;
  text_is = is ∙ ap (take wanted) (sym (append-nil begun));
}

-- a text that is too short is all that came
all_came : (wanted : ℕ) (text whole : List ℕ) → text ≡ take wanted whole → length text < wanted
    → text ≡ whole
all_came wanted text whole is short =
    is ∙ take_all wanted whole
    (omega (arith, short, ap length is, length-take wanted whole))

pub so_more : {T : Type 0} (wrote gave : Effect T) (old new new' : T) (begun : List ℕ) (wanted : ℕ)
    (text text' : List ℕ) → length text < wanted
    → ReadsSo wrote gave old begun wanted text new
    → SomeCalls wrote gave new new' (λ calls. (bytes : List ℕ) × Read bytes calls
    × (0 < length bytes) × (length text + length bytes ≤ wanted) × (text' ≡ text ++ bytes))
    → ReadsSo wrote gave old begun wanted text' new'
so_more wrote gave old new new' begun wanted text text' short so_far next =
    let bytes = next.2.0 in
    let before = all_came wanted text (begun ++ so_far.more) so_far.text_is short in
    let whole : text' ≡ begun ++ (so_far.more ++ bytes) =
    next.2.4 ∙ ap (λ xs. xs ++ bytes) before ∙ append_assoc begun so_far.more bytes in
    let fits : length (begun ++ (so_far.more ++ bytes)) ≤ wanted =
    omega (arith, next.2.3, ap length next.2.4, ap length whole, length-append text bytes) in
    record {
      calls = so_far.calls ++ next.0;
      made = Makes-append wrote gave old new new' so_far.calls next.0 so_far.made next.1;
      more = so_far.more ++ bytes;
      read = Read-append so_far.more bytes so_far.calls next.0 so_far.read next.2.1;
      text_is = whole ∙ sym (take_all wanted (begun ++ (so_far.more ++ bytes)) fits);
    }

-- all that is wanted came
pub so_whole : {T : Type 0} (wrote gave : Effect T) (old new : T) (begun : List ℕ) (wanted : ℕ)
    (text : List ℕ) → wanted ≤ length text → ReadsSo wrote gave old begun wanted text new
    → SomeCalls wrote gave old new (ReadsAfter begun wanted text)
so_whole wrote gave old new begun wanted text long so_far = (
  so_far.calls,
  so_far.made,
  (
    so_far.more,
    so_far.text_is,
    inl (
      so_far.read,
      omega (
        arith,
        long,
        ap length so_far.text_is,
        length-take wanted (begun ++ so_far.more),
      ),
    ),
  ),
)

-- no more came
pub so_ended : {T : Type 0} (wrote gave : Effect T) (old new new' : T) (begun : List ℕ)
    (wanted most : ℕ) (text text' : List ℕ) → wanted ≡ most → text' ≡ text
    → ReadsSo wrote gave old begun wanted text new
    → SomeCalls wrote gave new new' (ReadToEnd [])
    → SomeCalls wrote gave old new' (ReadsAfter begun most text')
so_ended wrote gave old new new' begun wanted most text text' most_is same so_far next = (
  so_far.calls ++ next.0,
  Makes-append wrote gave old new new' so_far.calls next.0 so_far.made next.1,
  (
    so_far.more,
    same ∙ so_far.text_is ∙ ap (λ (n : ℕ). take n (begun ++ so_far.more)) most_is,
    inr (subst (λ xs. ReadToEnd xs (so_far.calls ++ next.0)) (append-nil so_far.more)
        (ReadToEnd-append so_far.more [] so_far.calls next.0 so_far.read next.2)),
  ),
)

-- a text is the beginning of what came before the calls and what they gave
gave_all : (begun : List ℕ) (wanted : ℕ) (text : List ℕ) (calls : List Call)
    → ReadsAfter begun wanted text calls → text ≡ take wanted (begun ++ given calls)
gave_all begun wanted text calls reads = by reads.2
  where
    by : (Read reads.0 calls × (length text ≡ wanted)) ⊎ ReadToEnd reads.0 calls
        → text ≡ take wanted (begun ++ given calls)
    by (inl read) =
        reads.1 ∙ ap (λ xs. take wanted (begun ++ xs)) (sym read.0.whole)
    by (inr ended) =
        reads.1 ∙ ap (λ xs. take wanted (begun ++ xs))
        (sym (ap given ended.all ∙ given-append ended.reads (ended.last ∷ [])
        ∙ ap (λ xs. given ended.reads ++ xs) (given-failed_read ended.last ended.failed)
        ∙ append-nil (given ended.reads) ∙ ended.whole))

-- a length field counts itself
pub stop_fits : {T : Type 0} (wrote gave : Effect T) (old new : T) (limit : ℕ) (stop : Stop)
    (passage : Passage) → StopsAt wrote gave old limit stop new passage → Fits stop
stop_fits wrote gave old new limit why.Failed passage stops = tt
stop_fits wrote gave old new limit (why.Asks code) passage stops = tt
stop_fits wrote gave old new limit (why.Error size) passage stops = stops.2.head.low

-- the refusal of a login that stopped so is what the server said
said_so : {T : Type 0} (wrote gave : Effect T) (old mid stopped new : T) (limit : ℕ)
    (user database : List ℕ) (stop : Stop) (refusal : LoginRefusal) (passage : Passage)
    → SomeCalls wrote gave old mid (Wrote (startup_request user database))
    → StopsAt wrote gave mid limit stop stopped passage
    → TellsStop wrote gave stopped passage.bytes stop refusal new
    → (last : T) × SomeCalls wrote gave old last (IsRefused limit user database refusal)
said_so wrote gave old mid stopped new limit user database why.Failed refusal passage sent stops
    tells =
    absurd tells
said_so wrote gave old mid stopped new limit user database (why.Asks code) (Error text) passage sent
    stops tells =
    absurd tells
said_so wrote gave old mid stopped new limit user database (why.Asks code) (Asks told) passage sent
    stops tells = (
      stopped,
      (
        sent.0 ++ stops.0,
        Makes-append wrote gave old mid stopped sent.0 stops.0 sent.1 stops.1,
        record {
          sends = sent.0;
          answers = stops.0;
          all = refl;
          sent = sent.2;
          said = subst (λ (c : ℕ). SaysAsks limit c (given stops.0)) (sym tells.0) stops.2;
        },
      ),
    )
said_so wrote gave old mid stopped new limit user database (why.Error size) (Asks told) passage sent
    stops tells =
    absurd tells
said_so wrote gave old mid stopped new limit user database (why.Error size) (Error text) passage
    sent stops tells =
    let with = stops.2 in
    let more = given tells.0 in
    let came : given (stops.0 ++ tells.0)
    ≡ texts with.frames ++ (head_text 69 size ++ (passage.bytes ++ more)) =
    given-append stops.0 tells.0 ∙ ap (λ xs. xs ++ more) with.bytes_are
    ∙ append_assoc (texts with.frames) (head_text 69 size ++ passage.bytes) more
    ∙ ap (λ xs. texts with.frames ++ xs) (append_assoc (head_text 69 size) passage.bytes more) in (
      new,
      (
        sent.0 ++ (stops.0 ++ tells.0),
        Makes-append wrote gave old mid new sent.0 (stops.0 ++ tells.0) sent.1
            (Makes-append wrote gave mid stopped new stops.0 tells.0 stops.1 tells.1),
        record {
          sends = sent.0;
          answers = stops.0 ++ tells.0;
          all = refl;
          sent = sent.2;
          said = record {
            size = size;
            rest = passage.bytes ++ more;
            stops = record {
              frames = with.frames;
              each = with.each;
              go_on = with.go_on;
              head = with.head;
              bytes_are = came;
            };
            text_is = gave_all passage.bytes (told_of size) text.items tells.0 tells.2;
          };
        },
      ),
    )

pub refused_so : {T : Type 0} (wrote gave : Effect T) (old mid stopped new : T) (limit at : ℕ)
    (request user database : List ℕ) (stop : Stop) (error : LinkError) (passage : Passage)
    → at ≡ limit → request ≡ startup_request user database
    → SomeCalls wrote gave old mid (Wrote request)
    → StopsAt wrote gave mid at stop stopped passage
    → OfRefusal (λ refusal. TellsStop wrote gave stopped passage.bytes stop refusal new) error
    → OfRefusal (λ refusal. (last : T)
    × SomeCalls wrote gave old last (IsRefused limit user database refusal)) error
refused_so wrote gave old mid stopped new limit at request user database stop Lost passage limit_is
    is sent stops tells =
    tt
refused_so wrote gave old mid stopped new limit at request user database stop Memory passage
    limit_is is sent stops tells =
    tt
refused_so wrote gave old mid stopped new limit at request user database stop (Refused refusal)
    passage limit_is is sent stops tells =
    said_so wrote gave old mid stopped new limit user database stop refusal passage
    (sent.0, sent.1, subst (λ xs. Wrote xs sent.0) is sent.2)
    (subst (λ (n : ℕ). StopsAt wrote gave mid n stop stopped passage) limit_is stops) tells
