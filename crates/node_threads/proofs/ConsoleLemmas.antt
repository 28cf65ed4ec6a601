-- A session of the console, message after message.
use Rattle.std.proofs.Common.{◌≡◌, inl, inr, ◌<◌, ◌+◌, Bool, true, false, ℕ, zero, suc, ◌≤◌, List, [], ◌∷◌, ◌++◌, Option, Some, None, refl, sym, ap, ◌∙◌, subst, append_assoc, append-nil, unwrap_or, length, take, get_or, add-one, arith}
use Rattle.std.specs.Option.{is_some, IfSome}
use Rattle.std.proofs.lemmas.List.{take_all}
use Rattle.peer_forward.specs.Calls.{Call, Effect, Makes}
use Rattle.pg_frames.specs.declared.frame.Frame.{Frame}
use Rattle.pg_frames.specs.declared.error.FrameError.{FrameError}
use Rattle.pg_frames.specs.FrameText.{text, texts, IsFrame, BeginsNoFrame, HasFault}
use Rattle.startup.specs.Replies.{Report, zero_ended}
use Rattle.startup.specs.declared.error_code.ErrorCode.TheVariants.{ProtocolViolation}
use Rattle.ini_config.specs.Node.{NodeSettings}
use Rattle.node_core.specs.View.{NodeView}
use Rattle.locked_node.specs.Lock.{CallerView}
use Rattle.console.specs.Rows.{Answers}
use Rattle.session_io.specs.StreamCalls.{given, SomeCalls, IsFailedRead, Read, Wrote, WroteSome}
use Rattle.session_io.specs.Asking.{SendsError}
use Rattle.node_threads.specs.Words.{AreRead}
use Rattle.node_threads.specs.ConsoleSession.{NeedsMore, ReadsOn, Parting, Faulty, Silent, NoMemory, Parts, Awaits, IsTextOf, IsReadAs, IsMoment, IsReply, TakesQuery, Takes, Answered, IsAnswered, Answer, EndsConsole, Queries, GreetsConsole, ServesConsole}
use Rattle.peer_forward.proofs.CallLemmas.{Makes-append}
use Rattle.session_io.proofs.FaultLemmas.{fault_here}

-- ---- reads

pub needs_more : (limit : ℕ) (kept : List ℕ) (fault : Option FrameError) (found : Bool)
    → found ≡ is_some fault → found ≡ false → BeginsNoFrame limit kept → HasFault limit kept fault
    → NeedsMore limit kept
needs_more limit kept None found same is none has = record {
  none = none;
  sound = fault_here limit kept None none has;
}
needs_more limit kept (Some fault) found same is none has = absurd cc

reads_on-append : (limit : ℕ) (kept mid all : List ℕ) (xs ys : List Call)
    → ReadsOn limit kept xs mid → ReadsOn limit mid ys all → ReadsOn limit kept (xs ++ ys) all
reads_on-append limit kept mid all [] ys first more =
    subst (λ (k : List ℕ). ReadsOn limit k ys all) first more
reads_on-append limit kept mid all (x ∷ xs) ys first more = (
  first.0,
  first.1,
  reads_on-append limit (kept ++ given (x ∷ [])) mid all xs ys first.2 more,
)

-- one read gave these bytes
pub reads_once : {T : Type 0} (limit : ℕ) (wrote gave : Effect T) (old new : T)
    (kept bytes all : List ℕ) → NeedsMore limit kept
    → ((call : Call) × Makes wrote gave old (call ∷ []) new × Read bytes (call ∷ []))
    → all ≡ kept ++ bytes → SomeCalls wrote gave old new (λ calls. ReadsOn limit kept calls all)
reads_once limit wrote gave old new kept bytes all needs read is = (
  read.0 ∷ [],
  read.1,
  (needs, read.2.each.0, is ∙ ap (λ xs. kept ++ xs) (sym read.2.whole)),
)

-- what is there then, by another name
pub reads_same : {T : Type 0} (limit : ℕ) (wrote gave : Effect T) (old new : T)
    (kept all same : List ℕ) → all ≡ same
    → SomeCalls wrote gave old new (λ calls. ReadsOn limit kept calls all)
    → SomeCalls wrote gave old new (λ calls. ReadsOn limit kept calls same)
reads_same limit wrote gave old new kept all same is on =
    (on.0, on.1, subst (λ (xs : List ℕ). ReadsOn limit kept on.0 xs) is on.2)

-- bytes that are no message
pub parts_faulty : {T : Type 0} (limit : ℕ) (wrote gave : Effect T) (old new : T) (kept : List ℕ)
    (fault : Option FrameError) (found : Bool) → found ≡ is_some fault → found ≡ true
    → BeginsNoFrame limit kept → HasFault limit kept fault
    → SomeCalls wrote gave old new (SendsError ProtocolViolation)
    → SomeCalls wrote gave old new
    (λ calls. (parting : Parting) × Parts limit parting kept calls kept)
parts_faulty limit wrote gave old new kept None found same is none has said = absurd cc
parts_faulty limit wrote gave old new kept (Some fault) found same is none has said = (
  said.0,
  said.1,
  (
    Faulty fault,
    ([], said.0, refl, refl, none, fault_here limit kept (Some fault) none has, said.2),
  ),
)

-- the end of the input, or a read that failed
pub parts_silent : {T : Type 0} (limit : ℕ) (wrote gave : Effect T) (old new : T) (kept : List ℕ)
    → NeedsMore limit kept
    → ((call : Call) × Makes wrote gave old (call ∷ []) new × IsFailedRead call)
    → SomeCalls wrote gave old new
    (λ calls. (parting : Parting) × Parts limit parting kept calls kept)
parts_silent limit wrote gave old new kept needs read = (
  read.0 ∷ [],
  read.1,
  (Silent, ([], read.0, refl, refl, needs, read.2)),
)

-- memory for what was read was refused
pub parts_memory : {T : Type 0} (limit : ℕ) (wrote gave : Effect T) (old new : T)
    (kept bytes left : List ℕ) → NeedsMore limit kept
    → ((call : Call) × Makes wrote gave old (call ∷ []) new × Read bytes (call ∷ []))
    → left ≡ kept
    → SomeCalls wrote gave old new
    (λ calls. (parting : Parting) × Parts limit parting kept calls left)
parts_memory limit wrote gave old new kept bytes left needs read is =
    let on = reads_once limit wrote gave old new kept bytes (left ++ bytes) needs read
    (ap (λ xs. xs ++ bytes) is) in (
      on.0,
      on.1,
      (NoMemory, (bytes, on.2)),
    )

-- memory for the next message was refused
pub awaits_memory : {T : Type 0} (limit : ℕ) (wrote gave : Effect T) (old new : T)
    (kept all left : List ℕ) → left ≡ all
    → SomeCalls wrote gave old new (λ calls. ReadsOn limit kept calls all)
    → SomeCalls wrote gave old new (λ calls. Awaits limit kept calls None left)
awaits_memory limit wrote gave old new kept all left is on = (
  on.0,
  on.1,
  (
    NoMemory,
    ([], subst (λ (xs : List ℕ). ReadsOn limit kept on.0 xs) (sym is ∙ sym (append-nil left)) on.2),
  ),
)

-- the next message is whole
pub awaits_message : {T : Type 0} (limit at : ℕ) (wrote gave : Effect T) (old new : T)
    (kept all left : List ℕ) (message : Frame) → at ≡ limit
    → IsFrame at message × (all ≡ text message ++ left)
    → SomeCalls wrote gave old new (λ calls. ReadsOn limit kept calls all)
    → SomeCalls wrote gave old new (λ calls. Awaits limit kept calls (Some message) left)
awaits_message limit at wrote gave old new kept all left message same came on = (
  on.0,
  on.1,
  record {
    all = all;
    reads = on.2;
    whole = came.1;
    is_frame = subst (λ (n : ℕ). IsFrame n message) same came.0;
  },
)

-- the client leaves after more was read
pub awaits_none : {T : Type 0} (limit : ℕ) (wrote gave : Effect T) (a b c : T)
    (kept mid left : List ℕ)
    → SomeCalls wrote gave a b (λ calls. ReadsOn limit kept calls mid)
    → SomeCalls wrote gave b c (λ calls. (parting : Parting) × Parts limit parting mid calls left)
    → SomeCalls wrote gave a c (λ calls. Awaits limit kept calls None left)
awaits_none limit wrote gave a b c kept mid left on ends = (
  on.0 ++ ends.0,
  Makes-append wrote gave a b c on.0 ends.0 on.1 ends.1,
  go ends.2.0 ends.2.1,
)
  where
    go : (parting : Parting) → Parts limit parting mid ends.0 left
        → Awaits limit kept (on.0 ++ ends.0) None left
    go (Faulty fault) parts = (
      Faulty fault,
      (
        on.0 ++ parts.0,
        parts.1,
        ap (λ xs. on.0 ++ xs) parts.2 ∙ sym (append_assoc on.0 parts.0 parts.1),
        reads_on-append limit kept mid left on.0 parts.0 on.2 parts.3,
        parts.4,
        parts.5,
        parts.6,
      ),
    )
    go Silent parts = (
      Silent,
      (
        on.0 ++ parts.0,
        parts.1,
        ap (λ xs. on.0 ++ xs) parts.2 ∙ sym (append_assoc on.0 parts.0 (parts.1 ∷ [])),
        reads_on-append limit kept mid left on.0 parts.0 on.2 parts.3,
        parts.4,
        parts.5,
      ),
    )
    go NoMemory parts = (
      NoMemory,
      (parts.0, reads_on-append limit kept mid (left ++ parts.0) on.0 ends.0 on.2 parts.1),
    )

-- more was read, and then more
pub reads_more : {T : Type 0} (limit at : ℕ) (wrote gave : Effect T) (a b c : T)
    (kept mid all : List ℕ) → at ≡ limit
    → SomeCalls wrote gave a b (λ calls. ReadsOn limit kept calls mid)
    → SomeCalls wrote gave b c (λ calls. ReadsOn at mid calls all)
    → SomeCalls wrote gave a c (λ calls. ReadsOn limit kept calls all)
reads_more limit at wrote gave a b c kept mid all same on more = (
  on.0 ++ more.0,
  Makes-append wrote gave a b c on.0 more.0 on.1 more.1,
  reads_on-append limit kept mid all on.0 more.0 on.2
      (subst (λ (n : ℕ). ReadsOn n mid more.0 all) same more.2),
)

-- the same of a client that leaves
pub parts_of : {T : Type 0} (limit at : ℕ) (wrote gave : Effect T) (a b : T) (kept left : List ℕ)
    → at ≡ limit
    → SomeCalls wrote gave a b (λ calls. (parting : Parting) × Parts at parting kept calls left)
    → SomeCalls wrote gave a b (λ calls. (parting : Parting) × Parts limit parting kept calls left)
parts_of limit at wrote gave a b kept left same parts =
    subst (λ (n : ℕ). SomeCalls wrote gave a b
    (λ calls. (parting : Parting) × Parts n parting kept calls left)) same parts

-- ---- replies

-- a text with a zero byte at its end has no other text
same_text : (xs ys : List ℕ) → zero_ended xs ≡ zero_ended ys → xs ≡ ys
same_text [] [] same = refl
same_text [] (y ∷ []) same = absurd cc
same_text [] (y ∷ z ∷ ys) same = absurd cc
same_text (x ∷ []) [] same = absurd cc
same_text (x ∷ z ∷ xs) [] same = absurd cc
same_text (x ∷ xs) (y ∷ ys) same =
    let head : x ≡ y = cc in
    let tail : zero_ended xs ≡ zero_ended ys = cc in
    ap (λ n. n ∷ xs) head ∙ ap (λ zs. y ∷ zs) (same_text xs ys tail)

-- the last of some bytes, one of which ends a text
last_zero : (xs ys : List ℕ) (x : ℕ) → zero_ended xs ≡ ys ++ x ∷ [] → x ≡ 0
last_zero [] [] x same = cc
last_zero [] (y ∷ []) x same = absurd cc
last_zero [] (y ∷ z ∷ ys) x same = absurd cc
last_zero (n ∷ []) [] x same = absurd cc
last_zero (n ∷ z ∷ xs) [] x same = absurd cc
last_zero (n ∷ xs) (y ∷ ys) x same =
    let tail : zero_ended xs ≡ ys ++ x ∷ [] = cc in last_zero xs ys x tail

-- the settings are those that were read
settings_are : (group : Option NodeSettings) (read settings : NodeSettings) → group ≡ Some read
    → group ≡ Some settings → read ≡ settings
settings_are group read settings was is = ap (λ o. unwrap_or o read) (sym was ∙ is)

-- a reply that shows no state of the node
pub reply_fixed : (group : Option NodeSettings) (read settings : NodeSettings)
    (caller : CallerView) (query words : List ℕ) (frames : List Frame) → group ≡ Some read
    → group ≡ Some settings → AreRead words
    → ((view : NodeView) → Answers query view words read frames)
    → IsReply settings caller query frames
reply_fixed group read settings caller query words frames was is are answers = record {
  words = words;
  read = are;
  answers = inl (subst (λ (s : NodeSettings). (view : NodeView)
      → Answers query view words s frames) (settings_are group read settings was is) answers);
}

-- one that shows it as it is at a moment
pub reply_shown : (group : Option NodeSettings) (read settings : NodeSettings)
    (caller : CallerView) (query words : List ℕ) (view : NodeView) (frames : List Frame)
    → group ≡ Some read → group ≡ Some settings → AreRead words → IsMoment caller view
    → Answers query view words read frames → IsReply settings caller query frames
reply_shown group read settings caller query words view frames was is are at answers = record {
  words = words;
  read = are;
  answers = inr (
    view,
    at,
    subst (λ (s : NodeSettings). Answers query view words s frames)
        (settings_are group read settings was is) answers,
  );
}

-- the reply to a text as it was read
reply_as : (settings : NodeSettings) (caller : CallerView) (query read : List ℕ)
    (frames : List Frame) → IsReadAs query read → IsReply settings caller read frames
    → IsReply settings caller query frames
reply_as settings caller query read frames same reply = record {
  words = reply.words;
  read = reply.read;
  answers = elim reply.answers [
    | inl fixed ↦ inl (λ view. same view reply.words settings frames (fixed view))
    | inr shown ↦ inr (
      shown.0,
      shown.1,
      same shown.0 reply.words settings frames shown.2,
    )
  ];
}

-- the texts of some messages, with that of the next
texts_at : (xs : List Frame) (i : ℕ) (x : Frame) → i < length xs → x ≡ get_or xs i x
    → texts (take (suc i) xs) ≡ texts (take i xs) ++ text x
texts_at [] i x there is = let never : ⊥ = omega arith in absurd never
texts_at (y ∷ ys) zero x there is = append-nil (text y) ∙ ap text (sym is)
texts_at (y ∷ ys) (suc i) x there is =
    ap (λ zs. text y ++ zs) (texts_at ys i x (omega (arith, there)) is)
    ∙ sym (append_assoc (text y) (texts (take i ys)) (text x))

pub texts_next : (xs : List Frame) (i : ℕ) (x : Frame) → i < length xs → x ≡ get_or xs i x
    → texts (take (i + 1) xs) ≡ texts (take i xs) ++ text x
texts_next xs i x there is = ap (λ n. texts (take n xs)) (add-one i) ∙ texts_at xs i x there is

pub texts_all : (xs : List Frame) (i : ℕ) (bytes : List ℕ) → length xs ≤ i
    → bytes ≡ texts (take i xs) → bytes ≡ texts xs
texts_all xs i bytes most is = is ∙ ap texts (take_all i xs most)

-- what is said of an answer, where there is one
pub answers_some : {A : Type 0} (P : A → Type 0) (found : Option A) (x : A) → found ≡ Some x
    → IfSome found P → P x
answers_some P found x is has = subst (λ (o : Option _). IfSome o P) is has

-- ---- messages

-- the client took the whole reply, or a part of it
pub takes_reply : {T : Type 0} (wrote gave : Effect T) (a b : T) (settings : NodeSettings)
    (caller : CallerView) (body read bytes : List ℕ) (frames : List Frame) (whole : Bool)
    → ((query : List ℕ) × IsTextOf body query × IsReadAs query read)
    → IsReply settings caller read frames → bytes ≡ texts frames
    → (whole ≡ true → SomeCalls wrote gave a b (Wrote bytes))
    → (whole ≡ false → SomeCalls wrote gave a b (WroteSome bytes))
    → SomeCalls wrote gave a b (TakesQuery settings caller body whole)
takes_reply wrote gave a b settings caller body read bytes frames true asks reply is did some =
    let calls = did refl in (
      calls.0,
      calls.1,
      (
        asks.0,
        asks.1,
        frames,
        (
          reply_as settings caller asks.0 read frames asks.2 reply,
          subst (λ xs. Wrote xs calls.0) is calls.2,
        ),
      ),
    )
takes_reply wrote gave a b settings caller body read bytes frames false asks reply is did some =
    let calls = some refl in (
      calls.0,
      calls.1,
      inr (
        asks.0,
        asks.1,
        inr (
          frames,
          reply_as settings caller asks.0 read frames asks.2 reply,
          subst (λ xs. WroteSome xs calls.0) is calls.2,
        ),
      ),
    )

-- a Query was served
pub takes_query : {T : Type 0} (wrote gave : Effect T) (a b : T) (settings : NodeSettings)
    (caller : CallerView) (message : Frame) (body : List ℕ) (goes_on : Bool) → message.kind ≡ 81
    → body ≡ message.body
    → SomeCalls wrote gave a b (TakesQuery settings caller body goes_on)
    → SomeCalls wrote gave a b (Takes settings caller message goes_on)
takes_query wrote gave a b settings caller message body true kind is takes = (
  takes.0,
  takes.1,
  (kind, subst (λ (xs : List ℕ). TakesQuery settings caller xs true takes.0) is takes.2),
)
takes_query wrote gave a b settings caller message body false kind is takes = (
  takes.0,
  takes.1,
  inr (inr (kind, subst (λ (xs : List ℕ). TakesQuery settings caller xs false takes.0) is takes.2)),
)

-- ---- sessions

-- queries were answered, so far
abbrev pub Answering : {T : Type 0} → ℕ → Effect T → Effect T → NodeSettings → CallerView → T
    → List ℕ → T → List ℕ → Type 0
Answering limit wrote gave settings caller old kept new left = SomeCalls wrote gave old new
    (λ calls. (rounds : List Answered) × Answer limit settings caller rounds kept calls left)

answer-append : (limit : ℕ) (settings : NodeSettings) (caller : CallerView)
    (rounds : List Answered) (round : Answered) (kept behind left : List ℕ)
    (served first : List Call) → Answer limit settings caller rounds kept served behind
    → IsAnswered limit settings caller round behind first left
    → Answer limit settings caller (rounds ++ round ∷ []) kept (served ++ first) left
answer-append limit settings caller [] round kept behind left served first none one = (
  first,
  [],
  ap (λ xs. xs ++ first) none.0 ∙ sym (append-nil first),
  left,
  subst (λ (xs : List ℕ). IsAnswered limit settings caller round xs first left) none.1 one,
  (refl, refl),
)
answer-append limit settings caller (r ∷ rs) round kept behind left served first so_far one = (
  so_far.0,
  so_far.1 ++ first,
  ap (λ xs. xs ++ first) so_far.2 ∙ append_assoc so_far.0 so_far.1 first,
  so_far.3,
  so_far.4,
  answer-append limit settings caller rs round so_far.3 behind left so_far.1 first so_far.5 one,
)

pub answering_start : {T : Type 0} (limit : ℕ) (wrote gave : Effect T) (settings : NodeSettings)
    (caller : CallerView) (old : T) (kept : List ℕ)
    → Answering limit wrote gave settings caller old kept old kept
answering_start limit wrote gave settings caller old kept = ([], refl, ([], (refl, refl)))

-- one more was answered
pub answering_next : {T : Type 0} (limit at : ℕ) (wrote gave : Effect T) (settings : NodeSettings)
    (caller now : CallerView) (a b c d : T) (kept behind left : List ℕ) (found : Option Frame)
    (message : Frame) (goes_on : Bool) → at ≡ limit → now ≡ caller → found ≡ Some message
    → goes_on ≡ true
    → Answering limit wrote gave settings caller a kept b behind
    → SomeCalls wrote gave b c (λ calls. Awaits at behind calls found left)
    → SomeCalls wrote gave c d (Takes settings now message goes_on)
    → Answering limit wrote gave settings caller a kept d left
answering_next limit at wrote gave settings caller now a b c d kept behind left found message
    goes_on same own is goes so_far read takes =
    let took = subst (λ (r : Bool). Takes settings caller message r takes.0) goes
    (subst (λ (v : CallerView). Takes settings v message goes_on takes.0) own takes.2) in
    let got = subst (λ (f : Option Frame). Awaits limit behind read.0 f left) is
    (subst (λ (n : ℕ). Awaits n behind read.0 found left) same read.2) in
    let round : Answered = record { query = took.1.0; frames = took.1.2 } in (
      so_far.0 ++ (read.0 ++ takes.0),
      Makes-append wrote gave a b d so_far.0 (read.0 ++ takes.0) so_far.1
          (Makes-append wrote gave b c d read.0 takes.0 read.1 takes.1),
      (
        so_far.2.0 ++ round ∷ [],
        answer-append limit settings caller so_far.2.0 round kept behind left so_far.0
            (read.0 ++ takes.0) so_far.2.1
            (record {
              reads = read.0;
              tells = takes.0;
              calls_are = refl;
              message = message;
              read = got;
              kind = took.0;
              asks = took.1.1;
              replies = took.1.3;
            }),
      ),
    )

-- the session ends
ends_after : {T : Type 0} (limit : ℕ) (wrote gave : Effect T) (settings : NodeSettings)
    (caller : CallerView) (a b c : T) (kept behind left : List ℕ)
    → Answering limit wrote gave settings caller a kept b behind
    → SomeCalls wrote gave b c (λ calls. EndsConsole limit settings caller behind calls left)
    → SomeCalls wrote gave a c (λ calls. Queries limit settings caller kept calls left)
ends_after limit wrote gave settings caller a b c kept behind left so_far ends = (
  so_far.0 ++ ends.0,
  Makes-append wrote gave a b c so_far.0 ends.0 so_far.1 ends.1,
  record {
    served = so_far.0;
    last = ends.0;
    calls_are = refl;
    rounds = so_far.2.0;
    behind = behind;
    answers = so_far.2.1;
    ends = ends.2;
  },
)

-- with a message
pub ends_by_message : {T : Type 0} (limit at : ℕ) (wrote gave : Effect T)
    (settings : NodeSettings)
    (caller now : CallerView) (a b c d : T) (kept behind left : List ℕ) (found : Option Frame)
    (message : Frame) (goes_on : Bool) → at ≡ limit → now ≡ caller → found ≡ Some message
    → goes_on ≡ false
    → Answering limit wrote gave settings caller a kept b behind
    → SomeCalls wrote gave b c (λ calls. Awaits at behind calls found left)
    → SomeCalls wrote gave c d (Takes settings now message goes_on)
    → SomeCalls wrote gave a d (λ calls. Queries limit settings caller kept calls left)
ends_by_message limit at wrote gave settings caller now a b c d kept behind left found message
    goes_on same own is goes so_far read takes =
    let took = subst (λ (r : Bool). Takes settings caller message r takes.0) goes
    (subst (λ (v : CallerView). Takes settings v message goes_on takes.0) own takes.2) in
    let got = subst (λ (f : Option Frame). Awaits limit behind read.0 f left) is
    (subst (λ (n : ℕ). Awaits n behind read.0 found left) same read.2) in
    ends_after limit wrote gave settings caller a b d kept behind left so_far (
      read.0 ++ takes.0,
      Makes-append wrote gave b c d read.0 takes.0 read.1 takes.1,
      inl (read.0, takes.0, refl, message, got, took),
    )

-- before another message is whole
pub ends_unasked : {T : Type 0} (limit at : ℕ) (wrote gave : Effect T) (settings : NodeSettings)
    (caller : CallerView) (a b c : T) (kept behind left : List ℕ) (found : Option Frame)
    → at ≡ limit → found ≡ None
    → Answering limit wrote gave settings caller a kept b behind
    → SomeCalls wrote gave b c (λ calls. Awaits at behind calls found left)
    → SomeCalls wrote gave a c (λ calls. Queries limit settings caller kept calls left)
ends_unasked limit at wrote gave settings caller a b c kept behind left found same is so_far read =
    ends_after limit wrote gave settings caller a b c kept behind left so_far (
      read.0,
      read.1,
      inr (subst (λ (f : Option Frame). Awaits limit behind read.0 f left) is
          (subst (λ (n : ℕ). Awaits n behind read.0 found left) same read.2)),
    )

-- the session of a client that was greeted
pub console_served : {T : Type 0} (limit : ℕ) (wrote gave : Effect T) (reports : List Report)
    (settings : NodeSettings) (caller : CallerView) (a b c : T) (kept left : List ℕ)
    (greeted : Bool) → greeted ≡ true → SomeCalls wrote gave a b (GreetsConsole reports greeted)
    → SomeCalls wrote gave b c (λ calls. Queries limit settings caller kept calls left)
    → SomeCalls wrote gave a c
    (λ calls. ServesConsole limit reports settings caller kept calls left)
console_served limit wrote gave reports settings caller a b c kept left greeted is greets serves = (
  greets.0 ++ serves.0,
  Makes-append wrote gave a b c greets.0 serves.0 greets.1 serves.1,
  inl (
    greets.0,
    serves.0,
    refl,
    subst (λ (r : Bool). GreetsConsole reports r greets.0) is greets.2,
    serves.2,
  ),
)

-- and of one that wasn't
pub console_ungreeted : {T : Type 0} (limit : ℕ) (wrote gave : Effect T) (reports : List Report)
    (settings : NodeSettings) (caller : CallerView) (a b : T) (kept : List ℕ) (greeted : Bool)
    → greeted ≡ false → SomeCalls wrote gave a b (GreetsConsole reports greeted)
    → SomeCalls wrote gave a b
    (λ calls. ServesConsole limit reports settings caller kept calls kept)
console_ungreeted limit wrote gave reports settings caller a b kept greeted is greets = (
  greets.0,
  greets.1,
  inr (subst (λ (r : Bool). GreetsConsole reports r greets.0) is greets.2, refl),
)
