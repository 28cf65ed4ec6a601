-- The first packets of a connection: what was read of them, what was answered, and what it led to.
use Rattle.std.proofs.Common.{◌≡◌, ◌⊎◌, inl, inr, Bool, true, false, Global, ℕ, ◌+◌, ◌^◌, ◌<◌, ◌≤◌, List, [], ◌∷◌, ◌++◌, length, take, drop, get_or, replicate, string_bytes, Option, Some, None, Result, Ok, Err, refl, sym, ap, ◌∙◌, subst, arith, lit<, append_assoc, append-nil, length-append}
use Rattle.std.proofs.lemmas.Bool.{cases_lt}
use Rattle.std.proofs.lemmas.List.{nil_from_length, replicate_more}
use Rattle.std.proofs.lemmas.List.Concat.{flat_map-append}
use Rattle.std.specs.List.{AllByRecursion, flat_map}
use Rattle.std.specs.declared.io.Error.{Error}
use Rattle.std.specs.declared.string.String.{String}
use Rattle.peer_forward.specs.Calls.{Call, WriteCall, ReadCall, Effect, taken}
use Rattle.pg_ids.specs.AnyKey.{any_key_bytes}
use Rattle.pg_ids.specs.declared.any_key.AnyKey.{AnyKey}
use Rattle.pg_ids.specs.declared.any_key.Kind.{Kind}
use Rattle.pg_ids.specs.declared.any_key.Kind.TheVariants.{Short, Long}
use Rattle.startup.specs.Kinds.{Seen, none_seen}
use Rattle.startup.specs.Packet.{startup_code, cancel_code, ssl_request, gss_request}
use Rattle.startup.specs.FirstPacket.{length_of, Outcome, Startup, Cancel as CancelPacket, Ssl as SslPacket, Gss as GssPacket, Decides, IsOutcome, Answers, seen_after}
use Rattle.startup.specs.StartupMessage.{body_of}
use Rattle.startup.specs.Wanted.{IsCancel, LacksLast, IsReadTo, Wants, IsWithin}
use Rattle.startup.specs.declared.wanted.Wanted.TheVariants as wanted
use Rattle.startup.proofs.PacketLemmas.{fields_of}
use Rattle.startup.proofs.WantedLemmas.{length_of-append, code_of-append}
use Rattle.startup.specs.declared.error_code.ErrorCode.{ErrorCode}
use Rattle.startup.specs.declared.startup_error.StartupError.{StartupError}
use Rattle.startup.specs.declared.first.First.{First}
use Rattle.startup.specs.declared.first.First.TheVariants as first
use Rattle.client_state.specs.Acts.{fatal}
use Rattle.session_io.specs.declared.login.first_packets.Opened.{Opened}
use Rattle.session_io.specs.declared.login.first_packets.Opened.TheVariants.{Session, Cancel, Over}
use Rattle.session_io.specs.StreamCalls.{given, IsDone, IsWrite, IsRead, Wrote, WroteSome, Read, SomeCalls}
use Rattle.session_io.specs.Opening.{Negotiation, Ssl, Gss, packet_of, Asks, Negotiated, WritesError, IsRefusedFor, Arriving, Reads, WritesNothing, Refuses, EndsBy, Ends, SeesNothing, Opens, Looks}
use Rattle.peer_forward.proofs.CallLemmas.{Makes-append, taken-append, each-append, taken_is}
use Rattle.session_io.proofs.CallLists.{given-append}

-- where less than one byte was taken, none was
pub took_nothing : (byte : ℕ) (calls : List Call) → WroteSome (byte ∷ []) calls
    → taken calls ≡ []
took_nothing byte calls some =
    let none : length (taken some.writes) ≡ 0 =
    omega (
      arith,
      ap length some.beginning,
      length-append
          (taken some.writes) some.left,
      some.some_left,
    ) in
    taken_is calls some.writes some.last some.all some.failed
    ∙ nil_from_length (taken some.writes) none

-- an error was written, whole or not
pub wrote_error : {T : Type 0} (wrote gave : Effect T) (old new : T) (code : ErrorCode)
    (told : Option ErrorCode) (text : List ℕ) (result : Bool) → told ≡ Some code
    → text ≡ fatal code → (result ≡ true → SomeCalls wrote gave old new (Wrote text))
    → (result ≡ false → SomeCalls wrote gave old new (WroteSome text))
    → SomeCalls wrote gave old new (WritesError told)
wrote_error wrote gave old new code told text true is text_is whole some =
    let calls = whole refl in
    subst (λ (o : Option ErrorCode). SomeCalls wrote gave old new (WritesError o)) (sym is)
    (calls.0, calls.1, ([], sym text_is ∙ sym calls.2.whole ∙ sym (append-nil (taken calls.0))))
wrote_error wrote gave old new code told text false is text_is whole some =
    let calls = some refl in
    subst (λ (o : Option ErrorCode). SomeCalls wrote gave old new (WritesError o)) (sym is) (
      calls.0,
      calls.1,
      (
        calls.2.left,
        sym text_is ∙ calls.2.beginning
            ∙ ap (λ xs. xs ++ calls.2.left)
            (sym (taken_is calls.0 calls.2.writes calls.2.last calls.2.all calls.2.failed)),
      ),
    )

-- where the first packets are refused with this error, the connection is refused for it
pub refused_for : (seen : Seen) (text : List ℕ) (at_end : Bool) (error : StartupError)
    → Answers seen text at_end (Err error) → IsRefusedFor seen text error
refused_for seen text at_end error answer = elim answer.told [
  | inl is ↦ inr (at_end, subst (λ (o : Outcome). IsOutcome seen text at_end o) is answer.is)
  | inr memory ↦ inl memory.1
]

-- the connection is refused, and the refusal was written
pub ends_refused : {T : Type 0} (means : Arriving T) (old new : T) (seen : Seen)
    (text : List ℕ) (error : StartupError) → IsRefusedFor seen text error
    → Refuses means error old new → Ends means seen text old new
ends_refused means old new seen text error for refuses =
    (Some error, (for, old, ([], refl, refl), refuses))

-- the connection is lost
pub ends_lost : {T : Type 0} (means : Arriving T) (old new : T) (seen : Seen)
    (text : List ℕ) → WritesNothing means old new → Ends means seen text old new
ends_lost means old new seen text calls = (None, calls)

-- a read before calls that wrote nothing
reads_before : {T : Type 0} (means : Arriving T) (a b c : T) (buffer : List ℕ)
    (result : Result ℕ Error) → means.gave a buffer result b → WritesNothing means b c
    → WritesNothing means a c
reads_before means a b c buffer result call calls =
    (ReadCall buffer result ∷ calls.0, (b, call, calls.1), calls.2)

-- a read before the end
pub ends_after : {T : Type 0} (means : Arriving T) (a b c : T) (seen : Seen)
    (text buffer : List ℕ) (result : Result ℕ Error) → means.gave a buffer result b
    → Ends means seen text b c → Ends means seen text a c
ends_after means a b c seen text buffer result call ends =
    (ends.0, ends_so ends.0 ends.1)
  where
    ends_so : (why : Option StartupError) → EndsBy means seen text why b c
        → EndsBy means seen text why a c
    ends_so None is = reads_before means a b c buffer result call is
    ends_so (Some error) is =
        (is.0, is.1, reads_before means a b is.1 buffer result call is.2, is.3)

-- a read that failed
pub read_lost : {T : Type 0} (means : Arriving T) (a b : T) (seen : Seen)
    (text buffer : List ℕ) (result : Result ℕ Error) → means.gave a buffer result b
    → Ends means seen text a b
read_lost means a b seen text buffer result call =
    (None, (ReadCall buffer result ∷ [], (b, call, refl), refl))

-- the end is that of the same text
pub ends_of : {T : Type 0} (means : Arriving T) (a b : T) (seen : Seen)
    (slice text : List ℕ) → slice ≡ text → Ends means seen slice a b
    → Ends means seen text a b
ends_of means a b seen slice text is ends =
    subst (λ (xs : List ℕ). Ends means seen xs a b) is ends

-- one read gave bytes, no more than were wanted
pub read_some_more : {T : Type 0} (wrote gave : Effect T) (a b : T) (buffer : List ℕ)
    (count most : ℕ) (old new : List ℕ) → 0 < count → length (take count buffer) ≤ most
    → gave a buffer (Ok count) b → new ≡ old ++ take count buffer
    → SomeCalls wrote gave a b
    (λ calls. (bytes : List ℕ) × Read bytes calls × (length bytes ≤ most) × (new ≡ old ++ bytes))
read_some_more wrote gave a b buffer count most old new some within call is = (
  ReadCall buffer (Ok count) ∷ [],
  (b, call, refl),
  (
    take count buffer,
    record { each = (some, tt); whole = append-nil (take count buffer) },
    within,
    is,
  ),
)

-- a packet of which so much was read that is wanted
within_start : IsWithin []
within_start = record {
  packet = inl (omega arith);
  cancel = λ is. absurd (omega (arith, is.stands));
}

-- more bytes leave a CancelRequest's header
cancel_before : (text bytes : List ℕ) → 8 ≤ length text → IsCancel (text ++ bytes) → IsCancel text
cancel_before text bytes stands is = record {
  stands = stands;
  coded = sym (code_of-append text bytes stands) ∙ is.coded;
  measured = subst (λ (n : ℕ). (n ≡ 16) ⊎ (n ≡ 32))
      (length_of-append text bytes (omega (arith, stands))) is.measured;
}

-- a CancelRequest has no fewer bytes than its header
cancel_longer : (text : List ℕ) → IsCancel text → 8 < length_of text
cancel_longer text is = elim is.measured [
  | inl short ↦ omega (arith, short)
  | inr long ↦ omega (arith, long)
]

pub within_more : (text bytes : List ℕ) (count : ℕ) → IsWithin text
    → Wants text (wanted.Read count) → length bytes ≤ count → IsWithin (text ++ bytes)
within_more text bytes count within wants fits = so wants.1
  where
    all : length (text ++ bytes) ≡ length text + length bytes
    all = length-append text bytes

    so : IsReadTo text wants.0 → IsWithin (text ++ bytes)
    so (inl head) =
        let short : length (text ++ bytes) ≤ 8 =
        omega (arith, head.0, head.1, wants.2, fits, all) in
        record {
          packet = inl short;
          cancel = λ is. omega (arith, short, cancel_longer (text ++ bytes) is);
        }
    so (inr (inl cancel)) =
        let measured = length_of-append text bytes (omega (arith, cancel.0.stands)) in
        let before = within.cancel cancel.0 in
        let short : length (text ++ bytes) < length_of (text ++ bytes) =
        omega (arith, measured, before, cancel.1, wants.2, fits, all) in
        record { packet = inr (omega (arith, short)); cancel = λ is. short }
    so (inr (inr other)) =
        let measured = length_of-append text bytes (omega (arith, other.0)) in
        record {
          packet = elim within.packet [
            | inl head ↦ more_packet (omega (arith, head, other.0))
            | inr body ↦ inr (omega (arith, measured, body, other.2, wants.2, fits, all))
          ];
          cancel = λ is. absurd (other.1 (cancel_before text bytes other.0 is));
        }
      where
        more_packet : length text ≡ 8 → (length (text ++ bytes) ≤ 8)
            ⊎ (length (text ++ bytes) ≤ length_of (text ++ bytes))
        more_packet eight = pick (cases_lt wants.0 8)
          where
            pick : (wants.0 < 8) ⊎ (8 ≤ wants.0) → (length (text ++ bytes) ≤ 8)
                ⊎ (length (text ++ bytes) ≤ length_of (text ++ bytes))
            pick (inl less) = inl (omega (arith, less, eight, wants.2, fits, all))
            pick (inr most) =
                let measured = length_of-append text bytes (omega (arith, eight)) in
                inr (omega (arith, most, eight, measured, other.2, wants.2, fits, all))

-- writes wrote, reads read
writes_done : (calls : List Call) → AllByRecursion IsWrite calls
    → AllByRecursion IsDone calls × (given calls ≡ [])
writes_done [] each = (tt, refl)
writes_done (WriteCall bytes (Ok count) ∷ calls) each =
    let more = writes_done calls each.1 in ((each.0.1, more.0), more.1)
writes_done (WriteCall bytes (Err error) ∷ calls) each = absurd each.0
writes_done (ReadCall buffer result ∷ calls) each = absurd each.0

reads_done : (calls : List Call) → AllByRecursion IsRead calls
    → AllByRecursion IsDone calls × (taken calls ≡ [])
reads_done [] each = (tt, refl)
reads_done (ReadCall buffer (Ok count) ∷ calls) each =
    let more = reads_done calls each.1 in ((each.0, more.0), more.1)
reads_done (ReadCall buffer (Err error) ∷ calls) each = absurd each.0
reads_done (WriteCall bytes result ∷ calls) each = absurd each.0

-- requests for encryption, and then one more
Asks-append : (old seen new : Seen) (asked : List Negotiation) (one : Negotiation)
    → Asks old asked seen → Asks seen (one ∷ []) new → Asks old (asked ++ one ∷ []) new
Asks-append old seen new [] one first more =
    subst (λ (s : Seen). Asks s (one ∷ []) new) first more
Asks-append old seen new (Ssl ∷ asked) one first more =
    (first.0, Asks-append (record old { ssl = true }) seen new asked one first.1 more)
Asks-append old seen new (Gss ∷ asked) one first more =
    (first.0, Asks-append (record old { gss = true }) seen new asked one first.1 more)

-- nothing was read
negotiated_start : Negotiated [] none_seen []
negotiated_start = record { each = tt; asked = []; asks = refl; read = refl; written = refl }

-- more was read
negotiated_read : (calls more : List Call) (seen : Seen) (rest bytes : List ℕ)
    → Negotiated calls seen rest → Read bytes more
    → Negotiated (calls ++ more) seen (rest ++ bytes)
negotiated_read calls more seen rest bytes is read =
    let done = reads_done more read.each in
    record {
      each = each-append IsDone calls more is.each done.0;
      asked = is.asked;
      asks = is.asks;
      read = given-append calls more ∙ ap (λ xs. xs ++ given more) is.read
          ∙ ap (λ xs. (flat_map packet_of is.asked ++ rest) ++ xs) read.whole
          ∙ append_assoc (flat_map packet_of is.asked) rest bytes;
      written = taken-append calls more ∙ ap (λ xs. taken calls ++ xs) done.1
          ∙ append-nil (taken calls) ∙ is.written;
    }

-- a request for encryption was answered
negotiated_asked : (calls more : List Call) (seen seen' : Seen) (rest rest' : List ℕ)
    (one : Negotiation) → Negotiated calls seen rest → Asks seen (one ∷ []) seen'
    → rest ≡ packet_of one ++ rest' → Wrote (78 ∷ []) more
    → Negotiated (calls ++ more) seen' rest'
negotiated_asked calls more seen seen' rest rest' one is asks rest_is wrote =
    let done = writes_done more wrote.each in
    record {
      each = each-append IsDone calls more is.each done.0;
      asked = is.asked ++ one ∷ [];
      asks = Asks-append none_seen seen seen' is.asked one is.asks asks;
      read = given-append calls more ∙ ap (λ xs. given calls ++ xs) done.1
          ∙ append-nil (given calls) ∙ is.read
          ∙ ap (λ xs. flat_map packet_of is.asked ++ xs) rest_is
          ∙ sym (append_assoc (flat_map packet_of is.asked) (packet_of one) rest')
          ∙ ap (λ xs. (flat_map packet_of is.asked ++ xs) ++ rest') (sym (append-nil (packet_of
          one)))
          ∙ ap (λ xs. xs ++ rest') (sym (flat_map-append packet_of is.asked (one ∷ [])));
      written = taken-append calls more ∙ ap (λ xs. xs ++ taken more) is.written
          ∙ ap (λ xs. replicate (length is.asked) 78 ++ xs) wrote.whole
          ∙ replicate_more (length is.asked) 78
          ∙ ap (λ (n : ℕ). replicate n 78) (sym (length-append is.asked (one ∷ [])));
    }

-- so far requests for encryption were answered, and this was read behind them
pub record Underway {T : Type 0} (means : Arriving T) (old : T) (seen : Seen) (rest : List ℕ)
    (new : T) : Type 0 where
  pub reads : Reads means old seen rest new
  pub within : IsWithin rest

pub underway_start : {T : Type 0} (means : Arriving T) (old : T) (seen : Seen)
    (rest : List ℕ) → seen ≡ none_seen → rest ≡ [] → Underway means old seen rest old
underway_start means old seen rest none nothing = record {
  reads = (
    [],
    refl,
    subst (λ (s : Seen). Negotiated [] s rest) (sym none)
        (subst (λ (r : List ℕ). Negotiated [] none_seen r) (sym nothing) negotiated_start),
  );
  within = subst IsWithin (sym nothing) within_start;
}

-- more was read
pub underway_read : {T : Type 0} (means : Arriving T) (old new new' : T) (seen seen' : Seen)
    (rest rest' : List ℕ) (count : ℕ) → Underway means old seen rest new
    → Wants rest (wanted.Read count) → seen' ≡ seen
    → SomeCalls means.wrote means.gave new new'
    (λ calls. (bytes : List ℕ) × Read bytes calls × (length bytes ≤ count)
    × (rest' ≡ rest ++ bytes))
    → Underway means old seen' rest' new'
underway_read means old new new' seen seen' rest rest' count so_far wants is more =
    let calls = so_far.reads.0 ++ more.0 in
    let bytes = more.2.0 in
    record {
      reads = (
        calls,
        Makes-append means.wrote means.gave old new new' so_far.reads.0 more.0 so_far.reads.1
            more.1,
        subst (λ (s : Seen). Negotiated calls s rest') (sym is)
            (subst (λ (r : List ℕ). Negotiated calls seen r) (sym more.2.3)
            (negotiated_read so_far.reads.0 more.0 seen rest bytes so_far.reads.2 more.2.1)),
      );
      within = subst IsWithin (sym more.2.3)
          (within_more rest bytes count so_far.within wants more.2.2);
    }

-- more is wanted, which leaves what was seen
pub underway_wants : {T : Type 0} (means : Arriving T) (old new : T) (seen seen' : Seen)
    (rest : List ℕ) (found : First) → Underway means old seen rest new
    → found ≡ first.More → seen' ≡ seen_after seen (Ok found)
    → Underway means old seen' rest new
underway_wants means old new seen seen' rest found so_far is after =
    subst (λ (s : Seen). Underway means old s rest new)
    (sym (after ∙ ap (λ (f : First). seen_after seen (Ok f)) is)) so_far

-- a request for encryption that begins the text, seen for the first time
record AsksHere (seen : Seen) (text : List ℕ) (seen' : Seen) : Type 0 where
  pub one : Negotiation
  pub asks : Asks seen (one ∷ []) seen'
  pub text_is : text ≡ packet_of one ++ drop 8 text

ssl_here : (seen : Seen) (text : List ℕ) → IsOutcome seen text false SslPacket
    → AsksHere seen text (record seen { ssl = true })
ssl_here seen text (inl is) = record {
  one = Ssl;
  asks = (is.0, refl);
  text_is = is.1.spelled ∙ ap (λ xs. ssl_request ++ xs) (sym (ap (drop 8) is.1.spelled));
}
ssl_here seen text (inr undecided) = absurd (cc undecided.1)

gss_here : (seen : Seen) (text : List ℕ) → IsOutcome seen text false GssPacket
    → AsksHere seen text (record seen { gss = true })
gss_here seen text (inl is) = record {
  one = Gss;
  asks = (is.0, refl);
  text_is = is.1.spelled ∙ ap (λ xs. gss_request ++ xs) (sym (ap (drop 8) is.1.spelled));
}
gss_here seen text (inr undecided) = absurd (cc undecided.1)

asks_here : (seen seen' : Seen) (text : List ℕ) (found : First)
    → (found ≡ first.Ssl) ⊎ (found ≡ first.Gss) → Answers seen text false (Ok found)
    → seen' ≡ seen_after seen (Ok found) → AsksHere seen text seen'
asks_here seen seen' text first.Ssl which answer after =
    subst (λ (s : Seen). AsksHere seen text s) (sym after)
    (ssl_here seen text
    (subst (λ (o : Outcome). IsOutcome seen text false o) answer.told answer.is))
asks_here seen seen' text first.Gss which answer after =
    subst (λ (s : Seen). AsksHere seen text s) (sym after)
    (gss_here seen text
    (subst (λ (o : Outcome). IsOutcome seen text false o) answer.told answer.is))
asks_here seen seen' text first.More (inl is) answer after = absurd (cc is)
asks_here seen seen' text first.More (inr is) answer after = absurd (cc is)
asks_here seen seen' text (first.Cancel key) (inl is) answer after = absurd (cc is)
asks_here seen seen' text (first.Cancel key) (inr is) answer after = absurd (cc is)
asks_here seen seen' text (first.Startup kind user database used) (inl is) answer after =
    absurd (cc is)
asks_here seen seen' text (first.Startup kind user database used) (inr is) answer after =
    absurd (cc is)

-- a request for encryption has eight bytes, as its length field says
asked_length : (one : Negotiation) (rest : List ℕ)
    → (length_of (packet_of one ++ rest) ≡ 8) × (length (packet_of one ++ rest) ≡ 8 + length rest)
asked_length Ssl rest = (refl, omega arith)
asked_length Gss rest = (refl, omega arith)

-- nothing was read behind it
asked_alone : (one : Negotiation) (text rest : List ℕ) → text ≡ packet_of one ++ rest
    → IsWithin text → IsWithin rest
asked_alone one text rest is within =
    let measured : length_of text ≡ 8 = ap length_of is ∙ (asked_length one rest).0 in
    let all : length text ≡ 8 + length rest = ap length is ∙ (asked_length one rest).1 in
    let none : length rest ≡ 0 = elim within.packet [
      | inl head ↦ omega (arith, head, all)
      | inr body ↦ omega (arith, body, measured, all)
    ] in
    subst IsWithin (sym (nil_from_length rest none)) within_start

-- a request for encryption was answered
pub underway_asked : {T : Type 0} (means : Arriving T) (old new new' : T)
    (seen seen' : Seen) (text rest : List ℕ) (found : First)
    → Underway means old seen text new → (found ≡ first.Ssl) ⊎ (found ≡ first.Gss)
    → Answers seen text false (Ok found) → seen' ≡ seen_after seen (Ok found)
    → rest ≡ drop 8 text → SomeCalls means.wrote means.gave new new' (Wrote (78 ∷ []))
    → Underway means old seen' rest new'
underway_asked means old new new' seen seen' text rest found so_far which answer after is more =
    let here = asks_here seen seen' text found which answer after in
    let text_is : text ≡ packet_of here.one ++ rest =
    here.text_is ∙ ap (λ xs. packet_of here.one ++ xs) (sym is) in
    record {
      reads = (
        so_far.reads.0 ++ more.0,
        Makes-append means.wrote means.gave old new new' so_far.reads.0 more.0 so_far.reads.1
            more.1,
        negotiated_asked so_far.reads.0 more.0 seen seen' text rest here.one so_far.reads.2
            here.asks text_is more.2,
      );
      within = asked_alone here.one text rest text_is so_far.within;
    }

-- the connection is over
pub opens_over : {T : Type 0} (means : Arriving T) (old new new' : T) (seen : Seen)
    (rest : List ℕ) → Underway means old seen rest new → Ends means seen rest new new'
    → Opens means old Over new'
opens_over means old new new' seen rest so_far ends =
    (seen, rest, so_far.within, new, so_far.reads, inl ends)

-- a look was made
pub opens_looked : {T : Type 0} (means : Arriving T) (old new new' : T) (seen : Seen)
    (text : List ℕ) (result : Opened) → Underway means old seen text new → LacksLast text
    → Looks means seen text new result new' → Opens means old result new'
opens_looked means old new new' seen text (Session database kind) so_far lacks looks = absurd looks
opens_looked means old new new' seen text (Cancel key) so_far lacks looks =
    (seen, text, looks.0, lacks, looks.1, new, so_far.reads, looks.2)
opens_looked means old new new' seen text Over so_far lacks looks =
    (seen, text, so_far.within, new, so_far.reads, inr looks)

-- a CancelRequest isn't read whole
cancel_whole : (seen : Seen) (text key : List ℕ) → IsWithin text
    → Decides seen text (CancelPacket key) → ⊥
cancel_whole seen text key within decides =
    let short : length key ≤ 24 = elim decides.0 [
      | inl eight ↦ omega (arith, eight)
      | inr more ↦ omega (arith, more)
    ] in
    let fields = fields_of text cancel_code key (lit< tt) (omega (arith, short)) decides.1 in
    let is : IsCancel text = record {
      stands = omega (arith, fields.whole);
      coded = fields.coded;
      measured = elim decides.0 [
        | inl eight ↦ inl (omega (arith, eight, fields.measured))
        | inr more ↦ inr (omega (arith, more, fields.measured))
      ];
    } in
    absurd (omega (arith, within.cancel is, fields.measured, fields.whole))

pub no_cancel : {T : Type 0} (means : Arriving T) (old new : T) (seen : Seen) (text : List ℕ)
    (key : AnyKey) → Underway means old seen text new
    → Answers seen text false (Ok (first.Cancel key)) → ⊥
no_cancel means old new seen text key so_far answer =
    so (subst (λ (o : Outcome). IsOutcome seen text false o) answer.told answer.is)
  where
    so : IsOutcome seen text false (CancelPacket (any_key_bytes key)) → ⊥
    so (inl is) = cancel_whole seen text (any_key_bytes key) so_far.within is
    so (inr undecided) = absurd (cc undecided.1)

-- the code of a StartupMessage fits
code_fits : (kind : Kind) → startup_code kind < 2 ^ 32
code_fits Short = lit< tt
code_fits Long = lit< tt

-- a text that is a StartupMessage and nothing else
starts_decided : (seen : Seen) (text : List ℕ) (kind : Kind) (user database : List ℕ)
    (used : ℕ) → IsWithin text → Decides seen text (Startup kind user database used)
    → Decides seen text (Startup kind user database (length text))
starts_decided seen text kind user database used within is =
    let body = body_of is.0 in
    let begins = is.1.message.begins in
    let fields = fields_of text (startup_code kind) body (code_fits kind)
    (omega (arith, is.1.message.upper)) begins in
    let all : length text ≡ 8 + length body = elim within.packet [
      | inl head ↦ omega (arith, head, fields.whole)
      | inr rest ↦ omega (arith, rest, fields.whole, fields.measured)
    ] in
    (is.0, is.1, is.2, is.3, is.4, all)

-- a StartupMessage was read
pub opens_session : {T : Type 0} (means : Arriving T) (old new : T) (seen : Seen)
    (text : List ℕ) (kind : Kind) (user database : String Global) (used : ℕ)
    → Underway means old seen text new
    → Answers seen text false (Ok (first.Startup kind user database used))
    → Opens means old (Session database kind) new
opens_session means old new seen text kind user database used so_far answer = (
  seen,
  string_bytes user,
  text,
  so (subst (λ (o : Outcome). IsOutcome seen text false o) answer.told answer.is),
  so_far.reads,
)
  where
    so : IsOutcome seen text false (Startup kind (string_bytes user) (string_bytes database) used)
        → Decides seen text (Startup kind (string_bytes user) (string_bytes database) (length text))
    so (inl is) = starts_decided seen text kind (string_bytes user) (string_bytes database) used
        so_far.within is
    so (inr undecided) = absurd (cc undecided.1)

-- what a look showed
one_byte : (bytes : List ℕ) (d : ℕ) → length bytes ≡ 1 → bytes ≡ get_or bytes 0 d ∷ []
one_byte [] d is = absurd (omega (arith, is))
one_byte (a ∷ []) d is = refl
one_byte (a ∷ b ∷ more) d is = absurd (omega (arith, is))

pub saw_last : {T : Type 0} (means : Arriving T) (old new : T) (seen : Seen) (front buffer : List ℕ)
    (count : ℕ) (key : AnyKey) (d : ℕ) → count ≡ 1 → length buffer ≡ 1
    → means.saw old buffer (Ok count) new
    → Decides seen (front ++ get_or buffer 0 d ∷ []) (CancelPacket (any_key_bytes key))
    → Looks means seen front old (Cancel key) new
saw_last means old new seen front buffer count key d one room saw decides = (
  get_or buffer 0 d,
  decides,
  subst (λ (n : ℕ). means.saw old (get_or buffer 0 d ∷ []) (Ok n) new) one
      (subst (λ (xs : List ℕ). means.saw old xs (Ok count) new) (one_byte buffer d room) saw),
)

-- a look that failed, or found the end
pub saw_nothing : {T : Type 0} (means : Arriving T) (a b c : T) (seen : Seen) (text buffer : List ℕ)
    (result : Result ℕ Error) → LacksLast text → length buffer ≡ 1 → means.saw a buffer result b
    → SeesNothing result → Ends means seen text b c → Looks means seen text a Over c
saw_nothing means a b c seen text buffer result lacks room saw nothing ends = record {
  lacks = lacks;
  buffer = buffer;
  room = room;
  result = result;
  next = b;
  saw = saw;
  nothing = nothing;
  ends = ends;
}
