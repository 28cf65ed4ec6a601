-- What was written and read in a stay, over all its rounds.
use Rattle.std.proofs.Common.{◌≡◌, ℕ, List, [], ◌∷◌, ◌++◌, take, Ok, Err, refl, sym, ap, ◌∙◌, subst, arith, append_assoc, append-nil}
use Rattle.std.specs.List.{AllByRecursion, flat_map}
use Rattle.peer_forward.specs.Calls.{Call, WriteCall, ReadCall, taken}
use Rattle.pg_frames.specs.declared.frame.Frame.{Frame}
use Rattle.pg_frames.specs.FrameText.{texts}
use Rattle.client_state.specs.Acts.{ready_text}
use Rattle.session_io.specs.declared.session.outcome.Stayed.{Stayed}
use Rattle.session_io.specs.StreamCalls.{given, IsWrite, IsFailedWrite, IsRead, IsFailedRead, IsDone, Wrote, WroteSome, Read, ReadToEnd}
use Rattle.session_io.specs.Asking.{Leaving, Says, Faulty, Silent, NoMemory, Leaves}
use Rattle.session_io.specs.Replying.{ReplyEnd, Ready, Unclear, Unfit, Faulty as FaultyEnd, Lost, Cut, Untold, passed_on, ReadsReply, WritesReply, EndsStay}
use Rattle.session_io.specs.Stay.{Round, asked, IsRound, Ending, Unsent, Replied, Deserted, Ends, Runs, IsWritten, SessionGoesOn, IsRefusedMemory, to_link, told_in, told_at, to_client, left_by, asked_at, asked_for, Stay}
use Rattle.peer_forward.proofs.CallLemmas.{taken-append, taken_is}
use Rattle.session_io.proofs.CallLists.{given-append}

-- reads write nothing, and writes read nothing
taken-reads : (calls : List Call) → AllByRecursion IsRead calls → taken calls ≡ []
taken-reads [] each = refl
taken-reads (WriteCall bytes result ∷ calls) each = absurd each.0
taken-reads (ReadCall buffer result ∷ calls) each = taken-reads calls each.1

taken-failed_read : (call : Call) → IsFailedRead call → taken (call ∷ []) ≡ []
taken-failed_read (WriteCall bytes result) failed = absurd failed
taken-failed_read (ReadCall buffer result) failed = refl

given-writes : (calls : List Call) → AllByRecursion IsWrite calls → given calls ≡ []
given-writes [] each = refl
given-writes (WriteCall bytes result ∷ calls) each = given-writes calls each.1
given-writes (ReadCall buffer result ∷ calls) each = absurd each.0

given-failed_write : (call : Call) → IsFailedWrite call → given (call ∷ []) ≡ []
given-failed_write (WriteCall bytes result) failed = refl
given-failed_write (ReadCall buffer result) failed = absurd failed

-- a failed call moves nothing
pub given-failed_read : (call : Call) → IsFailedRead call → given (call ∷ []) ≡ []
given-failed_read (ReadCall buffer (Ok count)) failed =
    ap (λ n. take n buffer ++ []) failed.0
given-failed_read (ReadCall buffer (Err error)) failed = refl
given-failed_read (WriteCall bytes result) failed = refl

-- and isn't done
not_done : (call : Call) → IsFailedWrite call → IsDone call → ⊥
not_done (WriteCall bytes (Ok count)) failed done = omega (arith, failed, done)
not_done (WriteCall bytes (Err error)) failed done = done
not_done (ReadCall buffer result) failed done = failed

last_done : (calls : List Call) (last : Call) → AllByRecursion IsDone (calls ++ last ∷ [])
    → IsDone last
last_done [] last all = all.0
last_done (call ∷ calls) last all = last_done calls last all.1

done_first : (xs ys : List Call) → AllByRecursion IsDone (xs ++ ys) → AllByRecursion IsDone xs
done_first [] ys all = tt
done_first (x ∷ xs) ys all = (all.0, done_first xs ys all.1)

done_last : (xs ys : List Call) → AllByRecursion IsDone (xs ++ ys) → AllByRecursion IsDone ys
done_last [] ys all = all
done_last (x ∷ xs) ys all = done_last xs ys all.1

-- the totals of lists of calls
read_taken : (bytes : List ℕ) (calls : List Call) → Read bytes calls → taken calls ≡ []
read_taken bytes calls read = taken-reads calls read.each

read_end_taken : (bytes : List ℕ) (calls : List Call) → ReadToEnd bytes calls → taken calls ≡ []
read_end_taken bytes calls read = ap taken read.all ∙ taken-append read.reads (read.last ∷ [])
    ∙ ap (λ xs. xs ++ taken (read.last ∷ [])) (taken-reads read.reads read.each)
    ∙ taken-failed_read read.last read.failed

read_end_given : (bytes : List ℕ) (calls : List Call) → ReadToEnd bytes calls
    → given calls ≡ bytes
read_end_given bytes calls read = ap given read.all ∙ given-append read.reads (read.last ∷ [])
    ∙ ap (λ xs. given read.reads ++ xs) (given-failed_read read.last read.failed)
    ∙ append-nil (given read.reads) ∙ read.whole

wrote_given : (text : List ℕ) (calls : List Call) → Wrote text calls → given calls ≡ []
wrote_given text calls wrote = given-writes calls wrote.each

wrote_some_given : (text : List ℕ) (calls : List Call) → WroteSome text calls → given calls ≡ []
wrote_some_given text calls wrote = ap given wrote.all
    ∙ given-append wrote.writes (wrote.last ∷ [])
    ∙ ap (λ xs. xs ++ given (wrote.last ∷ [])) (given-writes wrote.writes wrote.each)
    ∙ given-failed_write wrote.last wrote.failed

-- a text that was written whole, or not
written_whole : (text : List ℕ) (calls : List Call) → taken calls ≡ text → IsWritten text calls
written_whole text calls is =
    record { rest = []; beginning = sym (append-nil (taken calls) ∙ is); whole = λ done. refl }

written_some : (text : List ℕ) (calls : List Call) → WroteSome text calls → IsWritten text calls
written_some text calls some = record {
  rest = some.left;
  beginning = some.beginning
      ∙ ap (λ xs. xs ++ some.left)
      (sym (taken_is calls some.writes some.last some.all some.failed));
  whole = λ done. absurd (not_done some.last some.failed (last_done some.writes some.last
      (subst (AllByRecursion IsDone) some.all done)));
}

-- a text of which the front was written by calls before
written_after : (text more all : List ℕ) (xs ys calls : List Call) → taken xs ≡ text
    → IsWritten more ys → all ≡ text ++ more → calls ≡ xs ++ ys → IsWritten all calls
written_after text more all xs ys calls first rest all_is calls_are = record {
  rest = rest.rest;
  beginning = all_is ∙ ap (λ zs. text ++ zs) rest.beginning
      ∙ sym (append_assoc text (taken ys) rest.rest)
      ∙ ap (λ zs. (zs ++ taken ys) ++ rest.rest) (sym first)
      ∙ ap (λ zs. zs ++ rest.rest) (sym (ap taken calls_are ∙ taken-append xs ys));
  whole = λ done. rest.whole (done_last xs ys (subst (AllByRecursion IsDone) calls_are done));
}

-- what was written by the calls before others that write nothing
written_before : (text : List ℕ) (xs ys calls : List Call) → taken xs ≡ text → taken ys ≡ []
    → calls ≡ xs ++ ys → taken calls ≡ text
written_before text xs ys calls first none calls_are = ap taken calls_are ∙ taken-append xs ys
    ∙ ap (λ zs. taken xs ++ zs) none ∙ append-nil (taken xs) ∙ first

-- what a reply reads and writes
reply_taken : (end : ReplyEnd) (bytes : List ℕ) (reads : List Call) → ReadsReply end bytes reads
    → taken reads ≡ []
reply_taken (Ready status after) bytes reads read = read_taken bytes reads read
reply_taken (Unclear status after) bytes reads read = read_taken bytes reads read
reply_taken (Unfit kind size after) bytes reads read = read_taken bytes reads read
reply_taken (FaultyEnd rest fault) bytes reads read = read_taken bytes reads read
reply_taken (Lost rest) bytes reads read = read_end_taken bytes reads read
reply_taken (Cut kind size body) bytes reads read = read_end_taken bytes reads read
reply_taken (Untold begun after) bytes reads read = read_taken bytes reads read

reply_written : (end : ReplyEnd) (text : List ℕ) (tells : List Call) → WritesReply end text tells
    → IsWritten text tells
reply_written (Ready status after) text tells told = written_whole text tells told.whole
reply_written (Unclear status after) text tells told = written_whole text tells told.whole
reply_written (Unfit kind size after) text tells told = written_whole text tells told.whole
reply_written (FaultyEnd rest fault) text tells told = written_whole text tells told.whole
reply_written (Lost rest) text tells told = written_whole text tells told.whole
reply_written (Cut kind size body) text tells told = written_whole text tells told.whole
reply_written (Untold begun after) text tells told = written_some text tells told

reply_given : (end : ReplyEnd) (text : List ℕ) (tells : List Call) → WritesReply end text tells
    → given tells ≡ []
reply_given (Ready status after) text tells told = wrote_given text tells told
reply_given (Unclear status after) text tells told = wrote_given text tells told
reply_given (Unfit kind size after) text tells told = wrote_given text tells told
reply_given (FaultyEnd rest fault) text tells told = wrote_given text tells told
reply_given (Lost rest) text tells told = wrote_given text tells told
reply_given (Cut kind size body) text tells told = wrote_given text tells told
reply_given (Untold begun after) text tells told = wrote_some_given text tells told

-- where the session goes on, the reply was written whole
reply_whole : (limit : ℕ) (end : ReplyEnd) (text : List ℕ) (tells : List Call) (outcome : Stayed)
    → WritesReply end text tells → EndsStay limit end outcome → SessionGoesOn outcome
    → taken tells ≡ text
reply_whole limit (Ready status after) text tells outcome told ends goes = told.whole
reply_whole limit (Unclear status after) text tells outcome told ends goes = told.whole
reply_whole limit (Unfit kind size after) text tells outcome told ends goes = told.whole
reply_whole limit (FaultyEnd rest fault) text tells outcome told ends goes = told.whole
reply_whole limit (Lost rest) text tells outcome told ends goes = told.whole
reply_whole limit (Cut kind size body) text tells outcome told ends goes = told.whole
reply_whole limit (Untold begun after) text tells outcome told ends goes =
    absurd (subst SessionGoesOn ends.1 goes)

-- what a client reads before it leaves
leaves_taken : (limit : ℕ) (leaving : Leaving) (kept : List ℕ) (calls : List Call)
    (reply left : List ℕ)
    → Leaves limit leaving kept calls reply left → taken calls ≡ []
leaves_taken limit (Says parts last) kept calls reply left leaves = read_taken leaves.0 calls
    leaves.2
leaves_taken limit (Faulty parts fault) kept calls reply left leaves =
    read_taken leaves.0 calls leaves.1
leaves_taken limit (Silent parts) kept calls reply left leaves = read_end_taken leaves.0 calls
    leaves.1
leaves_taken limit (NoMemory parts rest) kept calls reply left leaves =
    read_taken leaves.0 calls leaves.1

leaves_given : (limit : ℕ) (frames : List Frame) (status : ℕ) (leaving : Leaving) (kept : List ℕ)
    (calls : List Call) (reply left : List ℕ)
    → (IsRefusedMemory (Deserted frames status leaving) → ⊥)
    → Leaves limit leaving kept calls reply left → kept ++ given calls ≡ left_by leaving ++ left
leaves_given limit frames status (Says parts last) kept calls reply left memory leaves =
    ap (λ xs. kept ++ xs) leaves.2.whole ∙ leaves.3
leaves_given limit frames status (Faulty parts fault) kept calls reply left memory leaves =
    ap (λ xs. kept ++ xs) leaves.1.whole ∙ leaves.2
leaves_given limit frames status (Silent parts) kept calls reply left memory leaves =
    ap (λ xs. kept ++ xs) (read_end_given leaves.0 calls leaves.1) ∙ leaves.2
leaves_given limit frames status (NoMemory parts rest) kept calls reply left memory leaves =
    absurd (memory tt)

-- what the link took
sent_at : (limit : ℕ) (ending : Ending) (request before kept : List ℕ) (link client : List Call)
    (outcome : Stayed) (left : List ℕ)
    → Ends limit ending request before kept link client outcome left
    → IsWritten (request ++ []) link
sent_at limit Unsent request before kept link client outcome left ends =
    subst (λ xs. IsWritten xs link) (sym (append-nil request)) (written_some request link ends.0)
sent_at limit (Replied frames end) request before kept link client outcome left ends =
    written_whole (request ++ []) link
    (written_before request ends.0 ends.1 link ends.3.whole
    (reply_taken end ends.4.bytes ends.1 ends.4.read) ends.2 ∙ sym (append-nil request))
sent_at limit (Deserted frames status leaving) request before kept link client outcome left ends =
    written_whole (request ++ []) link
    (written_before request ends.0 ends.1 link ends.6.whole
    (read_taken ends.7.bytes ends.1 ends.7.read) ends.2 ∙ sym (append-nil request))

round_sent : (limit : ℕ) (request before kept : List ℕ) (round : Round) (link client : List Call)
    (left : List ℕ) → IsRound limit request before kept round link client left
    → taken link ≡ request
round_sent limit request before kept round link client left is =
    written_before request is.sends is.reads link is.sent.whole
    (read_taken is.replied.bytes is.reads is.replied.read) is.link_is

all_sent : (limit : ℕ) (rounds : List Round) (ending : Ending) (request before kept : List ℕ)
    (link client : List Call) (outcome : Stayed) (left : List ℕ)
    → Runs limit rounds ending request before kept link client outcome left
    → IsWritten (to_link request rounds) link
all_sent limit [] ending request before kept link client outcome left runs =
    sent_at limit ending request before kept link client outcome left runs
all_sent limit (round ∷ rounds) ending request before kept link client outcome left runs =
    written_after request (to_link (asked round) rounds) (to_link request (round ∷ rounds)) runs.0
    runs.1 link
    (round_sent limit request before kept round runs.0 runs.3 runs.6 runs.7)
    (all_sent limit rounds ending (asked round) [] runs.6 runs.1 runs.4 outcome left runs.8) refl
    runs.2

-- what the client took
round_told : (limit : ℕ) (request before kept : List ℕ) (round : Round) (link client : List Call)
    (left : List ℕ) → IsRound limit request before kept round link client left
    → taken client ≡ told_in round
round_told limit request before kept round link client left is =
    written_before (told_in round) is.tells is.asks client is.replied.told.whole
    (read_taken is.bytes is.asks is.read) is.client_is

told_last : (limit : ℕ) (ending : Ending) (request before kept : List ℕ) (link client : List Call)
    (outcome : Stayed) (left : List ℕ)
    → Ends limit ending request before kept link client outcome left
    → IsWritten (told_at ending) client
told_last limit Unsent request before kept link client outcome left ends =
    written_whole [] client (ap taken ends.1)
told_last limit (Replied frames end) request before kept link client outcome left ends =
    reply_written end (passed_on frames end) client ends.4.told
told_last limit (Deserted frames status leaving) request before kept link client outcome left ends =
    written_whole (texts frames ++ ready_text status) client
    (written_before (texts frames ++ ready_text status) ends.3 ends.4 client ends.7.told.whole
    (leaves_taken limit leaving kept ends.4 ends.9 left ends.10) ends.5)

all_told : (limit : ℕ) (rounds : List Round) (ending : Ending) (request before kept : List ℕ)
    (link client : List Call) (outcome : Stayed) (left : List ℕ)
    → Runs limit rounds ending request before kept link client outcome left
    → IsWritten (to_client rounds ending) client
all_told limit [] ending request before kept link client outcome left runs =
    told_last limit ending request before kept link client outcome left runs
all_told limit (round ∷ rounds) ending request before kept link client outcome left runs =
    written_after (told_in round) (to_client rounds ending) (to_client (round ∷ rounds) ending)
    runs.3 runs.4 client
    (round_told limit request before kept round runs.0 runs.3 runs.6 runs.7)
    (all_told limit rounds ending (asked round) [] runs.6 runs.1 runs.4 outcome left runs.8)
    (append_assoc (told_in round) (flat_map told_in rounds) (told_at ending)) runs.5

-- both took all where the session goes on
whole_at : (limit : ℕ) (ending : Ending) (request before kept : List ℕ) (link client : List Call)
    (outcome : Stayed) (left : List ℕ)
    → Ends limit ending request before kept link client outcome left → SessionGoesOn outcome
    → (taken link ≡ request ++ []) × (taken client ≡ told_at ending)
whole_at limit Unsent request before kept link client outcome left ends goes =
    absurd (subst SessionGoesOn ends.3.2 goes)
whole_at limit (Replied frames end) request before kept link client outcome left ends goes = (
  written_before request ends.0 ends.1 link ends.3.whole
      (reply_taken end ends.4.bytes ends.1 ends.4.read) ends.2 ∙ sym (append-nil request),
  reply_whole limit end (passed_on frames end) client outcome ends.4.told ends.5 goes,
)
whole_at limit (Deserted frames status leaving) request before kept link client outcome left ends
    goes =
    absurd (subst SessionGoesOn ends.11 goes)

all_whole : (limit : ℕ) (rounds : List Round) (ending : Ending) (request before kept : List ℕ)
    (link client : List Call) (outcome : Stayed) (left : List ℕ)
    → Runs limit rounds ending request before kept link client outcome left → SessionGoesOn outcome
    → (taken link ≡ to_link request rounds) × (taken client ≡ to_client rounds ending)
all_whole limit [] ending request before kept link client outcome left runs goes =
    whole_at limit ending request before kept link client outcome left runs goes
all_whole limit (round ∷ rounds) ending request before kept link client outcome left runs goes =
    let rest = all_whole limit rounds ending (asked round) [] runs.6 runs.1 runs.4 outcome left
    runs.8
    goes in (
      ap taken runs.2 ∙ taken-append runs.0 runs.1
          ∙ ap (λ xs. xs ++ taken runs.1)
          (round_sent limit request before kept round runs.0 runs.3 runs.6 runs.7)
          ∙ ap (λ xs. request ++ xs) rest.0,
      ap taken runs.5 ∙ taken-append runs.3 runs.4
          ∙ ap (λ xs. xs ++ taken runs.4)
          (round_told limit request before kept round runs.0 runs.3 runs.6 runs.7)
          ∙ ap (λ xs. told_in round ++ xs) rest.1
          ∙ sym (append_assoc (told_in round) (flat_map told_in rounds) (told_at ending)),
    )

-- what was read of the client
given_at : (limit : ℕ) (ending : Ending) (request before kept : List ℕ) (link client : List Call)
    (outcome : Stayed) (left : List ℕ) → (IsRefusedMemory ending → ⊥)
    → Ends limit ending request before kept link client outcome left
    → kept ++ given client ≡ asked_at ending ++ left
given_at limit Unsent request before kept link client outcome left memory ends =
    ap (λ calls. kept ++ given calls) ends.1 ∙ append-nil kept ∙ sym ends.2
given_at limit (Replied frames end) request before kept link client outcome left memory ends =
    ap (λ xs. kept ++ xs) (reply_given end (passed_on frames end) client ends.4.told)
    ∙ append-nil kept ∙ sym ends.6
given_at limit (Deserted frames status leaving) request before kept link client outcome left memory
    ends =
    ap (λ xs. kept ++ xs) (ap given ends.5 ∙ given-append ends.3 ends.4
    ∙ ap (λ xs. xs ++ given ends.4)
    (wrote_given (texts frames ++ ready_text status) ends.3 ends.7.told))
    ∙ leaves_given limit frames status leaving kept ends.4 ends.9 left memory ends.10

round_given : (limit : ℕ) (request before kept : List ℕ) (round : Round) (link client : List Call)
    (left : List ℕ) → IsRound limit request before kept round link client left
    → kept ++ given client ≡ asked round ++ left
round_given limit request before kept round link client left is =
    ap (λ xs. kept ++ xs) (ap given is.client_is ∙ given-append is.tells is.asks
    ∙ ap (λ xs. xs ++ given is.asks) (wrote_given (told_in round) is.tells is.replied.told)
    ∙ is.read.whole) ∙ is.bytes_are

all_given : (limit : ℕ) (rounds : List Round) (ending : Ending) (request before kept : List ℕ)
    (link client : List Call) (outcome : Stayed) (left : List ℕ) → (IsRefusedMemory ending → ⊥)
    → Runs limit rounds ending request before kept link client outcome left
    → kept ++ given client ≡ asked_for rounds ending ++ left
all_given limit [] ending request before kept link client outcome left memory runs =
    given_at limit ending request before kept link client outcome left memory runs
all_given limit (round ∷ rounds) ending request before kept link client outcome left memory runs =
    let first = round_given limit request before kept round runs.0 runs.3 runs.6 runs.7 in
    let rest = all_given limit rounds ending (asked round) [] runs.6 runs.1 runs.4 outcome left
    memory
    runs.8 in
    ap (λ xs. kept ++ xs) (ap given runs.5 ∙ given-append runs.3 runs.4)
    ∙ sym (append_assoc kept (given runs.3) (given runs.4))
    ∙ ap (λ xs. xs ++ given runs.4) first
    ∙ append_assoc (asked round) runs.6 (given runs.4)
    ∙ ap (λ xs. asked round ++ xs) rest
    ∙ sym (append_assoc (asked round) (asked_for rounds ending) left)
    ∙ ap (λ xs. xs ++ left)
    (sym (append_assoc (asked round) (flat_map asked rounds) (asked_at ending)))

pub stay_of : (limit : ℕ) (request before kept : List ℕ) (link client : List Call)
    (outcome : Stayed)
    (left : List ℕ) (rounds : List Round) (ending : Ending)
    → Runs limit rounds ending request before kept link client outcome left
    → Stay limit request before kept link client outcome left
stay_of limit request before kept link client outcome left rounds ending runs = record {
  rounds = rounds;
  ending = ending;
  runs = runs;
  sent = all_sent limit rounds ending request before kept link client outcome left runs;
  told = all_told limit rounds ending request before kept link client outcome left runs;
  whole = all_whole limit rounds ending request before kept link client outcome left runs;
  left_is = λ memory. all_given limit rounds ending request before kept link client outcome left
      memory
      runs;
}
