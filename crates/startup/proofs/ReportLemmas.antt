-- Reported parameters, and the login that reports them.
use Rattle.std.proofs.Common.{◌≡◌, ◌≢◌, ℕ, ◌+◌, ◌<◌, ◌≤◌, Bool, true, false, ◌||◌, ◌==◌, Option, Some, None, Result, Ok, Err, OnOk, List, [], ◌∷◌, ◌++◌, length, map, if◌then◌else◌, get_or, ltb, is_ok, zero, suc, refl, sym, ap, ◌∙◌, subst, arith, append_assoc, append-nil, length-append}
use Rattle.std.specs.List.{AllByRecursion, list_any}
use Rattle.std.specs.Str.{bytes_eq}
use Rattle.std.specs.String.{string_bytes}
use Rattle.std.proofs.lemmas.Bool.{false≢true, ltb-true, ltb-false, or_parts, eqb-false}
use Rattle.std.proofs.lemmas.List.{map-append}
use Rattle.std.proofs.lemmas.List.Concat.{flat_map-append}
use Rattle.std.proofs.lemmas.Slice.Eq.{bytes_eq-Decides}
use Rattle.pg_ids.specs.Key.{key_bytes}
use Rattle.pg_ids.specs.AnyKey.{long_part_bytes}
use Rattle.pg_ids.specs.declared.client_key.ClientKey.{ClientKey}
use Rattle.pg_ids.specs.declared.long_part.LongPart.{LongPart}
use Rattle.pg_ids.specs.declared.any_key.AnyKey.{AnyKey}
use Rattle.pg_ids.specs.declared.any_key.AnyKey.TheVariants.{Short, Long}
use Rattle.startup.specs.StartupMessage.{HasNoZero}
use Rattle.startup.specs.Replies.{Report, login, login_start, login_reporting, backend_key_data, ready_for_query, parameter_status, statuses}
use Rattle.startup.specs.Reports.{refusal, is_empty, has_zero, is_reported, length_with, IsReport, AreReportedOnce}
use Rattle.startup.specs.Stored.{AreKept, all_reported, reported, lent}
use Rattle.startup.specs.declared.report.Stored.{Stored}
use Rattle.startup.specs.declared.report.Report.{Report as Lent}
use Rattle.startup.specs.declared.report_error.ReportError.{ReportError}
use Rattle.startup.specs.declared.report_error.ReportError.TheVariants.{Name, Value, Fixed, Twice, TooLong}

-- a login that reports no further parameters is the one that every client gets
pub no_reports : (key : Option AnyKey) → login_reporting [] key ≡ login key
no_reports key = refl

-- what was appended is also this
pub appended : {X E : Type 0} (result : Result X E) (out old new more : List ℕ) → OnOk result (out ≡ old ++ new) → new ≡ more → OnOk result (out ≡ old ++ more)
appended (Ok x) out old new more h e = h ∙ ap (λ xs. old ++ xs) e
appended (Err error) out old new more h e = tt

-- a login in the parts that are written
login_is : (reports : List Report) (key : Option AnyKey) → login_start ++ (statuses reports ++ (backend_key_data key ++ ready_for_query)) ≡ login_reporting reports key
login_is reports key =
    ap (λ (xs : List ℕ). login_start ++ xs) (sym (append_assoc (statuses reports) (backend_key_data key) ready_for_query))

-- what is appended at a login, by its client's key
pub without_key : (reports : List Report) (messages : List ℕ) (key : Option AnyKey) → messages ≡ statuses reports → key ≡ None → login_start ++ (messages ++ (ready_for_query ++ [])) ≡ login_reporting reports key
without_key reports messages key text is =
    ap (λ (ms : List ℕ). login_start ++ (ms ++ (ready_for_query ++ []))) text
    ∙ login_is reports None ∙ ap (login_reporting reports) (sym is)

pub with_short_key : (reports : List Report) (messages : List ℕ) (key : Option AnyKey) (k : ClientKey) (bytes : List ℕ) → messages ≡ statuses reports → bytes ≡ key_bytes k → key ≡ Some (Short k) → login_start ++ (messages ++ ((75 ∷ 0 ∷ 0 ∷ 0 ∷ 12 ∷ []) ++ (bytes ++ (ready_for_query ++ [])))) ≡ login_reporting reports key
with_short_key reports messages key k bytes text spelled is =
    ap (λ (ms : List ℕ). login_start ++ (ms ++ ((75 ∷ 0 ∷ 0 ∷ 0 ∷ 12 ∷ []) ++ (bytes ++ (ready_for_query ++ []))))) text
    ∙ ap (λ (bs : List ℕ). login_start ++ (statuses reports ++ ((75 ∷ 0 ∷ 0 ∷ 0 ∷ 12 ∷ []) ++ (bs ++ (ready_for_query ++ []))))) spelled
    ∙ login_is reports (Some (Short k)) ∙ ap (login_reporting reports) (sym is)

pub with_long_key : (reports : List Report) (messages : List ℕ) (key : Option AnyKey) (k : ClientKey) (part : LongPart) (bytes more : List ℕ) → messages ≡ statuses reports → bytes ≡ key_bytes k → more ≡ long_part_bytes part → key ≡ Some (Long k part) → login_start ++ (messages ++ ((75 ∷ 0 ∷ 0 ∷ 0 ∷ 28 ∷ []) ++ (bytes ++ (more ++ (ready_for_query ++ []))))) ≡ login_reporting reports key
with_long_key reports messages key k part bytes more text spelled longer is =
    ap (λ (ms : List ℕ). login_start ++ (ms ++ ((75 ∷ 0 ∷ 0 ∷ 0 ∷ 28 ∷ []) ++ (bytes ++ (more ++ (ready_for_query ++ [])))))) text
    ∙ ap (λ (bs : List ℕ). login_start ++ (statuses reports ++ ((75 ∷ 0 ∷ 0 ∷ 0 ∷ 28 ∷ []) ++ (bs ++ (more ++ (ready_for_query ++ [])))))) spelled
    ∙ ap (λ (bs : List ℕ). login_start ++ (statuses reports ++ ((75 ∷ 0 ∷ 0 ∷ 0 ∷ 28 ∷ []) ++ (key_bytes k ++ (bs ++ (ready_for_query ++ [])))))) longer
    ∙ login_is reports (Some (Long k part)) ∙ ap (login_reporting reports) (sym is)

-- a parameter that isn't refused beside these
pub record Accepted (reports : List Report) (name value : List ℕ) : Type 0 where
  pub is : IsReport record { name = name; value = value }
  pub fresh : is_reported name reports ≡ false
  pub short : length_with reports name value ≤ 8000

no_zero : (text : List ℕ) → has_zero text ≡ false → HasNoZero text
no_zero [] none = tt
no_zero (byte ∷ bytes) none =
    let parts = or_parts (byte == 0) (has_zero bytes) none in
    (eqb-false byte 0 parts.0, no_zero bytes parts.1)

not_empty : (name : List ℕ) → is_empty name ≡ false → name ≢ []
not_empty [] is e = absurd (false≢true (sym is))
not_empty (byte ∷ bytes) is e = cc

passes : (b : Bool) (error : ReportError) (rest : Option ReportError) → (if b then Some error else rest) ≡ None → (b ≡ false) × (rest ≡ None)
passes true error rest e = absurd (cc)
passes false error rest e = (refl, e)

pub accepted : (reports : List Report) (name value : List ℕ) → refusal reports name value ≡ None → Accepted reports name value
unfolding refusal
accepted reports name value none =
    let first = passes _ Name _ none in
    let second = passes _ Value _ first.1 in
    let third = passes _ Fixed _ second.1 in
    let fourth = passes _ Twice _ third.1 in
    let last = passes _ TooLong _ fourth.1 in
    let named = or_parts (is_empty name) (has_zero name) first.0 in
    let total = ltb-false 8000 (length_with reports name value) last.0 in
    record {
      is = record {
        named = not_empty name named.0;
        name = no_zero name named.1;
        value = no_zero value second.0;
        free = third.0;
        short = below total;
      };
      fresh = fourth.0;
      short = total;
    }
  where
    below : length (statuses reports) + length (parameter_status name value) ≤ 8000 → length (parameter_status name value) ≤ 8000
    below total = omega arith

all_more : {A : Type 0} (P : A → Type 0) (xs : List A) (x : A) → AllByRecursion P xs → P x → AllByRecursion P (xs ++ x ∷ [])
all_more P [] x all p = (p, tt)
all_more P (y ∷ ys) x all p = (all.0, all_more P ys x all.1 p)

differ : (one other : List ℕ) → bytes_eq one other ≡ false → other ≢ one
differ one other is e = false≢true (sym is ∙ (bytes_eq-Decides one other).1 (sym e))

once_more : (reports : List Report) (report : Report) → AreReportedOnce reports → is_reported report.name reports ≡ false → AreReportedOnce (reports ++ report ∷ [])
once_more [] report once fresh = (tt, tt)
once_more (r ∷ rs) report once fresh =
    let parts = or_parts (bytes_eq r.name report.name) (is_reported report.name rs) fresh in
    (all_more _ rs report once.0 (differ r.name report.name parts.0), once_more rs report once.1 parts.1)

statuses_more : (reports : List Report) (report : Report) → statuses (reports ++ report ∷ []) ≡ statuses reports ++ parameter_status report.name report.value
statuses_more reports report =
    flat_map-append (λ (r : Report). parameter_status r.name r.value) reports (report ∷ [])
    ∙ ap (λ (xs : List ℕ). statuses reports ++ xs) (append-nil (parameter_status report.name report.value))

-- one more that isn't refused, with its message behind the others
pub kept_more : (reports : List Report) (messages : List ℕ) (report : Report) → AreKept reports messages → Accepted reports report.name report.value → AreKept (reports ++ report ∷ []) (messages ++ parameter_status report.name report.value)
kept_more reports messages report kept is =
    let more = statuses_more reports report in
    record {
      are = record {
        formed = all_more IsReport reports report kept.are.formed is.is;
        once = once_more reports report kept.are.once is.fresh;
        short = omega (arith, is.short, ap length more, length-append (statuses reports) (parameter_status report.name report.value));
      };
      text = ap (λ (xs : List ℕ). xs ++ parameter_status report.name report.value) kept.text ∙ sym more;
    }

-- what a push that succeeds leaves
pub pushed : {X T E : Type 0} (result : Result T E) (value : T) (new middle old : List X) (x : X) → result ≡ Ok value → new ≡ (if is_ok result then middle ++ x ∷ [] else middle) → middle ≡ old → new ≡ old ++ x ∷ []
pushed result value new middle old x ok is same =
    is ∙ ap (λ r. if is_ok r then middle ++ x ∷ [] else middle) ok ∙ ap (λ xs. xs ++ x ∷ []) same

-- the same once it was pushed
pub kept_pushed : (old new : List Stored) (messages longer : List ℕ) (stored : Stored) (name value : List ℕ) → AreKept (all_reported old) messages → Accepted (all_reported old) name value → reported stored ≡ record { name = name; value = value } → new ≡ old ++ stored ∷ [] → longer ≡ messages ++ parameter_status name value → AreKept (all_reported new) longer
kept_pushed old new messages longer stored name value kept is seen pushed written =
    let report : Report = record { name = name; value = value } in
    let all : all_reported new ≡ all_reported old ++ report ∷ [] =
    ap all_reported pushed ∙ map-append reported old (stored ∷ [])
    ∙ ap (λ (r : Report). all_reported old ++ r ∷ []) seen in
    subst (λ (rs : List Report). AreKept rs longer) (sym all)
    (subst (AreKept (all_reported old ++ report ∷ [])) (sym written) (kept_more (all_reported old) messages report kept is))

-- how many bytes a message has
pub length-parameter_status : (name value : List ℕ) → length (parameter_status name value) ≡ 7 + length name + length value
length-parameter_status name value = simp length-append (omega arith)

-- one of these that is lent
pub formed_at : (stored : List Stored) (place : ℕ) (found : Stored) (report : Lent) → AllByRecursion IsReport (all_reported stored) → true ≡ ltb place (length stored) → found ≡ get_or stored place found → lent report ≡ reported found → IsReport (lent report)
formed_at stored place found report all within is seen =
    subst IsReport (sym (seen ∙ ap reported is)) (at stored place all (ltb-true place (length stored) (sym within)) found)
  where
    at : (xs : List Stored) (k : ℕ) → AllByRecursion IsReport (all_reported xs) → k < length xs → (d : Stored) → IsReport (reported (get_or xs k d))
    at [] k all within d = absurd (omega arith)
    at (x ∷ xs) zero all within d = all.0
    at (x ∷ xs) (suc k) all within d = at xs k all.1 (omega arith) d

-- whether a name is among those that are kept
pub among : (name : List ℕ) (stored : List Stored) → list_any (λ one. bytes_eq (string_bytes one.name) name) stored ≡ is_reported name (map reported stored)
among name [] = refl
among name (one ∷ more) = ap (λ b. bytes_eq (string_bytes one.name) name || b) (among name more)
