-- Answers that tell a text's outcome.
use Rattle.std.proofs.Common.{◌≡◌, ℕ, ◌+◌, ◌-◌, ◌<◌, ◌≤◌, ◌⊎◌, Bool, true, false, if◌then◌else◌, nat_lt, ◌==◌, List, [], length, take, drop, Result, Ok, Err, refl, sym, ap, ◌∙◌, subst, inl, inr, arith, length-take, length-drop}
use Rattle.std.proofs.lemmas.Bool.{false≢true, cases_lt, cond_below, cond_above}
use Rattle.std.specs.Prelude.{String, string_bytes}
use Rattle.std.specs.declared.alloc.Global.{Global}
use Rattle.pg_ids.specs.declared.any_key.Kind.{Kind}
use Rattle.startup.specs.Kinds.{Seen}
use Rattle.startup.specs.Packet.{startup_code, cancel_code, packet, cancel_request, Begins}
use Rattle.startup.specs.FirstPacket.{Outcome, outcome_of, length_of, code_of, HasHeader, Asks, StartsWith, IsKeyLength, Decides, IsUndecided, IsOutcome, Answers, Tells, Startup, More, Refused}
use Rattle.startup.specs.StartupMessage.{unless_empty}
use Rattle.startup.specs.Session.{IsSessionOf}
use Rattle.startup.specs.declared.session.Session.{Session}
use Rattle.startup.specs.Header.{IsHeaderRead}
use Rattle.startup.specs.declared.startup_error.StartupError.{StartupError}
use Rattle.startup.specs.declared.startup_error.StartupError.TheVariants.{TooShort, TooLong, NoUser, Repeated, Truncated, Memory}
use Rattle.startup.specs.declared.first.First.{First}
use Rattle.startup.specs.declared.first.First.TheVariants as first
use Rattle.startup.proofs.PacketLemmas.{Fields, AreBytes, begins_packet}
use Rattle.startup.proofs.DecisionLemmas.{one_outcome}

-- an answer tells no other outcome
pub told_only : (seen : Seen) (text : List ℕ) (at_end : Bool) (result : Result First StartupError) → Answers seen text at_end result → (outcome : Outcome) → IsOutcome seen text at_end outcome → Tells result outcome
told_only seen text at_end result answers outcome is =
    subst (Tells result) (one_outcome seen text at_end answers.outcome outcome answers.is is) answers.told

-- a refusal
pub refused : (seen : Seen) (text : List ℕ) (at_end : Bool) (error : StartupError) → Decides seen text (Refused error) → Answers seen text at_end (Err error)
refused seen text at_end error decides = record { outcome = Refused error; is = inl decides; told = inl refl }

-- the answer where nothing is decided
pub undecided : (seen : Seen) (text : List ℕ) (at_end : Bool) (result : Result First StartupError) → IsUndecided seen text → result ≡ (if at_end then Err Truncated else Ok first.More) → Answers seen text at_end result
undecided seen text true result none is =
    subst (Answers seen text true) (sym is) (record { outcome = Refused Truncated; is = inr (none, refl); told = inl refl })
undecided seen text false result none is =
    subst (Answers seen text false) (sym is) (record { outcome = More; is = inr (none, refl); told = refl })

-- what a header is refused for
pub header_refused : (seen : Seen) (text : List ℕ) (at_end : Bool) (error : StartupError) → IsHeaderRead text (Err error) → Answers seen text at_end (Err error)
header_refused seen text at_end error (four, inl short) =
    subst (λ (e : StartupError). Answers seen text at_end (Err e)) (sym short.0) (refused seen text at_end TooShort (four, short.1))
header_refused seen text at_end error (four, inr long) =
    subst (λ (e : StartupError). Answers seen text at_end (Err e)) (sym long.0) (refused seen text at_end TooLong (inl (four, long.1)))

-- a whole CancelRequest
pub cancelled : (text key : List ℕ) (n : ℕ) → AreBytes text → code_of text ≡ cancel_code → IsKeyLength n → length_of text ≡ 8 + n → 8 + n ≤ length text → key ≡ take n (drop 8 text) → IsKeyLength (length key) × Begins text (cancel_request key)
cancelled text key n bytes code sized measured whole is =
    let same : length key ≡ n = ap length is ∙ omega (arith, length-take n (drop 8 text), length-drop 8 text) in
    let fields : Fields text cancel_code key = record {
      whole = omega arith;
      measured = omega arith;
      coded = code;
      bodied = is ∙ ap (λ (m : ℕ). take m (drop 8 text)) (sym same);
    } in
    (subst IsKeyLength (sym same) sized, begins_packet text cancel_code key bytes fields)

-- a header alone, whose length is 8
pub begins_alone : (text : List ℕ) (code : ℕ) → AreBytes text → HasHeader text → code_of text ≡ code → length_of text ≡ 8 → Begins text (packet code [])
begins_alone text code bytes header is measured =
    begins_packet text code [] bytes (record { whole = header.stands; measured = measured; coded = is; bodied = refl })

-- the answer to a header that asks for a negotiation, which the connection has seen before or not
pub negotiated : (before : Bool) (seen : Seen) (text : List ℕ) (at_end : Bool) (len : ℕ) (asked : First) (result : Result First StartupError) → Asks before seen text → len ≡ length_of text → (before ≡ false → length_of text ≡ 8 → Decides seen text (outcome_of asked)) → result ≡ (if before then Err Repeated else (if nat_lt 8 len then Err TooLong else Ok asked)) → Answers seen text at_end result
negotiated true seen text at_end len asked result asks measured decides is =
    subst (Answers seen text at_end) (sym is) (refused seen text at_end Repeated asks)
negotiated false seen text at_end len asked result asks measured decides is = first_time (cases_lt 8 len)
  where
    first_time : (8 < len) ⊎ (len ≤ 8) → Answers seen text at_end result
    first_time (inl long) =
        subst (Answers seen text at_end) (sym (is ∙ sym (cond_below 8 len (Err TooLong) (Ok asked) long))) (refused seen text at_end TooLong (inr (asks, omega arith)))
    first_time (inr short) =
        let shortest = asks.0.lower in
        subst (Answers seen text at_end) (sym (is ∙ sym (cond_above 8 len (Err TooLong) (Ok asked) (Ok asked) short refl))) (record { outcome = outcome_of asked; is = inl (decides refl (omega (arith, shortest))); told = refl })

-- a whole StartupMessage, by its header and body
pub starts_with_body : (kind : Kind) (text : List ℕ) (len : ℕ) → AreBytes text → HasHeader text → code_of text ≡ startup_code kind → len ≡ length_of text → len ≤ length text → StartsWith kind text (take (len - 8) (drop 8 text))
starts_with_body kind text len bytes header code is whole =
    let body = take (len - 8) (drop 8 text) in
    let measured : length body ≡ len - 8 = omega (arith, header.lower, length-take (len - 8) (drop 8 text), length-drop 8 text) in
    let fields : Fields text (startup_code kind) body = record {
      whole = omega (arith, header.lower);
      measured = omega (arith, header.lower);
      coded = code;
      bodied = ap (λ (n : ℕ). take n (drop 8 text)) (sym measured);
    } in
    record { begins = begins_packet text (startup_code kind) body bytes fields; upper = omega (arith, header.upper, header.lower) }

same_unless_empty : (a b c d : List ℕ) → a ≡ c → b ≡ d → unless_empty a b ≡ unless_empty c d
same_unless_empty a b c d p q = ap (λ (t : List ℕ). unless_empty t b) p ∙ ap (λ (t : List ℕ). unless_empty c t) q

not_empty : (xs : List ℕ) → false ≡ (length xs == 0) → xs ≡ [] → ⊥
not_empty xs has none = false≢true (has ∙ ap (λ (ys : List ℕ). length ys == 0) none)

-- the session of a whole StartupMessage
pub begun : (kind : Kind) (text : List ℕ) (len : ℕ) (session : Session) → StartsWith kind text (take (len - 8) (drop 8 text)) → HasHeader text → len ≡ length_of text → len ≤ length text → IsSessionOf session (take (len - 8) (drop 8 text)) → false ≡ (length session.user.now == 0) → (seen : Seen) → Decides seen text (Startup kind session.user.now (unless_empty session.database.now session.user.now) len)
begun kind text len session starts header measured whole of named seen =
    let body = take (len - 8) (drop 8 text) in
    let is : len ≡ 8 + length body = omega (arith, header.lower, length-take (len - 8) (drop 8 text), length-drop 8 text) in
    (of.parameters, record { sendable = of.sendable; message = subst (StartsWith kind text) of.spelled starts }, not_empty session.user.now named, of.user, same_unless_empty _ _ _ _ of.database of.user, is ∙ ap (λ (b : List ℕ). 8 + length b) of.spelled)

pub unnamed : (kind : Kind) (text body : List ℕ) (session : Session) → StartsWith kind text body → IsSessionOf session body → session.user.now ≡ [] → (seen : Seen) → Decides seen text (Refused NoUser)
unnamed kind text body session starts of empty seen =
    (kind, of.parameters, record { sendable = of.sendable; message = subst (StartsWith kind text) of.spelled starts }, sym of.user ∙ empty)

-- memory runs out where a session begins
pub wanting : (kind : Kind) (seen : Seen) (text : List ℕ) (at_end : Bool) (user database : List ℕ) (used : ℕ) → Decides seen text (Startup kind user database used) → Answers seen text at_end (Err Memory)
wanting kind seen text at_end user database used decides =
    record { outcome = Startup kind user database used; is = inl decides; told = inr (tt, refl) }

same_startup : (kind : Kind) (a b c d : List ℕ) (n : ℕ) → a ≡ c → b ≡ d → Startup kind a b n ≡ Startup kind c d n
same_startup kind a b c d n p q =
    ap (λ (t : List ℕ). Startup kind t b n) p ∙ ap (λ (t : List ℕ). Startup kind c t n) q

pub told_startup : (kind : Kind) (seen : Seen) (text : List ℕ) (at_end : Bool) (user database : List ℕ) (used : ℕ) (u d : String Global) → Decides seen text (Startup kind user database used) → string_bytes u ≡ user → string_bytes d ≡ database → Answers seen text at_end (Ok (first.Startup kind u d used))
told_startup kind seen text at_end user database used u d decides is_user is_database =
    record { outcome = Startup kind user database used; is = inl decides; told = same_startup kind _ _ _ _ used (sym is_user) (sym is_database) }
