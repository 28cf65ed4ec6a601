-- A text has one outcome: by its header a packet of one kind, and by the body one answer.
use Rattle.std.proofs.Common.{◌≡◌, ◌≢◌, ℕ, ◌+◌, ◌^◌, ◌<◌, ◌≤◌, ◌⊎◌, Bool, true, false, if◌then◌else◌, nat_lt, ◌==◌, List, [], ◌∷◌, length, take, drop, refl, sym, ap, ◌∙◌, subst, inl, inr, arith, lit<, lit≤}
use Rattle.std.proofs.lemmas.Bool.Decides.{nat_tests}
use Rattle.startup.specs.Kinds.{Seen}
use Rattle.pg_ids.specs.declared.any_key.Kind.{Kind}
use Rattle.pg_ids.specs.declared.any_key.Kind.TheVariants.{Short, Long}
use Rattle.startup.specs.Packet.{startup_code, cancel_code, ssl_code, gss_code, cancel_request, Begins}
use Rattle.startup.specs.StartupMessage.{Parameter, AreParameters, body_of, user_of, database_of}
use Rattle.startup.specs.FirstPacket.{Outcome, length_of, code_of, HasHeader, StartsWith, Starts, IsKeyLength, AsksFirst, AsksAgain, Decides, IsUndecided, IsOutcome, Startup, Cancel, Ssl, Gss, More, Refused}
use Rattle.startup.specs.declared.startup_error.StartupError.TheVariants.{TooShort, TooLong, BadVersion, BadText, NoUser, BadCancelLength, Repeated, Truncated, Memory}
use Rattle.startup.specs.Header.{IsHeaderCut}
use Rattle.startup.proofs.BodyLemmas.{one_body}
use Rattle.startup.proofs.PacketLemmas.{Fields, fields_of}

-- what a negotiation's length decides
unfoldable negotiated : Bool → ℕ → Outcome → Outcome
negotiated seen len asked = if seen then Refused Repeated else (if nat_lt 8 len then Refused TooLong else asked)

-- what the header decides, and the bytes behind it; More where a StartupMessage's body decides
unfoldable by_header : Bool → Bool → ℕ → ℕ → List ℕ → Outcome
by_header ssl gss len code behind =
    if nat_lt len 8 then Refused TooShort
    else (if nat_lt 10000 len then Refused TooLong
    else (if code == startup_code Short then More
    else (if code == startup_code Long then More
    else (if code == cancel_code then
    (if len == 16 then Cancel (take 8 behind) else (if len == 32 then Cancel (take 24 behind) else Refused BadCancelLength))
    else (if code == ssl_code then negotiated ssl len Ssl
    else (if code == gss_code then negotiated gss len Gss
    else Refused BadVersion))))))

-- the same of a text
abbrev by_text : Seen → List ℕ → Outcome
by_text seen text = by_header seen.ssl seen.gss (length_of text) (code_of text) (drop 8 text)

at_short : (ssl gss : Bool) (len code : ℕ) (key : List ℕ) → len < 8 → by_header ssl gss len code key ≡ Refused TooShort
unfolding by_header
at_short ssl gss len code key h = grind (arith, nat_tests)

at_long : (ssl gss : Bool) (len code : ℕ) (key : List ℕ) → 10000 < len → by_header ssl gss len code key ≡ Refused TooLong
unfolding by_header
at_long ssl gss len code key h = grind (arith, nat_tests)

at_startup : (kind : Kind) (ssl gss : Bool) (len code : ℕ) (key : List ℕ) → 8 ≤ len → len ≤ 10000 → code ≡ startup_code kind → by_header ssl gss len code key ≡ More
unfolding by_header
at_startup Short ssl gss len code key lower upper is = grind (arith, nat_tests)
at_startup Long ssl gss len code key lower upper is = grind (arith, nat_tests)

at_short_cancel : (ssl gss : Bool) (len code : ℕ) (key : List ℕ) → len ≡ 16 → code ≡ cancel_code → by_header ssl gss len code key ≡ Cancel (take 8 key)
unfolding by_header
at_short_cancel ssl gss len code key at is = grind (arith, nat_tests)

at_long_cancel : (ssl gss : Bool) (len code : ℕ) (key : List ℕ) → len ≡ 32 → code ≡ cancel_code → by_header ssl gss len code key ≡ Cancel (take 24 key)
unfolding by_header
at_long_cancel ssl gss len code key at is = grind (arith, nat_tests)

at_cancel : (ssl gss : Bool) (len code n : ℕ) (key : List ℕ) → IsKeyLength n → len ≡ 8 + n → code ≡ cancel_code → by_header ssl gss len code key ≡ Cancel (take n key)
at_cancel ssl gss len code n key (inl short) at is =
    at_short_cancel ssl gss len code key (omega arith) is ∙ ap (λ (m : ℕ). Cancel (take m key)) (sym short)
at_cancel ssl gss len code n key (inr long) at is =
    at_long_cancel ssl gss len code key (omega arith) is ∙ ap (λ (m : ℕ). Cancel (take m key)) (sym long)

at_bad_cancel : (ssl gss : Bool) (len code : ℕ) (key : List ℕ) → 8 ≤ len → len ≤ 10000 → len ≢ 16 → len ≢ 32 → code ≡ cancel_code → by_header ssl gss len code key ≡ Refused BadCancelLength
unfolding by_header
at_bad_cancel ssl gss len code key lower upper at other is = grind (arith, nat_tests)

at_ssl : (ssl gss : Bool) (len code : ℕ) (key : List ℕ) → 8 ≤ len → len ≤ 10000 → code ≡ ssl_code → by_header ssl gss len code key ≡ negotiated ssl len Ssl
unfolding by_header
at_ssl ssl gss len code key lower upper is = grind (arith, nat_tests)

at_gss : (ssl gss : Bool) (len code : ℕ) (key : List ℕ) → 8 ≤ len → len ≤ 10000 → code ≡ gss_code → by_header ssl gss len code key ≡ negotiated gss len Gss
unfolding by_header
at_gss ssl gss len code key lower upper is = grind (arith, nat_tests)

at_bad_version : (ssl gss : Bool) (len code : ℕ) (key : List ℕ) → 8 ≤ len → len ≤ 10000 → code ≢ startup_code Short → code ≢ startup_code Long → code ≢ cancel_code → code ≢ ssl_code → code ≢ gss_code → by_header ssl gss len code key ≡ Refused BadVersion
unfolding by_header
at_bad_version ssl gss len code key lower upper a b c d e = grind (arith, nat_tests)

negotiated_first : (seen : Bool) (len : ℕ) (asked : Outcome) → seen ≡ false → len ≡ 8 → negotiated seen len asked ≡ asked
unfolding negotiated
negotiated_first seen len asked new is = grind (arith, nat_tests)

negotiated_long : (seen : Bool) (len : ℕ) (asked : Outcome) → seen ≡ false → 8 < len → negotiated seen len asked ≡ Refused TooLong
unfolding negotiated
negotiated_long seen len asked new is = grind (arith, nat_tests)

negotiated_again : (seen : Bool) (len : ℕ) (asked : Outcome) → seen ≡ true → negotiated seen len asked ≡ Refused Repeated
unfolding negotiated
negotiated_again seen len asked again = grind (arith, nat_tests)

-- what the parameters of a body decide
unfoldable session : Kind → List ℕ → List ℕ → ℕ → Outcome
session kind [] database used = Refused NoUser
session kind (a ∷ more) database used = Startup kind (a ∷ more) database used

abbrev session_of : Kind → List Parameter → Outcome
session_of kind ps = session kind (user_of ps) (database_of ps) (8 + length (body_of ps))

session_named : (kind : Kind) (user database : List ℕ) (used : ℕ) → user ≢ [] → Startup kind user database used ≡ session kind user database used
unfolding session
session_named kind [] database used named = absurd (named refl)
session_named kind (a ∷ more) database used named = refl

session_unnamed : (kind : Kind) (user database : List ℕ) (used : ℕ) → user ≡ [] → Refused NoUser ≡ session kind user database used
unfolding session
session_unnamed kind [] database used unnamed = refl
session_unnamed kind (a ∷ more) database used unnamed = cc

-- what the body of a StartupMessage decides
abbrev ByParameters : Kind → List ℕ → Outcome → Type 0
ByParameters kind text outcome = (ps : List Parameter) × Starts kind text ps × (outcome ≡ session_of kind ps)

abbrev ByNone : Kind → List ℕ → Outcome → Type 0
ByNone kind text outcome =
    (body : List ℕ) × StartsWith kind text body × ((ps : List Parameter) → AreParameters ps → body ≢ body_of ps) × (outcome ≡ Refused BadText)

-- a text that a StartupMessage begins, and what its body decides
record ByBody (text : List ℕ) (outcome : Outcome) : Type 0 where
  header : HasHeader text
  kind : Kind
  code : code_of text ≡ startup_code kind
  body : List ℕ
  starts : StartsWith kind text body
  decided : ByParameters kind text outcome ⊎ ByNone kind text outcome

-- a packet's header
header_of : (text : List ℕ) (code : ℕ) (body : List ℕ) → Fields text code body → 8 + length body ≤ 10000 → HasHeader text
header_of text code body fields upper = record {
  stands = omega (arith, fields.whole);
  lower = omega (arith, fields.measured);
  upper = omega (arith, fields.measured);
}

small_code : (kind : Kind) → startup_code kind < 2 ^ 32
small_code Short = lit< tt
small_code Long = lit< tt

startup_fields : (kind : Kind) (text body : List ℕ) → StartsWith kind text body → Fields text (startup_code kind) body
startup_fields kind text body starts = fields_of text (startup_code kind) body (small_code kind) (omega (arith, starts.upper)) starts.begins

few_key_bytes : (n : ℕ) → IsKeyLength n → n ≤ 24
few_key_bytes n (inl short) = omega arith
few_key_bytes n (inr long) = omega arith

cancel_fields : (text key : List ℕ) → IsKeyLength (length key) → Begins text (cancel_request key) → Fields text cancel_code key
cancel_fields text key sized begins =
    let few = few_key_bytes (length key) sized in fields_of text cancel_code key (lit< tt) (omega (arith, few)) begins

too_long : (seen : Seen) (text : List ℕ) → AsksFirst seen text → 8 < length_of text → Refused TooLong ≡ by_text seen text
too_long seen text (header, inl ssl) long =
    sym (at_ssl _ _ _ _ _ header.lower header.upper ssl.0 ∙ negotiated_long _ _ _ ssl.1 long)
too_long seen text (header, inr gss) long =
    sym (at_gss _ _ _ _ _ header.lower header.upper gss.0 ∙ negotiated_long _ _ _ gss.1 long)

repeated : (seen : Seen) (text : List ℕ) → AsksAgain seen text → Refused Repeated ≡ by_text seen text
repeated seen text (header, inl ssl) =
    sym (at_ssl _ _ _ _ _ header.lower header.upper ssl.0 ∙ negotiated_again _ _ _ ssl.1)
repeated seen text (header, inr gss) =
    sym (at_gss _ _ _ _ _ header.lower header.upper gss.0 ∙ negotiated_again _ _ _ gss.1)

by_parameters : (kind : Kind) (text : List ℕ) (ps : List Parameter) (outcome : Outcome) → Starts kind text ps → outcome ≡ session_of kind ps → ByBody text outcome
by_parameters kind text ps outcome starts is =
    let fields = startup_fields kind text _ starts.message in
    record {
      kind = kind;
      header = header_of text _ _ fields starts.message.upper;
      code = fields.coded;
      body = _;
      starts = starts.message;
      decided = inl (ps, starts, is);
    }

same_session : (kind : Kind) (user user' database database' : List ℕ) (used used' : ℕ) → user ≡ user' → database ≡ database' → used ≡ used' → session kind user database used ≡ session kind user' database' used'
same_session kind user user' database database' used used' a b c = cc

-- what is decided by the header alone, or by a StartupMessage's body
decided_by : (seen : Seen) (text : List ℕ) (outcome : Outcome) → Decides seen text outcome → (outcome ≡ by_text seen text) ⊎ ByBody text outcome
decided_by seen text (Startup kind user database used) d =
    let is : Startup kind user database used ≡ session_of kind d.0 = session_named _ _ _ _ d.2 ∙ same_session _ _ _ _ _ _ _ d.3 d.4 d.5 in
    inr (by_parameters kind text d.0 _ d.1 is)
decided_by seen text (Cancel key) d =
    let fields = cancel_fields text key d.0 d.1 in
    inl (ap (λ (k : List ℕ). Cancel k) fields.bodied ∙ sym (at_cancel _ _ _ _ (length key) _ d.0 fields.measured fields.coded))
decided_by seen text Ssl d =
    let fields = fields_of text ssl_code [] (lit< tt) (lit< tt) d.1 in
    inl (sym (at_ssl _ _ _ _ _ (omega (arith, fields.measured)) (omega (arith, fields.measured)) fields.coded ∙ negotiated_first _ _ _ d.0 fields.measured))
decided_by seen text Gss d =
    let fields = fields_of text gss_code [] (lit< tt) (lit< tt) d.1 in
    inl (sym (at_gss _ _ _ _ _ (omega (arith, fields.measured)) (omega (arith, fields.measured)) fields.coded ∙ negotiated_first _ _ _ d.0 fields.measured))
decided_by seen text More d = absurd d
decided_by seen text (Refused TooShort) d = inl (sym (at_short _ _ _ _ _ d.1))
decided_by seen text (Refused TooLong) (inl d) = inl (sym (at_long _ _ _ _ _ d.1))
decided_by seen text (Refused TooLong) (inr d) = inl (too_long seen text d.0 d.1)
decided_by seen text (Refused BadVersion) d =
    inl (sym (at_bad_version _ _ _ _ _ d.0.lower d.0.upper (d.1 Short) (d.1 Long) d.2 d.3 d.4))
decided_by seen text (Refused BadText) d =
    let fields = startup_fields d.0 text _ d.2 in
    inr (record { header = header_of text _ _ fields d.2.upper; kind = d.0; code = fields.coded; body = _; starts = d.2; decided = inr (d.1, d.2, d.3, refl) })
decided_by seen text (Refused NoUser) d =
    inr (by_parameters d.0 text d.1 _ d.2 (session_unnamed _ _ _ _ d.3))
decided_by seen text (Refused BadCancelLength) d = inl (sym (at_bad_cancel _ _ _ _ _ d.0.lower d.0.upper d.2 d.3 d.1))
decided_by seen text (Refused Repeated) d = inl (repeated seen text d)
decided_by seen text (Refused Truncated) d = absurd d
decided_by seen text (Refused Memory) d = absurd d

-- a text begins with one StartupMessage
one_message : (kind : Kind) (text a b : List ℕ) → StartsWith kind text a → StartsWith kind text b → a ≡ b
one_message kind text a b starts_a starts_b =
    let fields_a = startup_fields kind text a starts_a in
    let fields_b = startup_fields kind text b starts_b in
    let same : length a ≡ length b = omega (arith, fields_a.measured, fields_b.measured) in
    fields_a.bodied ∙ ap (λ (n : ℕ). take n (drop 8 text)) same ∙ sym fields_b.bodied

one_session : (kind : Kind) (text : List ℕ) (a b : Outcome) → ByParameters kind text a ⊎ ByNone kind text a → ByParameters kind text b ⊎ ByNone kind text b → a ≡ b
one_session kind text a b (inl (ps, starts, is)) (inl (qs, starts', is')) =
    let same = one_body ps qs starts.sendable.formed starts'.sendable.formed (one_message kind text _ _ starts.message starts'.message) in
    is ∙ ap (session_of kind) same ∙ sym is'
one_session kind text a b (inl (ps, starts, is)) (inr (body, begins, none, is')) =
    absurd (none ps starts.sendable (one_message kind text _ _ begins starts.message))
one_session kind text a b (inr (body, begins, none, is)) (inl (ps, starts, is')) =
    absurd (none ps starts.sendable (one_message kind text _ _ begins starts.message))
one_session kind text a b (inr (body, begins, none, is)) (inr (body', begins', none', is')) = is ∙ sym is'

-- and it has one kind
one_kind : (a b : Kind) → startup_code a ≡ startup_code b → a ≡ b
one_kind Short Short e = refl
one_kind Short Long e = absurd (omega arith)
one_kind Long Short e = absurd (omega arith)
one_kind Long Long e = refl

-- where a StartupMessage's body decides, the header doesn't
header_alone : (seen : Seen) (text : List ℕ) (outcome : Outcome) (kind : Kind) → HasHeader text → code_of text ≡ startup_code kind → Decides seen text outcome → outcome ≡ by_text seen text → ⊥
header_alone seen text outcome kind header code d is =
    subst (Decides seen text) (is ∙ at_startup kind _ _ _ _ _ header.lower header.upper code) d

both : (seen : Seen) (text : List ℕ) (a b : Outcome) → Decides seen text a → Decides seen text b → (a ≡ by_text seen text) ⊎ ByBody text a → (b ≡ by_text seen text) ⊎ ByBody text b → a ≡ b
both seen text a b is_a is_b (inl p) (inl q) = p ∙ sym q
both seen text a b is_a is_b (inl p) (inr q) = absurd (header_alone seen text a q.kind q.header q.code is_a p)
both seen text a b is_a is_b (inr p) (inl q) = absurd (header_alone seen text b p.kind p.header p.code is_b q)
both seen text a b is_a is_b (inr p) (inr q) =
    let same = one_kind q.kind p.kind (sym q.code ∙ p.code) in
    one_session p.kind text a b p.decided (subst (λ (kind : Kind). ByParameters kind text b ⊎ ByNone kind text b) same q.decided)

-- a text decides one outcome
pub one_decision : (seen : Seen) (text : List ℕ) (a b : Outcome) → Decides seen text a → Decides seen text b → a ≡ b
one_decision seen text a b is_a is_b =
    both seen text a b is_a is_b (decided_by seen text a is_a) (decided_by seen text b is_b)

-- a text has one outcome
pub one_outcome : (seen : Seen) (text : List ℕ) (at_end : Bool) (a b : Outcome) → IsOutcome seen text at_end a → IsOutcome seen text at_end b → a ≡ b
one_outcome seen text at_end a b (inl p) (inl q) = one_decision seen text a b p q
one_outcome seen text at_end a b (inl p) (inr q) = absurd (q.0 a p)
one_outcome seen text at_end a b (inr p) (inl q) = absurd (p.0 b q)
one_outcome seen text at_end a b (inr p) (inr q) = p.1 ∙ sym q.1

-- what a decision stands on: a length past its limits, or a header
stands : (seen : Seen) (text : List ℕ) (outcome : Outcome) → Decides seen text outcome → ((4 ≤ length text) × ((length_of text < 8) ⊎ (10000 < length_of text))) ⊎ HasHeader text
stands seen text (Startup kind user database used) d =
    inr (header_of text _ _ (startup_fields kind text _ d.1.message) d.1.message.upper)
stands seen text (Cancel key) d =
    inr (header_of text _ _ (cancel_fields text key d.0 d.1) (let few = few_key_bytes (length key) d.0 in omega (arith, few)))
stands seen text Ssl d = inr (header_of text _ _ (fields_of text ssl_code [] (lit< tt) (lit< tt) d.1) (lit≤ tt))
stands seen text Gss d = inr (header_of text _ _ (fields_of text gss_code [] (lit< tt) (lit< tt) d.1) (lit≤ tt))
stands seen text More d = absurd d
stands seen text (Refused TooShort) d = inl (d.0, inl d.1)
stands seen text (Refused TooLong) (inl d) = inl (d.0, inr d.1)
stands seen text (Refused TooLong) (inr d) = inr d.0.0
stands seen text (Refused BadVersion) d = inr d.0
stands seen text (Refused BadText) d = inr (header_of text _ _ (startup_fields d.0 text _ d.2) d.2.upper)
stands seen text (Refused NoUser) d =
    inr (header_of text _ _ (startup_fields d.0 text _ d.2.message) d.2.message.upper)
stands seen text (Refused BadCancelLength) d = inr d.0
stands seen text (Refused Repeated) d = inr d.0
stands seen text (Refused Truncated) d = absurd d
stands seen text (Refused Memory) d = absurd d

-- nothing is decided before the header stands, where the length is within its limits
pub undecided_cut : (seen : Seen) (text : List ℕ) → IsHeaderCut text → IsUndecided seen text
undecided_cut seen text cut outcome d = no_ground text cut (stands seen text outcome d)
  where
    no_ground : (text : List ℕ) → IsHeaderCut text → ((4 ≤ length text) × ((length_of text < 8) ⊎ (10000 < length_of text))) ⊎ HasHeader text → ⊥
    no_ground text (short, inl none) (inl (four, past)) = omega arith
    no_ground text (short, inr within) (inl (four, inl past)) = omega arith
    no_ground text (short, inr within) (inl (four, inr past)) = omega arith
    no_ground text (short, limits) (inr header) = omega (arith, header.stands)

-- a CancelRequest's header decides nothing before its key stands
pub undecided_cancel : (seen : Seen) (text : List ℕ) (n : ℕ) → HasHeader text → code_of text ≡ cancel_code → IsKeyLength n → length_of text ≡ 8 + n → length text < 8 + n → IsUndecided seen text
undecided_cancel seen text n header code sized measured cut outcome d = no_ground (decided_by seen text outcome d)
  where
    no_startup : (kind : Kind) → code_of text ≡ startup_code kind → ⊥
    no_startup Short e = omega (arith, code)
    no_startup Long e = omega (arith, code)

    no_ground : (outcome ≡ by_text seen text) ⊎ ByBody text outcome → ⊥
    no_ground (inl is) = no_key (subst (Decides seen text) (is ∙ at_cancel _ _ _ _ n _ sized measured code) d)
      where
        no_key : Decides seen text (Cancel (take n (drop 8 text))) → ⊥
        no_key d = let fields = cancel_fields text _ d.0 d.1 in omega (arith, fields.whole, fields.measured, measured)
    no_ground (inr by) = no_startup by.kind by.code

-- a StartupMessage's header decides nothing before the whole packet stands
pub undecided_startup : (kind : Kind) (seen : Seen) (text : List ℕ) → HasHeader text → code_of text ≡ startup_code kind → length text < length_of text → IsUndecided seen text
undecided_startup kind seen text header code cut outcome d = no_ground (decided_by seen text outcome d)
  where
    no_ground : (outcome ≡ by_text seen text) ⊎ ByBody text outcome → ⊥
    no_ground (inl is) = header_alone seen text outcome kind header code d is
    no_ground (inr by) = let fields = startup_fields by.kind text by.body by.starts in omega (arith, fields.whole, fields.measured)
