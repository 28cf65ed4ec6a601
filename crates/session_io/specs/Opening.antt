-- How a connection begins (PostgreSQL manual, "Message Flow": Start-up; the refusals are own).
-- `Opens`: each request for encryption was declined; then a StartupMessage was read, or a
-- CancelRequest but for its last byte, which was seen; or the connection ended, with the error that
-- was written.
use Rattle.std.specs.Prelude.{◌≡◌, ◌⊎◌, ℕ, Bool, true, false, List, [], ◌∷◌, ◌++◌, length, replicate, string_bytes, Option, Some, None, Result, Ok, Err}
use Rattle.std.specs.List.{AllByRecursion, flat_map}
use Rattle.std.specs.declared.io.Error.{Error}
use Rattle.peer_forward.specs.Calls.{Call, Effect, taken}
use Rattle.pg_ids.specs.AnyKey.{any_key_bytes}
use Rattle.startup.specs.Kinds.{Seen, none_seen}
use Rattle.startup.specs.Packet.{ssl_request, gss_request}
use Rattle.startup.specs.FirstPacket.{Startup, Cancel as CancelPacket, Refused, Decides, IsOutcome}
use Rattle.startup.specs.Wanted.{LacksLast, IsWithin}
use Rattle.startup.specs.ErrorCode.{told_of_refusal}
use Rattle.startup.specs.declared.error_code.ErrorCode.{ErrorCode}
use Rattle.startup.specs.declared.startup_error.StartupError.{StartupError}
use Rattle.startup.specs.declared.startup_error.StartupError.TheVariants.{Memory}
use Rattle.client_state.specs.Acts.{fatal}
use Rattle.session_io.specs.declared.login.first_packets.Opened.{Opened}
use Rattle.session_io.specs.declared.login.first_packets.Opened.TheVariants.{Session, Cancel, Over}
use Rattle.session_io.specs.StreamCalls.{given, IsDone, SomeCalls}

-- a request for encryption
pub data Negotiation : Type 0 where
  Ssl : Negotiation
  Gss : Negotiation

-- its packet
abbrev pub packet_of : Negotiation → List ℕ
packet_of Ssl = ssl_request
packet_of Gss = gss_request

-- requests for encryption, each of a kind that wasn't seen before, and what was seen after them
abbrev pub Asks : Seen → List Negotiation → Seen → Type 0
Asks old [] new = new ≡ old
Asks old (Ssl ∷ more) new = (old.ssl ≡ false) × Asks (record old { ssl = true }) more new
Asks old (Gss ∷ more) new = (old.gss ≡ false) × Asks (record old { gss = true }) more new

-- No call failed. Requests for encryption were read, for each of which one byte N was written, and
-- then this was read.
pub record Negotiated (calls : List Call) (seen : Seen) (rest : List ℕ) : Type 0 where
  pub each : AllByRecursion IsDone calls
  pub asked : List Negotiation
  pub asks : Asks none_seen asked seen
  pub read : given calls ≡ flat_map packet_of asked ++ rest
  pub written : taken calls ≡ replicate (length asked) 78

-- the error of this code, or a beginning of it, was written; without a code nothing was
abbrev pub WritesError : Option ErrorCode → List Call → Type 0
WritesError None calls = taken calls ≡ []
WritesError (Some code) calls = (left : List ℕ) × (fatal code ≡ taken calls ++ left)

-- what a connection is refused for that has seen this, and of which this was read
abbrev pub IsRefusedFor : Seen → List ℕ → StartupError → Type 0
IsRefusedFor seen rest error =
    (error ≡ Memory) ⊎ ((at_end : Bool) × IsOutcome seen rest at_end (Refused error))

-- What the calls of a connection make of it: writes, reads, looks at what comes next; and what
-- refusing its first packets makes of it.
pub record Arriving (C : Type 0) : Type 1 where
  pub wrote : Effect C
  pub gave : Effect C
  pub saw : Effect C
  pub refused : C → StartupError → Bool → C → Type 0

-- these requests for encryption were declined, and then this was read
abbrev pub Reads : {C : Type 0} → Arriving C → C → Seen → List ℕ → C → Type 0
Reads calls old seen rest new =
    SomeCalls calls.wrote calls.gave old new (λ made. Negotiated made seen rest)

-- no byte was written
abbrev pub WritesNothing : {C : Type 0} → Arriving C → C → C → Type 0
WritesNothing calls old new =
    SomeCalls calls.wrote calls.gave old new (λ made. taken made ≡ [])

-- the error of a refusal was written, as far as the client takes it, where the connection says so
abbrev pub WritesRefusal : {C : Type 0} → Arriving C → StartupError → Bool → C → C → Type 0
WritesRefusal calls error true old new =
    SomeCalls calls.wrote calls.gave old new (WritesError (told_of_refusal error))
WritesRefusal calls error false old new = new ≡ old

-- The first packets were refused: the connection was told so, and then the error was written.
pub record Refuses {C : Type 0} (calls : Arriving C) (error : StartupError) (old new : C) : Type 0
  where
    pub answer : Bool
    pub told : C
    pub refused : calls.refused old error answer told
    pub written : WritesRefusal calls error answer told new

-- The connection is over: it is refused; or it is lost, and nothing is written.
abbrev pub EndsBy : {C : Type 0} → Arriving C → Seen → List ℕ → Option StartupError → C → C → Type 0
EndsBy calls seen rest None old new = WritesNothing calls old new
EndsBy {C} calls seen rest (Some error) old new = IsRefusedFor seen rest error
    × (next : C) × WritesNothing calls old next × Refuses calls error next new

abbrev pub Ends : {C : Type 0} → Arriving C → Seen → List ℕ → C → C → Type 0
Ends calls seen rest old new = (why : Option StartupError) × EndsBy calls seen rest why old new

-- a look that failed, or found the end of the input
abbrev pub SeesNothing : Result ℕ Error → Type 0
SeesNothing (Ok count) = count ≡ 0
SeesNothing (Err error) = Unit {0}

-- All of a CancelRequest was read but its last byte, at which one look was made in vain.
pub record EndsUnseen {C : Type 0} (calls : Arriving C) (seen : Seen) (rest : List ℕ) (old new : C)
    : Type 0 where
  pub lacks : LacksLast rest
  pub buffer : List ℕ
  pub room : length buffer ≡ 1
  pub result : Result ℕ Error
  pub next : C
  pub saw : calls.saw old buffer result next
  pub nothing : SeesNothing result
  pub ends : Ends calls seen rest next new

-- What a connection turned out to be. Nothing was read behind a StartupMessage or a request for
-- encryption, and the last byte of a CancelRequest isn't read: one look was made at it. For anything
-- else no look is made.
abbrev pub Opens : {C : Type 0} → Arriving C → C → Opened → C → Type 0
Opens calls old (Session database kind) new = (seen : Seen) × (user : List ℕ) × (packet : List ℕ)
    × Decides seen packet (Startup kind user (string_bytes database) (length packet))
    × Reads calls old seen packet new
Opens {C} calls old (Cancel key) new = (seen : Seen) × (front : List ℕ) × (last : ℕ)
    × LacksLast front × Decides seen (front ++ last ∷ []) (CancelPacket (any_key_bytes key))
    × (next : C) × Reads calls old seen front next × calls.saw next (last ∷ []) (Ok 1) new
Opens {C} calls old Over new = (seen : Seen) × (rest : List ℕ) × IsWithin rest
    × (next : C) × Reads calls old seen rest next
    × (Ends calls seen rest next new ⊎ EndsUnseen calls seen rest next new)

-- what a look at the last byte of a CancelRequest leads to of which this was read
abbrev pub Looks : {C : Type 0} → Arriving C → Seen → List ℕ → C → Opened → C → Type 0
Looks calls seen front old (Session database kind) new = ⊥
Looks calls seen front old (Cancel key) new = (last : ℕ)
    × Decides seen (front ++ last ∷ []) (CancelPacket (any_key_bytes key))
    × calls.saw old (last ∷ []) (Ok 1) new
Looks calls seen front old Over new = EndsUnseen calls seen front old new
