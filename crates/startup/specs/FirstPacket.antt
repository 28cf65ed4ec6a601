-- The first packet of a connection (PostgreSQL manual, "Message Formats" and "Start-up"; the
-- greatest length, the refusals and the order of the checks are own). `Decides seen text outcome`:
-- these bytes decide this packet or this refusal. `IsOutcome` adds the two cases in which nothing
-- is decided: more bytes are needed, or the input has ended. Each text has one outcome.
use Rattle.std.specs.Prelude.{ℕ, ◌≡◌, ◌≢◌, ◌+◌, ◌<◌, ◌≤◌, ◌⊎◌, Bool, true, false, if◌then◌else◌, List, [], length, drop, string_bytes, Result, Ok, Err}
use Rattle.byteorder.specs.Endian.{big_number}
use Rattle.pg_ids.specs.AnyKey.{any_key_bytes}
use Rattle.pg_ids.specs.declared.any_key.Kind.{Kind}
use Rattle.startup.specs.Kinds.{Seen}
use Rattle.startup.specs.Packet.{startup_code, cancel_code, ssl_code, gss_code, cancel_request, ssl_request, gss_request, startup_message, Begins}
use Rattle.startup.specs.StartupMessage.{Parameter, AreParameters, body_of, user_of, database_of}
use Rattle.startup.specs.declared.startup_error.StartupError.{StartupError}
use Rattle.startup.specs.declared.startup_error.StartupError.TheVariants.{TooShort, TooLong, BadVersion, BadText, NoUser, BadCancelLength, Repeated, Truncated, Memory}
use Rattle.startup.specs.declared.first.First.{First}
use Rattle.startup.specs.declared.first.First.TheVariants as first

-- what a text is as a first packet
pub data Outcome : Type 0 where
  Startup : (kind : Kind) (user : List ℕ) (database : List ℕ) (used : ℕ) → Outcome
  Cancel : (key : List ℕ) → Outcome
  Ssl : Outcome
  Gss : Outcome
  More : Outcome
  Refused : (error : StartupError) → Outcome

-- the length field, which stands once four bytes do
abbrev pub length_of : List ℕ → ℕ
length_of text = big_number 4 text

-- the code, which stands once eight bytes do
abbrev pub code_of : List ℕ → ℕ
code_of text = big_number 4 (drop 4 text)

-- length and code stand, and the length is within the limits of every packet (the upper one is own)
pub record HasHeader (text : List ℕ) : Type 0 where
  pub stands : 8 ≤ length text
  pub lower : 8 ≤ length_of text
  pub upper : length_of text ≤ 10000

-- a header whose code asks for a negotiation, which the connection has seen before or not
abbrev pub Asks : Bool → Seen → List ℕ → Type 0
Asks before seen text =
    HasHeader text
    × (((code_of text ≡ ssl_code) × (seen.ssl ≡ before))
    ⊎ ((code_of text ≡ gss_code) × (seen.gss ≡ before)))

-- it asks for the first time, or again (own: one of each kind is allowed)
abbrev pub AsksFirst : Seen → List ℕ → Type 0
AsksFirst seen text = Asks false seen text

abbrev pub AsksAgain : Seen → List ℕ → Type 0
AsksAgain seen text = Asks true seen text

-- the text begins with the StartupMessage of this kind and body, whose length is within its limit
pub record StartsWith (kind : Kind) (text body : List ℕ) : Type 0 where
  pub begins : Begins text (startup_message kind body)
  pub upper : 8 + length body ≤ 10000

-- the text begins with the StartupMessage of this kind and these parameters
pub record Starts (kind : Kind) (text : List ℕ) (ps : List Parameter) : Type 0 where
  pub sendable : AreParameters ps
  pub message : StartsWith kind text (body_of ps)

-- key bytes are eight, or 24
abbrev pub IsKeyLength : ℕ → Type 0
IsKeyLength n = (n ≡ 8) ⊎ (n ≡ 24)

-- what the bytes that stand decide, whatever follows them
abbrev pub Decides : Seen → List ℕ → Outcome → Type 0
Decides seen text (Startup kind user database used) =
    (ps : List Parameter)
    × Starts kind text ps × (user ≢ []) × (user ≡ user_of ps) × (database ≡ database_of ps)
    × (used ≡ 8 + length (body_of ps))
Decides seen text (Cancel key) = IsKeyLength (length key) × Begins text (cancel_request key)
Decides seen text Ssl = (seen.ssl ≡ false) × Begins text ssl_request
Decides seen text Gss = (seen.gss ≡ false) × Begins text gss_request
Decides seen text More = ⊥
Decides seen text (Refused TooShort) = (4 ≤ length text) × (length_of text < 8)
Decides seen text (Refused TooLong) =
    ((4 ≤ length text) × (10000 < length_of text)) ⊎ (AsksFirst seen text × (8 < length_of text))
Decides seen text (Refused BadVersion) =
    HasHeader text × ((kind : Kind) → code_of text ≢ startup_code kind)
    × (code_of text ≢ cancel_code) × (code_of text ≢ ssl_code) × (code_of text ≢ gss_code)
Decides seen text (Refused BadText) =
    (kind : Kind) × (body : List ℕ) × StartsWith kind text body
    × ((ps : List Parameter) → AreParameters ps → body ≢ body_of ps)
Decides seen text (Refused NoUser) =
    (kind : Kind) × (ps : List Parameter) × Starts kind text ps × (user_of ps ≡ [])
Decides seen text (Refused BadCancelLength) =
    HasHeader text × (code_of text ≡ cancel_code) × (length_of text ≢ 16) × (length_of text ≢ 32)
Decides seen text (Refused Repeated) = AsksAgain seen text
Decides seen text (Refused Truncated) = ⊥
Decides seen text (Refused Memory) = ⊥

-- the bytes that stand decide nothing
abbrev pub IsUndecided : Seen → List ℕ → Type 0
IsUndecided seen text = (outcome : Outcome) → Decides seen text outcome → ⊥

-- the outcome of a text, of which more may come or not: what it decides, else more is wanted, or
-- at the end of input it is cut off
abbrev pub IsOutcome : Seen → List ℕ → Bool → Outcome → Type 0
IsOutcome seen text at_end outcome =
    Decides seen text outcome
    ⊎ (IsUndecided seen text × (outcome ≡ (if at_end then Refused Truncated else More)))

-- what an answer says
abbrev pub outcome_of : First → Outcome
outcome_of (first.Startup kind user database used)
    = Startup kind (string_bytes user) (string_bytes database) used
outcome_of (first.Cancel key) = Cancel (any_key_bytes key)
outcome_of first.Ssl = Ssl
outcome_of first.Gss = Gss
outcome_of first.More = More

-- a session begins
abbrev pub IsStartup : Outcome → Type 0
IsStartup (Startup kind user database used) = Unit {0}
IsStartup (Cancel key) = ⊥
IsStartup Ssl = ⊥
IsStartup Gss = ⊥
IsStartup More = ⊥
IsStartup (Refused error) = ⊥

-- the answer is this outcome; memory may run out for the texts of a session that begins, and for
-- nothing else
abbrev pub Tells : Result First StartupError → Outcome → Type 0
Tells (Ok answer) outcome = outcome ≡ outcome_of answer
Tells (Err error) outcome = (outcome ≡ Refused error) ⊎ (IsStartup outcome × (error ≡ Memory))

-- an answer tells the outcome of the text
pub record Answers (seen : Seen) (text : List ℕ) (at_end : Bool)
    (answer : Result First StartupError) : Type 0 where
  pub outcome : Outcome
  pub is : IsOutcome seen text at_end outcome
  pub told : Tells answer outcome

-- what a connection has seen after an answer: a negotiation counts once it is answered
abbrev pub seen_after : Seen → Result First StartupError → Seen
seen_after seen (Ok (first.Startup kind user database used)) = seen
seen_after seen (Ok (first.Cancel key)) = seen
seen_after seen (Ok first.Ssl) = record seen { ssl = true }
seen_after seen (Ok first.Gss) = record seen { gss = true }
seen_after seen (Ok first.More) = seen
seen_after seen (Err error) = seen
